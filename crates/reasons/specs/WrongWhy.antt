-- Which parameter is the first hint, or the first with a value that its key does not allow: along the parameters of a field. Assumes nothing.
use Rattle.std.specs.Prelude.{◌≡◌, refl, ◌⊎◌, Bool, true, false, cond, not, ◌||◌, List, [], ◌∷◌, ◌++◌, ℕ, ◌+◌, eqb, length}
use Rattle.std.proofs.Common.{sym, ap, ap₂, ◌∙◌, subst, inl, inr, true≢false, arith, length-append, eqb-true}
use Rattle.std.proofs.lemmas.Bool.{not-true, not-false}
use Rattle.octets.specs.Cases.{by-test}
use Rattle.octets.specs.Lists.{All}
use Rattle.octets.specs.ListsLaws.{all_left}
use Rattle.octets.specs.Numbers.{Bytes}
use Rattle.numbers.specs.Fault as fault
use Rattle.svcparams.specs.Key as key
use Rattle.svcparams.specs.Param.{Param, keys}
use Rattle.svcparams.specs.Params.{size_of, is_hint, has_hint, value_good, all_good, params_fault}
use Rattle.svcparams.specs.Entries.{keys_in}
use Rattle.svcparams.specs.TilingLaws.{entries-tiled}
use Rattle.svcparams.specs.Accepted.{put, field_of, Fits, Ordered, Hinted, Allowed}
use Rattle.svcparams.specs.FieldLaws.{put-size, put_first, put_rest, field-octets}
use Rattle.svcparams.proofs.AcceptedLaws.{means-hint, values-means, means-values}
use Rattle.svcparams.proofs.Exactly.{tiled-exactly, hint-exactly, value-exactly}
use Rattle.reasons.specs.Params as told
use Rattle.reasons.specs.Params.{param, nothing, wrong_of, wrong_from, param_for}
use Rattle.reasons.specs.ParamsLaws.{whole-wrong}
use Rattle.reasons.specs.Claims.{FirstHint, FirstForbidden}

-- ---- the first parameter of a list that a test finds

abbrev found : (Param → Bool) → ℕ → List Param → told.Param
found test at [] = nothing
found test at (kv ∷ kvs) = cond (test kv) (param at kv.key) (found test (at + (4 + length kv.value)) kvs)

record First (test : Param → Bool) (at : ℕ) (kvs : List Param) (r : told.Param) : Type 0 where
  pub front : List Param
  pub kv : Param
  pub back : List Param
  pub is : kvs ≡ front ++ (kv ∷ back)
  pub place : r.at ≡ at + length (field_of front)
  pub key : r.key ≡ kv.key
  pub tested : test kv ≡ true
  pub before : All (λ (kv : Param). test kv ≡ false) front

first_of : (test : Param → Bool) (at : ℕ) (kvs : List Param) → (All (λ (kv : Param). test kv ≡ false) kvs → ⊥)
    → First test at kvs (found test at kvs)
first_of test at [] n = absurd (n tt)
first_of test at (kv ∷ kvs) n =
    by-test (test kv) (λ b. First test at (kv ∷ kvs) (cond b (param at kv.key) (found test (at + (4 + length kv.value)) kvs)))
    (λ t. record { front = []; kv = kv; back = kvs; is = refl; place = omega arith; key = refl; tested = t; before = tt })
    (λ t. next t (first_of test (at + (4 + length kv.value)) kvs (λ a. n (t, a))))
  where
    next : test kv ≡ false → First test (at + (4 + length kv.value)) kvs (found test (at + (4 + length kv.value)) kvs)
        → First test at (kv ∷ kvs) (found test (at + (4 + length kv.value)) kvs)
    next t r =
        let a = r.place in
        let b = length-append kv.value (field_of r.front) in
        record {
          front = kv ∷ r.front;
          kv = r.kv;
          back = r.back;
          is = ap (λ (l : List Param). kv ∷ l) r.is;
          place = omega arith;
          key = r.key;
          tested = r.tested;
          before = (t, r.before);
        }

wrong-found : (hints : Bool) (ks : List ℕ) (at : ℕ) (kvs : List Param) → All Fits kvs
    → wrong_from hints ks 0 at (field_of kvs) ≡ found (λ (kv : Param). wrong_of hints ks kv.key kv.value) at kvs
unfolding wrong_from
wrong-found hints ks at [] f = refl
wrong-found hints ks at (kv ∷ kvs) f =
    let l : List ℕ = field_of kvs in
    let z = put-size kv l f.0 in
    let judge : Param → told.Param → told.Param = λ x r. cond (wrong_of hints ks x.key x.value) (param at x.key) r in
    whole-wrong hints ks at (put kv l) (λ y. omega arith)
    ∙ ap₂ (λ (x : Param) (r : List ℕ). judge x (wrong_from hints ks 0 (at + size_of (put kv l)) r)) (put_first kv l f.0) (put_rest kv l f.0)
    ∙ ap (λ (n : ℕ). judge kv (wrong_from hints ks 0 (at + n) l)) z
    ∙ ap (judge kv) (wrong-found hints ks (at + (4 + length kv.value)) kvs f.1)

-- the keys of a field in order
keys-are : (p : List ℕ) (kvs : List Param) → Bytes p → Ordered p kvs → keys_in p ≡ keys kvs
keys-are p kvs o w = ap keys (entries-tiled p kvs ((tiled-exactly p kvs o).1 (w.laid, w.fits)))

wrong-is : (hints : Bool) (p : List ℕ) (kvs : List Param) → Bytes p → Ordered p kvs
    → wrong_from hints (keys_in p) 0 0 p ≡ found (λ (kv : Param). wrong_of hints (keys kvs) kv.key kv.value) 0 kvs
wrong-is hints p kvs o w =
    ap₂ (λ (ks l : List ℕ). wrong_from hints ks 0 0 l) (keys-are p kvs o w) w.laid
    ∙ wrong-found hints (keys kvs) 0 kvs w.fits

-- ---- hints

unhinted : (kvs : List Param) → All (λ (kv : Param). is_hint kv.key ≡ false) kvs → has_hint (keys kvs) ≡ false
unfolding has_hint keys
unhinted [] a = refl
unhinted (kv ∷ kvs) a = simp a.0 (unhinted kvs a.1)

which-hint : (k : ℕ) → is_hint k ≡ true → (k ≡ key.ipv4hint) ⊎ (k ≡ key.ipv6hint)
which-hint k =
    by-test (eqb k key.ipv4hint) (λ b. b || eqb k key.ipv6hint ≡ true → (k ≡ key.ipv4hint) ⊎ (k ≡ key.ipv6hint))
    (λ t _. inl (eqb-true _ _ t))
    (λ t e. inr (eqb-true _ _ e))

pub hint-true : (p : List ℕ) → Bytes p → params_fault p ≡ fault.hint → FirstHint p (param_for fault.hint p)
unfolding param_for
hint-true p o e = go ((hint-exactly p o).0 e)
  where
    go : (kvs : List Param) × Ordered p kvs × Hinted kvs → FirstHint p (param_for fault.hint p)
    go h =
        let kvs = h.0 in
        let w = h.1 in
        let some : All (λ (kv : Param). is_hint kv.key ≡ false) kvs → ⊥ = λ a. true≢false (sym (means-hint kvs h.2) ∙ unhinted kvs a) in
        let r = first_of (λ (kv : Param). is_hint kv.key) 0 kvs some in
        subst (FirstHint p) (sym (wrong-is true p kvs o w))
        (record {
          front = r.front;
          hint = r.kv;
          back = r.back;
          ordered = subst (Ordered p) r.is w;
          stands = record { place = r.place ∙ (omega arith); key = r.key };
          found = which-hint r.kv.key r.tested;
          before = λ b. true≢false (sym (means-hint r.front b) ∙ unhinted r.front r.before);
        })

-- ---- values

all-good : (ks : List ℕ) (kvs : List Param) → All (λ (kv : Param). not (value_good kv.key kv.value ks) ≡ false) kvs → all_good kvs ks ≡ true
unfolding all_good
all-good ks [] a = refl
all-good ks (kv ∷ kvs) a = simp (not-false (value_good kv.key kv.value ks) a.0) (all-good ks kvs a.1)

not-allowed : (ks : List ℕ) (kv : Param) → not (value_good kv.key kv.value ks) ≡ true → Allowed ks kv → ⊥
unfolding all_good
not-allowed ks kv e a = true≢false (sym (means-values ks (kv ∷ []) (a, tt)) ∙ simp (not-true (value_good kv.key kv.value ks) e))

abbrev Octets : List Param → Type 0
Octets kvs = All (λ (kv : Param). Bytes kv.value) kvs

pub value-true : (p : List ℕ) → Bytes p → params_fault p ≡ fault.value → FirstForbidden p (param_for fault.value p)
unfolding param_for
value-true p o e = go ((value-exactly p o).0 e)
  where
    go : (kvs : List Param) × Ordered p kvs × (Hinted kvs → ⊥) × (All (Allowed (keys kvs)) kvs → ⊥) → FirstForbidden p (param_for fault.value p)
    go h =
        let kvs = h.0 in
        let w = h.1 in
        let v : Octets kvs = field-octets kvs (subst Bytes w.laid o) in
        let some : All (λ (kv : Param). not (value_good kv.key kv.value (keys kvs)) ≡ false) kvs → ⊥ =
        λ a. h.3 (values-means (keys kvs) kvs v (all-good (keys kvs) kvs a)) in
        let r = first_of (λ (kv : Param). not (value_good kv.key kv.value (keys kvs))) 0 kvs some in
        let front = r.front in
        subst (FirstForbidden p) (sym (wrong-is false p kvs o w))
        (record {
          front = front;
          kv = r.kv;
          back = r.back;
          ordered = subst (Ordered p) r.is w;
          stands = record { place = r.place ∙ (omega arith); key = r.key };
          forbidden = subst (λ (l : List Param). Allowed (keys l) r.kv → ⊥) r.is (not-allowed (keys kvs) r.kv r.tested);
          before = subst (λ (l : List Param). All (Allowed (keys l)) front) r.is
              (values-means (keys kvs) front
              (all_left (λ (kv : Param). Bytes kv.value) front (r.kv ∷ r.back) (subst Octets r.is v))
              (all-good (keys kvs) front r.before));
        })
