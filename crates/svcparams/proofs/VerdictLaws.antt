-- The fault of a field together with its reason, stated by layout: what the theorems rest on. Assumes nothing.
use Rattle.std.specs.Prelude.{◌≡◌, refl, Bool, true, false, cond, not, List, ℕ}
use Rattle.std.proofs.Common.{sym, ◌∙◌, subst, true≢false}
use Rattle.std.proofs.Math.Path.{ap}
use Rattle.std.proofs.Math.Bool.{and-eq-true_iff}
use Rattle.std.proofs.lemmas.Bool.{not-true}
use Rattle.octets.specs.Numbers.{Bytes}
use Rattle.numbers.specs.Fault as fault
use Rattle.svcparams.specs.Key as key
use Rattle.svcparams.specs.Params.{Tiled, bad, tiled, pairs, rising, has, ordered, has_hint, all_good, tiled_fault, params_fault}
use Rattle.svcparams.specs.Param.{Param, keys}
use Rattle.svcparams.specs.TilingLaws.{bad-tiled}
use Rattle.octets.specs.Lists.{All}
use Rattle.svcparams.specs.Accepted.{Ordered, Hinted, Allowed, Accepted}
use Rattle.svcparams.specs.FieldLaws.{tiled-field, field-tiled, field-octets}
use Rattle.svcparams.proofs.AcceptedLaws.{rising-means, means-rising, least_zero, valid-below, below-valid, hint-means, means-hint, values-means, means-values}

-- a test that decides X
refuted : (b : Bool) {X : Type 0} → (b ≡ true → X) → (X → ⊥) → b ≡ false
refuted true f n = absurd (n (f refl))
refuted false f n = refl

refutes : (b : Bool) {X : Type 0} → (X → b ≡ true) → b ≡ false → X → ⊥
refutes b f e x = true≢false (sym (f x) ∙ e)

-- ---- a field whose parameters are in order

ordered-tiled : (p : List ℕ) (kvs : List Param) → Ordered p kvs → pairs p ≡ tiled kvs
ordered-tiled p kvs w = ap pairs w.laid ∙ field-tiled kvs w.fits

ordered-true : (p : List ℕ) (kvs : List Param) → Ordered p kvs → ordered 0 (keys kvs) ≡ true
ordered-true p kvs w = simp (means-rising 0 (keys kvs) (least_zero (keys kvs)) w.rise, below-valid (keys kvs) w.valid)

true-ordered : (p : List ℕ) (kvs : List Param) → Bytes p → pairs p ≡ tiled kvs → ordered 0 (keys kvs) ≡ true → Ordered p kvs
true-ordered p kvs o q e =
    let l = tiled-field p kvs o q in
    let t = (and-eq-true_iff (rising 0 (keys kvs)) (not (has key.invalid (keys kvs)))).0 e in
    record {
      laid = l.0;
      fits = l.1;
      rise = (rising-means 0 (keys kvs) t.0).1;
      valid = valid-below kvs l.1 (not-true _ t.1);
    }

values-allowed : (p : List ℕ) (kvs : List Param) → Bytes p → Ordered p kvs → all_good kvs (keys kvs) ≡ true → All (Allowed (keys kvs)) kvs
values-allowed p kvs o w e = values-means (keys kvs) kvs (field-octets kvs (subst Bytes w.laid o)) e

-- ---- from the reason to the fault

module _ (p : List ℕ) (kvs : List Param) (w : Ordered p kvs) where
  ordered-fault : params_fault p ≡ cond (has_hint (keys kvs)) fault.hint (cond (not (all_good kvs (keys kvs))) fault.value 0)
  unfolding params_fault
  ordered-fault = ap tiled_fault (ordered-tiled p kvs w) ∙ simp (ordered-true p kvs w)

  pub hinted-fault : Hinted kvs → params_fault p ≡ fault.hint
  hinted-fault h = ordered-fault ∙ simp (means-hint kvs h)

  module _ (u : Hinted kvs → ⊥) where
    unhinted : has_hint (keys kvs) ≡ false
    unhinted = refuted (has_hint (keys kvs)) (hint-means kvs) u

    pub forbidden-fault : Bytes p → (All (Allowed (keys kvs)) kvs → ⊥) → params_fault p ≡ fault.value
    forbidden-fault o v = ordered-fault ∙ simp (unhinted, refuted (all_good kvs (keys kvs)) (values-allowed p kvs o w) v)

    pub allowed-fault : All (Allowed (keys kvs)) kvs → params_fault p ≡ 0
    allowed-fault v = ordered-fault ∙ simp (unhinted, means-values (keys kvs) kvs v)

pub unordered-fault : (p : List ℕ) → Bytes p → ((kvs : List Param) → Ordered p kvs → ⊥) → params_fault p ≡ fault.parameters
unfolding params_fault
unordered-fault p o n = tile (pairs p) refl
  where
    tile : (t : Tiled) → pairs p ≡ t → tiled_fault t ≡ fault.parameters
    tile bad q = refl
    tile (tiled kvs) q = simp (refuted (ordered 0 (keys kvs)) (true-ordered p kvs o q) (n kvs))

-- ---- from the fault to the reason

pub data Verdict (p : List ℕ) (n : ℕ) : Type 0 where
  unordered : n ≡ fault.parameters → ((kvs : List Param) → Ordered p kvs → ⊥) → Verdict p n
  hinted : n ≡ fault.hint → (kvs : List Param) → Ordered p kvs → Hinted kvs → Verdict p n
  forbidden : n ≡ fault.value → (kvs : List Param) → Ordered p kvs → (Hinted kvs → ⊥) → (All (Allowed (keys kvs)) kvs → ⊥) → Verdict p n
  accepted : n ≡ 0 → Accepted p → Verdict p n

pub verdict : (p : List ℕ) → Bytes p → Verdict p (params_fault p)
unfolding params_fault
verdict p o = tile (pairs p) refl
  where
    other : (kvs lws : List Param) → pairs p ≡ tiled kvs → ordered 0 (keys kvs) ≡ false → Ordered p lws → ⊥
    other kvs lws q e w =
        let s : lws ≡ kvs = cc (ordered-tiled p lws w) in
        true≢false (sym (ordered-true p lws w) ∙ ap (λ (l : List Param). ordered 0 (keys l)) s ∙ e)

    judge : (kvs : List Param) → pairs p ≡ tiled kvs → (a b d : Bool) → ordered 0 (keys kvs) ≡ a → has_hint (keys kvs) ≡ b → all_good kvs (keys kvs) ≡ d
        → Verdict p (cond (not a) fault.parameters (cond b fault.hint (cond (not d) fault.value 0)))
    judge kvs q false b d ea eb ed = unordered refl (λ lws w. other kvs lws q ea w)
    judge kvs q true true d ea eb ed = hinted refl kvs (true-ordered p kvs o q ea) (hint-means kvs eb)
    judge kvs q true false false ea eb ed =
        forbidden refl kvs (true-ordered p kvs o q ea) (refutes (has_hint (keys kvs)) (means-hint kvs) eb)
        (refutes (all_good kvs (keys kvs)) (means-values (keys kvs) kvs) ed)
    judge kvs q true false true ea eb ed =
        let w = true-ordered p kvs o q ea in
        accepted refl (record { params = kvs; ordered = w; unhinted = refutes (has_hint (keys kvs)) (means-hint kvs) eb; values = values-allowed p kvs o w ed })

    tile : (t : Tiled) → pairs p ≡ t → Verdict p (tiled_fault t)
    tile bad q = unordered refl (λ kvs w. bad-tiled (sym q ∙ ordered-tiled p kvs w))
    tile (tiled kvs) q = judge kvs q (ordered 0 (keys kvs)) (has_hint (keys kvs)) (all_good kvs (keys kvs)) refl refl refl
