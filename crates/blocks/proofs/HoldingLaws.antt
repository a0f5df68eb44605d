-- What `parse` answers is what the body holds: its fields where it is laid out, 20 where it holds none, 29 where what follows them is no
-- padding. Assumes nothing.
use Rattle.std.specs.Prelude.{◌≡◌, refl, Bool, true, false, cond, ◌↔◌, ◌⊎◌, List, [], ◌++◌, ℕ, ◌^◌, ◌≤◌, ◌<◌, ltb, length}
use Rattle.std.proofs.Common.{sym, ap, ◌∙◌, inl, inr, arith, le-ltb, lt-ltb, ltb-true}
use Rattle.std.proofs.Math.Bool.{and-eq-true_iff}
use Rattle.octets.specs.Cases.{by-test, by_less}
use Rattle.octets.specs.Numbers.{be, Bytes, all_zero}
use Rattle.octets.specs.NumbersLaws.{zero-exactly}
use Rattle.octets.specs.Fields.{put_counted}
use Rattle.octets.specs.FieldsLaws.{counted-read, counted-says}
use Rattle.numbers.specs.Fault as fault
use Rattle.carriers.specs.declared.Carrier.{Carrier}
use Rattle.carriers.specs.declared.Carrier.TheVariants.{Router}
use Rattle.carriers.specs.declared.Form.{Form}
use Rattle.carriers.specs.declared.Form.TheVariants.{Wire, Padded, Text}
use Rattle.carriers.specs.Carriers.{form_of, lifetime_in, lifetime_width}
use Rattle.carriers.proofs.CarriersLaws.{padded-router}
use Rattle.blocks.specs.Block.{Fields, name_only, whole, Tail, Possible}
use Rattle.blocks.specs.Parse.{Parsed, bad, fields, short, opening, is_padding, padded, after_name_padded, parse}
use Rattle.blocks.specs.Exactly.{opening-read, opening-says, parse-layout, parse-iff}
use Rattle.blocks.specs.Faults.{parse-fault}
use Rattle.blocks.specs.Holding.{Laid, Padding, put_tail, FormBy, HoldsPadded, HoldsBy, Holds, Short, Misfilled}

-- ---- padding

padding-exactly : (l : List ℕ) → (is_padding l ≡ true) ↔ Padding l
unfolding is_padding
padding-exactly l =
    let both = and-eq-true_iff (ltb (length l) 8) (all_zero l) in
    let zero = zero-exactly l in (
      λ e. (omega (arith, ltb-true (length l) 8 (both.0 e).0), zero.0 (both.0 e).1),
      λ h. both.1 (lt-ltb (length l) 8 (omega (arith, h.0)), zero.1 h.1),
    )

-- ---- held, then split: the answer is the fields, where what follows them is padding

tail-read : (p t : ℕ) (n : List ℕ) (full : Bool) (a q rest : List ℕ)
    → let f : Fields = record { priority = p; lifetime = t; full = full; name = n; addresses = a; parameters = q } in
    FormBy full (length (put_tail f rest)) → Tail full ((length a < 256 ^ 2) × (length q < 256 ^ 2)) f
    → after_name_padded p t n (put_tail f rest) ≡ padded rest f
tail-read p t n true a q rest h k =
    let ha : length a < 256 ^ 2 = k.0 in
    let hq : length q < 256 ^ 2 = k.1 in
    rw (le-ltb (length (put_counted 2 a (put_counted 2 q rest))) 8 (omega (arith, h))) (simp counted-read)
tail-read p t n false a q rest h k = rw (k.0, k.1, lt-ltb (length rest) 8 (omega (arith, h)))

router-read : (b : List ℕ) (f : Fields) (rest : List ℕ) → HoldsPadded b f rest → opening Router b after_name_padded ≡ padded rest f
router-read b f rest h =
    rw h.laid
    (opening-read Router f (put_tail f rest) after_name_padded h.priority h.lifetime h.name ∙ tail-read _ _ _ f.full _ _ rest h.form h.tail)

form-read : (k : Form) (c : Carrier) (b : List ℕ) (f : Fields) (rest : List ℕ) → form_of c ≡ k → HoldsBy k c b f rest → parse c b ≡ padded rest f
unfolding parse is_padding all_zero
form-read Wire c b f rest e h = rw h.1 (ap (parse c) h.0.0 ∙ parse-layout c f h.0.1)
form-read Padded c b f rest e h = rw (padded-router c e) (router-read b f rest h)
form-read Text c b f rest e h = rw h.1 (ap (parse c) h.0.0 ∙ parse-layout c f h.0.1)

pub holds_read : (c : Carrier) (b : List ℕ) (f : Fields) (rest : List ℕ) → Holds c b f rest → parse c b ≡ padded rest f
holds_read c b f rest h = form-read (form_of c) c b f rest refl h

-- ---- split, so held, or short

-- the answer is 20, or something is held
abbrev Held : (Fields → List ℕ → Type 0) → Parsed → Type 0
Held H r = (r ≡ short) ⊎ ((f : Fields) × (rest : List ℕ) × H f rest)

router-says : (b : List ℕ) → Bytes b → Held (HoldsPadded b) (opening Router b after_name_padded)
router-says b h =
    opening-says Router (λ b. Held (HoldsPadded b)) b after_name_padded h (λ _. inl refl) (λ p t n l hp ht hn h.
    let Q : List ℕ → Parsed → Type 0 = λ l. Held (HoldsPadded (be 2 p ++ (be 4 t ++ put_counted 2 n l))) in
    by_less (Q l) (length l) 8 _ _
    (λ few. inr (name_only p t n, l, record { laid = refl; form = omega (arith, few); priority = hp; lifetime = ht; name = hn; tail = (refl, refl) }))
    (counted-says short 2 (λ l r. 8 ≤ length l → Q l r) l _ h (λ _ _. inl refl) (λ a l ha _ h.
    counted-says short 2 (λ l r. 8 ≤ length (put_counted 2 a l) → Q (put_counted 2 a l) r) l _ h (λ _ _. inl refl) (λ q l hq _ _ big.
    inr (whole p t n a q, l, record { laid = refl; form = omega (arith, big); priority = hp; lifetime = ht; name = hn; tail = (ha, hq) })))))

-- in the other carriers fields are those of a layout, and 20 is the only fault
fault-says : (c : Carrier) (H : Fields → List ℕ → Type 0) (k : ℕ) → (c ≡ Router → ⊥) → (k ≡ fault.field) ⊎ ((c ≡ Router) × (k ≡ fault.padding)) → Held H (bad k)
fault-says c H k n (inl e) = inl (ap bad e)
fault-says c H k n (inr p) = absurd (n p.0)

laid-says : (c : Carrier) (b : List ℕ) → Bytes b → Possible c b → (c ≡ Router → ⊥) → Held (λ f rest. Laid c b f × (rest ≡ [])) (parse c b)
laid-says c b h m n = go (parse c b) refl
  where
    go : (r : Parsed) → parse c b ≡ r → Held (λ f rest. Laid c b f × (rest ≡ [])) r
    go (bad k) e = fault-says c _ k n (parse-fault c b k e)
    go (fields f) e = inr (f, [], ((parse-iff c b f h m).0 e, refl))

not-router : (c : Carrier) → lifetime_width c ≡ 0 → c ≡ Router → ⊥
not-router c z e = let w : lifetime_width c ≡ 4 = ap lifetime_width e in omega arith

form-says : (k : Form) (c : Carrier) (b : List ℕ) → form_of c ≡ k → Bytes b → Held (HoldsBy k c b) (parse c b)
unfolding parse
form-says Wire c b e h = laid-says c b h (rw e tt) (not-router c (ap lifetime_in e))
form-says Padded c b e h = rw (padded-router c e) (router-says b h)
form-says Text c b e h = laid-says c b h (rw e tt) (not-router c (ap lifetime_in e))

pub holds-or-short : (c : Carrier) (b : List ℕ) → Bytes b → (parse c b ≡ bad fault.field) ⊎ ((f : Fields) × (rest : List ℕ) × Holds c b f rest)
holds-or-short c b h = form-says (form_of c) c b refl h

-- ---- what `padded` answers

pub fields-bad : {f : Fields} {k : ℕ} → fields f ≡ bad k → ⊥
fields-bad e = let z : ◌≡◌ {A = ℕ} 0 1 = cc in omega arith

faults-apart : bad fault.field ≡ bad fault.padding → ⊥
faults-apart e = let z : fault.field ≡ fault.padding = cc in omega arith

padded-not-short : (l : List ℕ) (f : Fields) → padded l f ≡ bad fault.field → ⊥
padded-not-short l f = by-test (is_padding l) (λ x. cond x (fields f) (bad fault.padding) ≡ bad fault.field → ⊥) (λ _. fields-bad) (λ _ e. faults-apart (sym e))

padded-bad : (l : List ℕ) (f : Fields) → (padded l f ≡ bad fault.padding) ↔ (Padding l → ⊥)
padded-bad l f = (
  λ e p. fields-bad (sym (ap (λ x. cond x (fields f) (bad fault.padding)) ((padding-exactly l).1 p)) ∙ e),
  λ n. by-test (is_padding l) (λ x. cond x (fields f) (bad fault.padding) ≡ bad fault.padding) (λ t. absurd (n ((padding-exactly l).0 t))) (λ _. refl),
)

padded-good : (l : List ℕ) (f g : Fields) → (padded l f ≡ fields g) ↔ ((f ≡ g) × Padding l)
padded-good l f g = (
  by-test (is_padding l) (λ x. cond x (fields f) (bad fault.padding) ≡ fields g → (f ≡ g) × Padding l)
      (λ t e. (cc, (padding-exactly l).0 t)) (λ _ e. absurd (fields-bad (sym e))),
  λ p. rw ((padding-exactly l).1 p.1, p.0),
)

-- ---- each answer, exactly

-- fault 20: the body holds no fields
pub short-exactly : (c : Carrier) (b : List ℕ) → Bytes b → (parse c b ≡ bad fault.field) ↔ Short c b
short-exactly c b h = (λ e f rest k. padded-not-short rest f (sym (holds_read c b f rest k) ∙ e), λ s. go s (holds-or-short c b h))
  where
    go : Short c b → Held (Holds c b) (parse c b) → parse c b ≡ bad fault.field
    go s (inl e) = e
    go s (inr k) = absurd (s k.0 k.1 k.2)

-- fault 29: it holds fields, and what follows them is no padding
pub misfilled-exactly : (c : Carrier) (b : List ℕ) → Bytes b → (parse c b ≡ bad fault.padding) ↔ Misfilled c b
misfilled-exactly c b h = (λ e. go e (holds-or-short c b h), λ m. holds_read c b m.0 m.1 m.2 ∙ (padded-bad m.1 m.0).1 m.3)
  where
    go : parse c b ≡ bad fault.padding → Held (Holds c b) (parse c b) → Misfilled c b
    go e (inl k) = absurd (faults-apart (sym k ∙ e))
    go e (inr k) = (k.0, k.1, k.2, (padded-bad k.1 k.0).0 (sym (holds_read c b k.0 k.1 k.2) ∙ e))

-- a body that is laid out holds its fields, and then padding
pub laid-holds : (c : Carrier) (b : List ℕ) (f : Fields) → Bytes b → Possible c b → Laid c b f ↔ ((rest : List ℕ) × Holds c b f rest × Padding rest)
laid-holds c b f h m = (
  λ l. go ((parse-iff c b f h m).1 l) (holds-or-short c b h),
  λ k. (parse-iff c b f h m).0 (holds_read c b f k.0 k.1 ∙ (padded-good k.0 f f).1 (refl, k.2)),
)
  where
    go : parse c b ≡ fields f → Held (Holds c b) (parse c b) → (rest : List ℕ) × Holds c b f rest × Padding rest
    go e (inl k) = absurd (fields-bad (sym e ∙ k))
    go e (inr k) =
        let p = (padded-good k.1 k.0 f).0 (sym (holds_read c b k.0 k.1 k.2) ∙ e) in
        (k.1, rw p.0 at k.2, p.1)

-- ---- these are all there is, and no two of them are so at once

pub parsed-as : (c : Carrier) (b : List ℕ) → Bytes b → Possible c b → ((f : Fields) × Laid c b f) ⊎ (Short c b ⊎ Misfilled c b)
parsed-as c b h m = go (parse c b) refl
  where
    fault-as : (k : ℕ) → parse c b ≡ bad k → (k ≡ fault.field) ⊎ ((c ≡ Router) × (k ≡ fault.padding)) → Short c b ⊎ Misfilled c b
    fault-as k e (inl i) = inl ((short-exactly c b h).0 (e ∙ ap bad i))
    fault-as k e (inr i) = inr ((misfilled-exactly c b h).0 (e ∙ ap bad i.1))

    go : (r : Parsed) → parse c b ≡ r → ((f : Fields) × Laid c b f) ⊎ (Short c b ⊎ Misfilled c b)
    go (bad k) e = inr (fault-as k e (parse-fault c b k e))
    go (fields f) e = inl (f, (parse-iff c b f h m).0 e)

pub laid-alone : (c : Carrier) (b : List ℕ) (f : Fields) → Bytes b → Laid c b f → (Short c b → ⊥) × (Misfilled c b → ⊥)
laid-alone c b f h l =
    let e : parse c b ≡ fields f = ap (parse c) l.0 ∙ parse-layout c f l.1 in
    (λ s. fields-bad (sym e ∙ (short-exactly c b h).1 s), λ m. fields-bad (sym e ∙ (misfilled-exactly c b h).1 m))

pub short-alone : (c : Carrier) (b : List ℕ) → Short c b → Misfilled c b → ⊥
short-alone c b s m = s m.0 m.1 m.2
