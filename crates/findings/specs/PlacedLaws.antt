-- What the judge's answer says of the fields, and that the parameter at fault stands in its field: so a place is within its body. Assumes nothing.
use Rattle.std.specs.Prelude.{◌≡◌, Bool, false, cond, not, ◌||◌, ◌⊎◌, List, [], ◌∷◌, ℕ, zero, suc, ◌+◌, ◌-◌, ◌*◌, ◌/◌, ◌%◌, ◌≤◌, ◌<◌, ltb, leb, eqb, take, drop, Ok, Err}
use Rattle.std.proofs.Math.Path.{refl}
use Rattle.std.proofs.Math.Bool.{true}
use Rattle.std.proofs.Common.{inl, inr, arith, leb-false, ltb-true}
use Rattle.std.proofs.Math.Logic.{⊎_elim}
use Rattle.std.proofs.Math.ListN.{length}
use Rattle.octets.specs.Cases.{by-test, by_less, by_equal}
use Rattle.octets.specs.Numbers.{at16}
use Rattle.numbers.specs.Fault as fault
use Rattle.numbers.specs.Limit as limit
use Rattle.carriers.specs.declared.Carrier.{Carrier}
use Rattle.carriers.specs.Carriers.{address_width, as_text}
use Rattle.carriers.proofs.CarriersLaws.{by_address}
use Rattle.addresses.specs.Addresses.{list_of}
use Rattle.svcparams.specs.Params.{size_of, params_fault}
use Rattle.svcparams.specs.Entries.{keys_in}
use Rattle.svcparams.specs.Key as key
use Rattle.svcparams.proofs.Exactly as params
use Rattle.blocks.specs.Block.{Fields, name_at}
use Rattle.judge.specs.declared.Side.TheVariants.{Reading}
use Rattle.judge.specs.Place.{Judged}
use Rattle.judge.specs.Place.{judged}
use Rattle.judge.specs.Judge.{name_of, refused_of, tail_fault, name_only_fault, on_name, judged_of}
use Rattle.judge.proofs.PlaceLaws.{bad-exactly}
use Rattle.reasons.specs.Params.{Param, on, unordered_from, wrong_of, wrong_from, param_for}
use Rattle.findings.specs.Troubles.{address_length_at, addresses_at, parameters_at, limit_at, field_place}
use Rattle.findings.specs.Sizes.{Sized, Placed}
use Rattle.findings.specs.SizesLaws.{length_before, addresses-before}
use Rattle.names.specs.Automaton.{Checked}

-- ---- the parameter at fault begins in its field

on-within : (n most : ℕ) (short : Param) (go : ℕ → Param) → short.at ≤ most → ((k : ℕ) → (go k).at ≤ most) → (on n short go).at ≤ most
on-within zero most short go h f = h
on-within (suc k) most short go h f = f k

either-within : (b : Bool) (most : ℕ) (p q : Param) → p.at ≤ most → q.at ≤ most → (cond b p q).at ≤ most
either-within true most p q h k = h
either-within false most p q h k = k

unordered-within : (k at least : ℕ) (l : List ℕ) → (unordered_from k at least l).at ≤ at + length l
unfolding unordered_from
unordered-within k at least [] = omega arith
unordered-within zero at least (x ∷ xs) =
    on-within (size_of (x ∷ xs)) (at + length (x ∷ xs)) _ _ (omega arith) (λ k.
    either-within (ltb (at16 (x ∷ xs) 0) least || eqb (at16 (x ∷ xs) 0) key.invalid) (at + length (x ∷ xs)) _ _ (omega arith)
    (omega (arith, unordered-within k (at + 1) (at16 (x ∷ xs) 0 + 1) xs)))
unordered-within (suc k) at least (x ∷ xs) = omega (arith, unordered-within k (at + 1) least xs)

wrong-within : (hints : Bool) (ks : List ℕ) (k at : ℕ) (l : List ℕ) → (wrong_from hints ks k at l).at ≤ at + length l
unfolding wrong_from
wrong-within hints ks k at [] = omega arith
wrong-within hints ks zero at (x ∷ xs) =
    on-within (size_of (x ∷ xs)) (at + length (x ∷ xs)) _ _ (omega arith) (λ k.
    either-within (wrong_of hints ks (at16 (x ∷ xs) 0) (take (size_of (x ∷ xs) - 4) (drop 4 (x ∷ xs)))) (at + length (x ∷ xs)) _ _ (omega arith)
    (omega (arith, wrong-within hints ks k (at + 1) xs)))
wrong-within hints ks (suc k) at (x ∷ xs) = omega (arith, wrong-within hints ks k (at + 1) xs)

pub param-within : (k : ℕ) (p : List ℕ) → (param_for k p).at ≤ length p
unfolding param_for
param-within k p =
    either-within (eqb k fault.parameters) (length p) _ _ (omega (arith, unordered-within 0 0 0 p))
    (either-within (eqb k fault.hint) (length p) _ _ (omega (arith, wrong-within true (keys_in p) 0 0 p))
    (either-within (eqb k fault.value) (length p) _ _ (omega (arith, wrong-within false (keys_in p) 0 0 p)) (omega arith)))

-- ---- the judge's answer

too_many : (n : ℕ) (c : Carrier) → limit.addresses < n / address_width c → limit.addresses * address_width c < n
too_many n = by_address (λ w. limit.addresses < n / w → limit.addresses * w < n) (λ h. omega arith) (λ h. omega arith)

no-limit : (k : ℕ) → params.FaultNumber k → k ≡ fault.limit → ⊥
no-limit k (inl e) h = omega arith
no-limit k (inr (inl e)) h = omega arith
no-limit k (inr (inr (inl e))) h = omega arith
no-limit k (inr (inr (inr e))) h = omega arith

tail-limit : (c : Carrier) (a p : List ℕ) → tail_fault Reading (address_width c) a p ≡ fault.limit
    → (limit.addresses * address_width c < length a) ⊎ (limit.parameters < length p)
unfolding tail_fault
tail-limit c a p =
    go (eqb (length a) 0) (eqb (length a % w) 0) (ltb limit.addresses (length a / w)) (ltb limit.parameters (length p)) (refused_of Reading w (list_of w a))
    refl refl
  where
    w : ℕ
    w = address_width c

    go : (no whole many long refused : Bool) → ltb limit.addresses (length a / w) ≡ many → ltb limit.parameters (length p) ≡ long
        → cond no fault.addresses
        (cond (not whole) fault.addresses (cond many fault.limit (cond long fault.limit (cond refused fault.dropped (params_fault p))))) ≡ fault.limit
        → (limit.addresses * w < length a) ⊎ (limit.parameters < length p)
    go true whole many long refused m l e = absurd (omega arith)
    go false false many long refused m l e = absurd (omega arith)
    go false true true long refused m l e = inl (too_many (length a) c (ltb-true _ _ m))
    go false true false true refused m l e = inr (ltb-true _ _ l)
    go false true false false true m l e = absurd (omega arith)
    go false true false false false m l e = absurd (no-limit (params_fault p) (params.fault-number p) e)

pub judged-placed : (c : Carrier) (f : Fields) → Placed c f (judged_of Reading c f.priority f.name f.full f.addresses f.parameters)
unfolding judged_of
judged-placed c f = go (eqb f.priority 0) (name_of Reading c f.name) f.full refl refl
  where
    tail : ℕ
    tail = tail_fault Reading (address_width c) f.addresses f.parameters

    go : (zero : Bool) (n : Checked) (full : Bool) → name_of Reading c f.name ≡ n → f.full ≡ full
        → Placed c f (cond zero (judged fault.priority 0)
        (on_name n (λ place. judged fault.name place) (judged (cond full tail (name_only_fault c)) 0)))
    go true n full m u = record { inside = omega arith; full_form = λ h _. absurd (omega arith); too_much = λ h. absurd (omega arith) }
    go false (Err place) full m u =
        record { inside = ((bad-exactly Reading c f.name place).0 m).within; full_form = λ h _. absurd (omega arith); too_much = λ h. absurd (omega arith) }
    go false (Ok tt) true m u = record { inside = omega arith; full_form = λ _ _. u; too_much = tail-limit c f.addresses f.parameters }
    go false (Ok tt) false m u =
        by-test (as_text c) (λ t. Placed c f (judged (cond t fault.addresses 0) 0))
        (λ t. record { inside = omega arith; full_form = λ _ g. g t; too_much = λ h. absurd (omega arith) })
        (λ t. record { inside = omega arith; full_form = λ h _. absurd (omega arith); too_much = λ h. absurd (omega arith) })

-- ---- so places are within the body

module _ {c : Carrier} {b : List ℕ} {f : Fields} (s : Sized c b f) where
  abbrev n : ℕ
  n = length f.name

  abbrev m : ℕ
  m = length f.addresses

  limit-within : f.full ≡ true → (limit.addresses * address_width c < m) ⊎ (limit.parameters < length f.parameters) → limit_at c n m ≤ length b
  unfolding limit_at
  limit-within u h =
      let w = s.whole u in
      let a = addresses-before c n m in
      by_less (λ (i : ℕ). i ≤ length b) (limit.addresses * address_width c) m _ _
      (λ more. omega arith)
      (λ few. ⊎_elim (λ x. absurd (omega arith)) (λ x. omega arith) h)

  pub field-within : {j : Judged} (within : ℕ) → Placed c f j → within ≤ length f.parameters → field_place c j.fault n m j.place within ≤ length b
  unfolding field_place
  field-within {j} within p h = go (leb j.fault fault.priority) refl
    where
      whole : fault.priority < j.fault → (j.fault ≡ fault.name → ⊥) → f.full ≡ true
      whole a d = p.full_form (omega arith) s.text

      go : (x : Bool) → leb j.fault fault.priority ≡ x
          → cond x 0
          (cond (eqb j.fault fault.name) (name_at c m + j.place)
          (cond (eqb j.fault fault.addresses) (address_length_at c n)
          (cond (eqb j.fault fault.limit) (limit_at c n m)
          (cond (eqb j.fault fault.dropped) (addresses_at c n)
          (parameters_at c n m + within))))) ≤ length b
      go true t = omega arith
      go false t =
          let a : fault.priority < j.fault = leb-false _ _ t in
          by_equal (λ (i : ℕ). i ≤ length b) j.fault fault.name _ _
          (λ _. omega (arith, s.named, p.inside))
          (λ d. by_equal (λ (i : ℕ). i ≤ length b) j.fault fault.addresses _ _
          (λ _. omega (arith, s.whole (whole a d), length_before c n, addresses-before c n m))
          (λ _. by_equal (λ (i : ℕ). i ≤ length b) j.fault fault.limit _ _
          (λ e. limit-within (whole a d) (p.too_much e))
          (λ _. by_equal (λ (i : ℕ). i ≤ length b) j.fault fault.dropped _ _
          (λ _. omega (arith, s.whole (whole a d), addresses-before c n m))
          (λ _. omega (arith, s.whole (whole a d), h)))))
