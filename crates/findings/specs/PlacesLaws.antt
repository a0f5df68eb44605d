-- Places by what stands in a body: one law for each way out of the code. Assumes nothing.
use Rattle.std.specs.Prelude.{◌≡◌, refl, Bool, true, false, not, ◌&&◌, ◌==◌, nat_lt, ◌∷◌, min, position, Some, None, ℕ, zero, suc, ◌+◌, ◌-◌, ◌*◌, ◌≤◌, ◌<◌, ◌⊎◌, leb, eqb, length, get_or, take}
use Rattle.std.proofs.Common.{sym, ◌∙◌, inl, inr, arith, zero-add, take_all, leb-true, leb-false}
use Rattle.std.proofs.Math.Nat.{min-eq_left, min-eq_right}
use Rattle.std.proofs.Math.Bool.{cond, and-false}
use mathlib.Core.List.{List, []}
use borrow.Author.Tests.{lt-ltb, le-ltb, le-leb, lt-leb, eq-eqb, ne_eqb, ltb-false}
use Rattle.std.proofs.Math.ListN.{drop, drop_of_length-le}
use Rattle.std.specs.Option.{unwrap_or}
use Rattle.std.specs.List.{position_or_len}
use Rattle.std.proofs.lemmas.List.Sums.{prefix_len-le-length}
use Rattle.octets.specs.Cases.{by-test}
use Rattle.octets.specs.Numbers.{at16}
use Rattle.octets.specs.ListsLaws.{take_rest}
use Rattle.numbers.specs.Fault as fault
use Rattle.numbers.specs.declared.Fault.{Fault}
use Rattle.numbers.specs.declared.Fault.TheVariants.{Field, Priority, Parameters, Hint, Value, Padding}
use Rattle.numbers.specs.Limit as limit
use Rattle.carriers.specs.declared.Carrier.{Carrier}
use Rattle.carriers.specs.Carriers.{length_width, lifetime_in, lifetime_width, address_width, as_text}
use Rattle.carriers.proofs.CarriersLaws.{by_length, address-width}
use Rattle.blocks.specs.Block.{name_at}
use Rattle.findings.specs.Troubles.{near16, padding_at, past_padding, laid_place, address_length_at, addresses_at, parameters_at, limit_at, field_place}

-- ---- 20 and 29

module _ (b : List ℕ) (at : ℕ) where
  pub near-cut : length b < at + 2 → 0 ≡ near16 b at
  unfolding near16
  near-cut h = simp (lt-leb _ _ h)

  pub near-there : at + 2 ≤ length b → at16 b at ≡ near16 b at
  unfolding near16
  near-there h = simp (le-leb _ _ h)

module _ (b : List ℕ) {x : ℕ} (e : x ≡ near16 b 6) where
  pub padding-after-name : length b < 8 + x + 8 → 8 + x ≡ padding_at b
  unfolding padding_at
  padding-after-name h = simp (← e, lt-ltb _ _ h)

  pub padding-after-fields : {y z : ℕ} → 8 + x + 8 ≤ length b → y ≡ near16 b (8 + x) → z ≡ near16 b (8 + x + 2 + y)
      → 8 + x + 2 + y + 2 + z ≡ padding_at b
  unfolding padding_at
  padding-after-fields h i j = simp (← e, le-ltb _ _ h, ← i, ← j)

-- an octet that padding cannot have, by its value
abbrev other : ℕ → Bool
other x = not (x == 0)

-- the first of the next k octets, of which the last would be the seventh
past-from : (k at : ℕ) (l : List ℕ) → at + k ≡ 7 → past_padding at l ≡ at + position_or_len other (take k l)
unfolding past_padding
past-from zero at [] e = omega arith
past-from (suc k) at [] e = omega arith
past-from zero at (x ∷ xs) e = simp (le-ltb at 7 (omega arith), and-false) (omega arith)
past-from (suc k) at (x ∷ xs) e =
    let more : past_padding (at + 1) xs ≡ at + 1 + position_or_len other (take k xs) = past-from k (at + 1) xs (omega arith) in
    simp (lt-ltb at 7 (omega arith))
    (by-test (eqb x 0) (λ t. cond (t && true) (past_padding (at + 1) xs) at ≡ at + cond (not (not t)) (1 + position_or_len other (take k xs)) 0)
    (λ _. omega (arith, more)) (λ _. omega arith))

-- where there is none, what would be the first is their number
position-or : (l : List ℕ) → unwrap_or (position other l) (length l) ≡ position_or_len other l
position-or l =
    let n : ℕ = position_or_len other l in
    by-test (nat_lt n (length l)) (λ t. unwrap_or (cond t (Some n) None) (length l) ≡ n)
    (λ _. refl)
    (λ t. omega (arith, prefix_len-le-length (λ x. not (other x)) l, ltb-false _ _ t))

take-min : (l : List ℕ) → take (min (length l) 7) l ≡ take 7 l
take-min l =
    by-test (leb (length l) 7) (λ _. take (min (length l) 7) l ≡ take 7 l)
    (λ t. let h : length l ≤ 7 = leb-true _ _ t in rw (min-eq_left h, take_all (length l) l (omega arith), take_all 7 l h))
    (λ t. let h : 7 ≤ length l = omega (arith, leb-false _ _ t) in rw (min-eq_right h))

pub past-first : (l : List ℕ) → let front : List ℕ = take (min (length l) 7) l in unwrap_or (position other front) (length front) ≡ past_padding 0 l
past-first l = rw take-min (position-or (take 7 l) ∙ sym (past-from 7 0 l refl ∙ zero-add _))

module _ (k : ℕ) (b : List ℕ) where
  pub laid-other : (k ≡ fault.padding → ⊥) → length b ≡ laid_place k b
  unfolding laid_place
  laid-other n = simp (ne_eqb _ _ n)

  module _ (e : k ≡ fault.padding) {from : ℕ} (f : from ≡ padding_at b) where
    pub laid-past : length b < from → from ≡ laid_place k b
    unfolding laid_place past_padding
    laid-past h =
        let none : drop from b ≡ [] = drop_of_length-le b {i = from} (omega arith) in
        simp (eq-eqb _ _ e, ← f, none) (omega arith)

    pub laid-padding : {n : ℕ} → n ≡ past_padding 0 (take (length b - from) (drop from b)) → from + n ≡ laid_place k b
    unfolding laid_place
    laid-padding i = simp (eq-eqb _ _ e, ← f, i, take_rest)

-- ---- 21 to 28

-- as the code has it: whether the name is text, the widths, and the places before
module _ (c : Carrier) {text : Bool} (e : text ≡ as_text c) where
  is-text : {b : Bool} → text ≡ b → as_text c ≡ b
  is-text t = sym e ∙ t

  pub name-text : (m : ℕ) → text ≡ true → 4 + m ≡ name_at c m
  name-text m t = simp (is-text t)

  pub name-wire : (m : ℕ) {t w : ℕ} → text ≡ false → t ≡ lifetime_width c → w ≡ length_width c → 2 + t + w ≡ name_at c m
  name-wire m f et ew = simp (is-text f, et, ew)

  module _ (n : ℕ) where
    pub length-text : text ≡ true → 2 ≡ address_length_at c n
    unfolding address_length_at
    length-text t = simp (is-text t)

    pub length-wire : {i : ℕ} → text ≡ false → i ≡ name_at c 0 → i + n ≡ address_length_at c n
    unfolding address_length_at
    length-wire f ei = simp (is-text f, ei)

    pub addresses-text : text ≡ true → 4 ≡ addresses_at c n
    unfolding addresses_at
    addresses-text t = simp (is-text t)

    pub addresses-wire : {i w : ℕ} → text ≡ false → i ≡ address_length_at c n → w ≡ length_width c → i + w ≡ addresses_at c n
    unfolding addresses_at
    addresses-wire f ei ew = simp (is-text f, ei, ew)

    module _ (m : ℕ) where
      pub parameters-text : text ≡ true → 4 + m + n ≡ parameters_at c n m
      unfolding parameters_at
      parameters-text t = simp (is-text t)

      module _ {i t : ℕ} (f : text ≡ false) (et : t ≡ lifetime_width c) (ei : i ≡ addresses_at c n) where
        pub parameters-wire : t ≡ 0 → i + m ≡ parameters_at c n m
        unfolding parameters_at
        parameters-wire z = simp (is-text f, eq-eqb _ _ (sym et ∙ z), ei) (omega arith)

        pub parameters-padded : (t ≡ 0 → ⊥) → i + m + 2 ≡ parameters_at c n m
        unfolding parameters_at
        parameters-padded z = simp (is-text f, ne_eqb _ _ (λ y. z (et ∙ y)), ei)

module _ (c : Carrier) (n m : ℕ) {w : ℕ} (e : w ≡ address_width c) where
  pub limit-addresses : {i : ℕ} → i ≡ addresses_at c n → limit.addresses * w < m → i + limit.addresses * w ≡ limit_at c n m
  unfolding limit_at
  limit-addresses ei h = simp (← e, lt-ltb _ _ h, ei)

  pub limit-parameters : {i : ℕ} → i ≡ parameters_at c n m → m ≤ limit.addresses * w → i + limit.parameters ≡ limit_at c n m
  unfolding limit_at
  limit-parameters ei h = simp (← e, le-ltb _ _ h, ei)

-- how far each can be from what it is counted from
pub widths-small : (c : Carrier) → (lifetime_width c + length_width c ≤ 6) × (length_width c ≤ 2)
widths-small =
    by_length (λ w k. (lifetime_in k + w ≤ 6) × (w ≤ 2))
    (omega arith, omega arith) (omega arith, omega arith) (omega arith, omega arith) (omega arith, omega arith)

module _ (c : Carrier) where
  pub name-small : (m : ℕ) → name_at c m ≤ 8 + m
  name-small m =
      let w = widths-small c in
      by-test (as_text c) (λ t. cond t (4 + m) (2 + lifetime_width c + length_width c) ≤ 8 + m) (λ _. omega arith) (λ _. omega arith)

  pub length-small : (n : ℕ) → address_length_at c n ≤ 8 + n
  unfolding address_length_at
  length-small n =
      let h = name-small 0 in
      by-test (as_text c) (λ t. cond t 2 (name_at c 0 + n) ≤ 8 + n) (λ _. omega arith) (λ _. omega (arith, h))

  pub addresses-small : (n : ℕ) → addresses_at c n ≤ 10 + n
  unfolding addresses_at
  addresses-small n =
      let w = widths-small c in
      let h = length-small n in
      by-test (as_text c) (λ t. cond t 4 (address_length_at c n + length_width c) ≤ 10 + n) (λ _. omega arith) (λ _. omega (arith, w.1, h))

  pub parameters-small : (n m : ℕ) → parameters_at c n m ≤ 12 + n + m
  unfolding parameters_at
  parameters-small n m =
      let h = addresses-small n in
      by-test (as_text c) (λ t. cond t (4 + m + n) (addresses_at c n + m + cond (eqb (lifetime_width c) 0) 0 2) ≤ 12 + n + m)
      (λ _. omega arith)
      (λ _. by-test (eqb (lifetime_width c) 0) (λ t. addresses_at c n + m + cond t 0 2 ≤ 12 + n + m) (λ _. omega (arith, h)) (λ _. omega (arith, h)))

  pub limit-small : limit.addresses * address_width c ≤ 1008
  limit-small = let w = address-width c in omega arith

pub place-name : (c : Carrier) (k n m place within : ℕ) → fault.priority < k → {i : ℕ} → i ≡ name_at c m → k ≡ fault.name
    → i + place ≡ field_place c k n m place within
unfolding field_place
place-name c k n m place within a e h = simp (e, lt-leb _ _ a, eq-eqb _ _ h)

-- by the fault, where more than one has its place there
module _ (c : Carrier) (k : Fault) (n m place within : ℕ) where
  pub place-first : (k ≡ Field) ⊎ (k ≡ Priority) → 0 ≡ field_place c (fault.number_of k) n m place within
  unfolding field_place
  place-first (inl e) = rw e
  place-first (inr e) = rw e

  pub place-parameters : {i : ℕ} → (k ≡ Parameters) ⊎ ((k ≡ Hint) ⊎ ((k ≡ Value) ⊎ (k ≡ Padding))) → i ≡ parameters_at c n m
      → i + within ≡ field_place c (fault.number_of k) n m place within
  unfolding field_place
  place-parameters (inl e) q = rw (e, q)
  place-parameters (inr (inl e)) q = rw (e, q)
  place-parameters (inr (inr (inl e))) q = rw (e, q)
  place-parameters (inr (inr (inr e))) q = rw (e, q)
