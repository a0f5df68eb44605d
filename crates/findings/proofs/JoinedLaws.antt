-- The walk of `examine_joined` over the instances of joined data: it begins, goes on and ends; and every place is within the data. Assumes nothing.
use Rattle.std.specs.Prelude.{◌≡◌, refl, Bool, true, false, cond, ltb, eqb, take}
use Rattle.std.proofs.Math.Path.{sym, ap₂}
use Rattle.std.proofs.Common.{ap, ◌∙◌, add-zero, length-drop, drop_of_length-le, drop-drop, length-take-le}
use mathlib.Core.List.{List, [], ◌∷◌}
use Prim.Native.Nat.{ℕ, zero, suc, ◌+◌, ◌-◌, ◌≤◌, ◌<◌}
use native.Mathlib.Omega.{arith}
use borrow.Author.Tests.{lt-ltb, le-ltb, eq-eqb, ne_eqb, ltb-false}
use Rattle.std.proofs.Math.ListN.{length, drop}
use Rattle.octets.specs.Cases.{by-test}
use Rattle.octets.specs.Numbers.{Octet, Bytes, at16}
use Rattle.octets.specs.ListsLaws.{all_take, all_drop}
use Rattle.numbers.specs.Fault as fault
use Rattle.carriers.specs.declared.Carrier.TheVariants.{Dhcp4}
use Rattle.frames.specs.Step.{part}
use Rattle.frames.proofs.GatherLaws.{part_length}
use Rattle.findings.specs.Troubles.{Trouble}
use Rattle.findings.specs.Troubles.{trouble, plain, fine, trouble_of, or_else, instances_trouble, joined_trouble}
use Rattle.findings.specs.WithinLaws.{at16-drop, trouble-within}

-- octets to be skipped are skipped, where they are there
instances-skip : (k at : ℕ) (l : List ℕ) → k ≤ length l → instances_trouble k at l ≡ instances_trouble 0 (at + k) (drop k l)
unfolding instances_trouble
instances-skip zero at l h = ap (λ (n : ℕ). instances_trouble 0 n l) (sym (add-zero at))
instances-skip (suc k) at [] h = absurd (omega arith)
instances-skip (suc k) at (x ∷ xs) h =
    let e : at + 1 + k ≡ at + suc k = omega arith in
    instances-skip k (at + 1) xs (omega arith) ∙ ap (λ (n : ℕ). instances_trouble 0 n (drop k xs)) e

instances-none : (at : ℕ) → instances_trouble 0 at [] ≡ fine
unfolding instances_trouble
instances-none at = refl

-- the instance that stands first
module _ (at : ℕ) (l : List ℕ) where
  first_short : 0 < length l → length l < 2 → instances_trouble 0 at l ≡ plain fault.field (at + length l)
  unfolding instances_trouble
  first_short = go l
    where
      go : (l : List ℕ) → 0 < length l → length l < 2 → instances_trouble 0 at l ≡ plain fault.field (at + length l)
      go [] p h = absurd (omega arith)
      go (x ∷ xs) p h = simp (lt-ltb _ _ h)

  first_past : 2 ≤ length l → length l - 2 < at16 l 0 → instances_trouble 0 at l ≡ plain fault.field (at + length l)
  unfolding instances_trouble
  first_past = go l
    where
      go : (l : List ℕ) → 2 ≤ length l → length l - 2 < at16 l 0 → instances_trouble 0 at l ≡ plain fault.field (at + length l)
      go [] p h = absurd (omega arith)
      go (x ∷ xs) p h = simp (le-ltb _ _ p, lt-ltb _ _ h)

  first-whole : 2 ≤ length l → at16 l 0 ≤ length l - 2
      → instances_trouble 0 at l
      ≡ or_else (at + 2) (trouble_of Dhcp4 (take (at16 l 0) (drop 2 l))) (instances_trouble 0 (at + 2 + at16 l 0) (drop (2 + at16 l 0) l))
  unfolding instances_trouble
  first-whole = go l
    where
      go : (l : List ℕ) → 2 ≤ length l → at16 l 0 ≤ length l - 2
          → instances_trouble 0 at l
          ≡ or_else (at + 2) (trouble_of Dhcp4 (take (at16 l 0) (drop 2 l))) (instances_trouble 0 (at + 2 + at16 l 0) (drop (2 + at16 l 0) l))
      go [] p h = absurd (omega arith)
      go (x ∷ xs) p h =
          let n : ℕ = at16 (x ∷ xs) 0 in
          let sum : at + 1 + (1 + n) ≡ at + 2 + n = omega arith in
          let next : suc (1 + n) ≡ 2 + n = omega arith in
          let on : instances_trouble (1 + n) (at + 1) xs ≡ instances_trouble 0 (at + 2 + n) (drop (2 + n) (x ∷ xs)) =
          instances-skip (1 + n) (at + 1) xs (omega arith)
          ∙ ap₂ (λ (i : ℕ) (l : List ℕ). instances_trouble 0 i l) sum (ap (λ (i : ℕ). drop i (x ∷ xs)) next) in
          simp (le-ltb _ _ p, le-ltb _ _ h) (ap (or_else (at + 2) (trouble_of Dhcp4 (take n (drop 2 (x ∷ xs))))) on)

-- ---- the walk

-- the instances before an index have no fault
pub record Passing (joined : List ℕ) (at : ℕ) : Type 0 where
  pub within : at ≤ length joined
  pub troubles : joined_trouble joined ≡ instances_trouble 0 at (drop at joined)

pub joined-none : (joined : List ℕ) {r : Trouble} → true ≡ eqb (length joined) 0 → r ≡ plain fault.field 0 → r ≡ joined_trouble joined
unfolding joined_trouble
joined-none joined h e = simp (← h) e

pub passing-start : (joined : List ℕ) → false ≡ eqb (length joined) 0 → Passing joined 0
unfolding joined_trouble
passing-start joined n = record { within = omega arith; troubles = simp (← n) }

module _ {joined : List ℕ} {at : ℕ} (p : Passing joined at) where
  abbrev rest : List ℕ
  rest = drop at joined

  pub passing-end : {r : Trouble} → length joined ≤ at → r ≡ fine → r ≡ joined_trouble joined
  passing-end h e = e ∙ sym (p.troubles ∙ ap (instances_trouble 0 at) (drop_of_length-le joined {i = at} h) ∙ instances-none at)

  -- it ends within an instance: the place is the end of the data
  at_end : at < length joined → plain fault.field (at + length rest) ≡ plain fault.field (length joined)
  at_end i = ap (plain fault.field) (omega (arith, length-drop at joined))

  pub passing-short : {r : Trouble} → at < length joined → length joined - at < 2 → r ≡ plain fault.field (length joined) → r ≡ joined_trouble joined
  passing-short i h e =
      let l = length-drop at joined in
      e ∙ sym (p.troubles ∙ first_short at rest (omega arith) (omega arith) ∙ at_end i)

  module _ (i : at < length joined) {long : ℕ} (q : long ≡ at16 joined at) (k : 2 ≤ length joined - at) where
    size : at16 rest 0 ≡ long
    size = sym (q ∙ at16-drop at joined)

    pub passing-past : {r : Trouble} → length joined - (at + 2) < long → r ≡ plain fault.field (length joined) → r ≡ joined_trouble joined
    passing-past h e =
        let l = length-drop at joined in
        e ∙ sym (p.troubles ∙ first_past at rest (omega arith) (omega (arith, size)) ∙ at_end i)

    module _ (h : long ≤ length joined - (at + 2)) {t : Trouble} (x : t ≡ trouble_of Dhcp4 (part (at + 2) (at + 2 + long) joined)) where
      here : joined_trouble joined ≡ or_else (at + 2) t (instances_trouble 0 (at + 2 + long) (drop (at + 2 + long) joined))
      here =
          let l = length-drop at joined in
          let count : at16 rest 0 ≡ at + 2 + long - (at + 2) = omega (arith, size) in
          let body : take (at16 rest 0) (drop 2 rest) ≡ part (at + 2) (at + 2 + long) joined =
          ap₂ (λ (n : ℕ) (l : List ℕ). take n l) count (drop-drop 2 at joined) in
          let sum : at + (2 + at16 rest 0) ≡ at + 2 + long = omega (arith, size) in
          let next : drop (2 + at16 rest 0) rest ≡ drop (at + 2 + long) joined =
          drop-drop (2 + at16 rest 0) at joined ∙ ap (λ (n : ℕ). drop n joined) sum in
          p.troubles
          ∙ first-whole at rest (omega arith) (omega (arith, size))
          ∙ ap₂ (λ (b : List ℕ) (y : Trouble). or_else (at + 2) (trouble_of Dhcp4 b) y) body
          (ap₂ (λ (n : ℕ) (l : List ℕ). instances_trouble 0 n l) (ap (λ (n : ℕ). at + 2 + n) size) next)
          ∙ ap (λ (t : Trouble). or_else (at + 2) t (instances_trouble 0 (at + 2 + long) (drop (at + 2 + long) joined))) (sym x)

      -- no sum wraps: the place is within the instance
      pub passing-place : Bytes joined → at + 2 + t.at ≤ length joined
      passing-place b =
          let octets : Bytes (part (at + 2) (at + 2 + long) joined) =
          all_take Octet (at + 2 + long - (at + 2)) (drop (at + 2) joined) (all_drop Octet (at + 2) joined b) in
          let m = trouble-within (part (at + 2) (at + 2 + long) joined) octets Dhcp4 in
          let n = part_length (at + 2) (at + 2 + long) joined (omega arith) in
          omega (arith, m, n, ap (λ (t : Trouble). t.at) x)

      pub passing-found : (t.fault ≡ 0 → ⊥) → trouble t.fault (at + 2 + t.at) t.reason t.key ≡ joined_trouble joined
      unfolding or_else
      passing-found n = sym (here ∙ simp (ne_eqb _ _ n))

      pub passing-next : t.fault ≡ 0 → Passing joined (at + 2 + long)
      unfolding or_else
      passing-next z = record { within = omega arith; troubles = here ∙ simp (eq-eqb _ _ z) }

-- ---- every place is within the data

or-within : (n : ℕ) (t next : Trouble) (most : ℕ) → n + t.at ≤ most → next.at ≤ most → (or_else n t next).at ≤ most
unfolding or_else
or-within n t next most h k =
    by-test (eqb t.fault 0) (λ z. (cond z next (trouble t.fault (n + t.at) t.reason t.key)).at ≤ most) (λ _. k) (λ _. h)

pub instances-within : (k at : ℕ) (l : List ℕ) → Bytes l → (instances_trouble k at l).at ≤ at + length l
unfolding instances_trouble
instances-within k at [] h = omega arith
instances-within zero at (x ∷ xs) h = go (ltb (length l) 2) (ltb (length l - 2) n) refl refl (instances-within (1 + n) (at + 1) xs h.1)
  where
    l : List ℕ
    l = x ∷ xs

    n : ℕ
    n = at16 l 0

    body : List ℕ
    body = take n (drop 2 l)

    most : ℕ
    most = at + length l

    later : Trouble
    later = instances_trouble (1 + n) (at + 1) xs

    whole : 2 ≤ length l → n ≤ length l - 2 → later.at ≤ at + 1 + length xs → (or_else (at + 2) (trouble_of Dhcp4 body) later).at ≤ most
    whole a b ih =
        let m = trouble-within body (all_take Octet n (drop 2 l) (all_drop Octet 2 l h)) Dhcp4 in
        let size : length body ≡ n = length-take-le n (drop 2 l) (omega (arith, length-drop 2 l)) in
        or-within (at + 2) (trouble_of Dhcp4 body) later most (omega arith) (omega arith)

    go : (short past : Bool) → ltb (length l) 2 ≡ short → ltb (length l - 2) n ≡ past → later.at ≤ at + 1 + length xs
        → (cond short (plain fault.field most) (cond past (plain fault.field most) (or_else (at + 2) (trouble_of Dhcp4 body) later))).at ≤ most
    go true past s p ih = omega arith
    go false true s p ih = omega arith
    go false false s p ih = whole (ltb-false _ _ s) (ltb-false _ _ p) ih
instances-within (suc k) at (x ∷ xs) h = omega (arith, instances-within k (at + 1) xs h.1)

pub joined-within : (b : List ℕ) → Bytes b → (joined_trouble b).at ≤ length b
unfolding joined_trouble
joined-within b h =
    by-test (eqb (length b) 0) (λ t. (cond t (plain fault.field 0) (instances_trouble 0 0 b)).at ≤ length b)
    (λ _. omega arith)
    (λ _. omega (arith, instances-within 0 0 b h))
