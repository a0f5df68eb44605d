-- The steps of a name's check, one law for each way through the tests. Assumes nothing.
use Rattle.std.specs.Prelude.{◌≡◌, true, false, ℕ, ◌+◌, ◌-◌, ◌≤◌, ◌<◌}
use Rattle.std.proofs.Common.{eq-eqb, ne_eqb, le-leb, lt-ltb}
use Rattle.names.specs.Names.{alnum}
use Rattle.names.specs.Automaton.{stop, go}
use Rattle.names.specs.Wire.{letter, hyphen, first, root, step, inside, hyphen_fits, length_octet, label_fits}

-- the steps inside a label
module _ (left x : ℕ) where
  pub hyphen-fits : x ≡ 45 → 1 < left → hyphen_fits left x ≡ true
  hyphen-fits q l = simp (eq-eqb x 45 q, lt-ltb 1 left l)

  pub inside-letter : alnum x ≡ true → inside left x ≡ go (letter (left - 1))
  inside-letter e = simp e

  pub inside-hyphen : alnum x ≡ false → hyphen_fits left x ≡ true → inside left x ≡ go (hyphen (left - 1))
  inside-hyphen e q = simp e (rw q)

  pub inside-other : alnum x ≡ false → hyphen_fits left x ≡ false → inside left x ≡ stop
  inside-other e q = simp e (rw q)

-- a label's first octet
module _ (left at x : ℕ) where
  pub first-letter : alnum x ≡ true → step (first left) at x ≡ go (letter left)
  first-letter e = simp e

  pub first-other : alnum x ≡ false → step (first left) at x ≡ stop
  first-other e = simp e

  -- after a letter or a digit the label goes on, or ends
  pub in-label : (left ≡ 0 → ⊥) → step (letter left) at x ≡ inside left x
  in-label n = simp (ne_eqb left 0 n)

  pub at_length : left ≡ 0 → step (letter left) at x ≡ length_octet at x
  at_length e = simp (eq-eqb left 0 e)

-- a length octet
module _ (at x : ℕ) where
  pub label-fits : x ≤ 63 → at + x ≤ 253 → label_fits at x ≡ true
  label-fits l f = simp (le-leb x 63 l, le-leb (at + x) 253 f)

  pub length-empty : x ≡ 0 → at ≡ 0 → length_octet at x ≡ stop
  length-empty e f = simp (eq-eqb x 0 e, eq-eqb at 0 f)

  pub length-root : x ≡ 0 → (at ≡ 0 → ⊥) → length_octet at x ≡ go root
  length-root e f = simp (eq-eqb x 0 e, ne_eqb at 0 f)

  pub length-unfit : (x ≡ 0 → ⊥) → label_fits at x ≡ false → length_octet at x ≡ stop
  length-unfit n f = simp (ne_eqb x 0 n) (rw f)

  pub length-go : (x ≡ 0 → ⊥) → label_fits at x ≡ true → length_octet at x ≡ go (first (x - 1))
  length-go n f = simp (ne_eqb x 0 n) (rw f)
