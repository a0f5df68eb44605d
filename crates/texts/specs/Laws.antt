-- The steps of a text's check, one law for each way through the tests. Assumes nothing.
use Rattle.std.specs.Prelude.{◌≡◌, true, false, ℕ, ◌-◌, ◌≤◌, ◌<◌}
use Rattle.std.proofs.Common.{eq-eqb, ne_eqb, le-leb}
use Rattle.std.proofs.lemmas.Bool.{lt-leb}
use Rattle.names.specs.Names.{alnum}
use Rattle.names.specs.Automaton.{Move, stop, go}
use Rattle.texts.specs.TextCheck.{State, start, letter, hyphen, step, after, inside, dot}

-- a label's first octet
module _ (at x : ℕ) where
  pub start-letter : alnum x ≡ true → step start at x ≡ go (letter (after at))
  start-letter a = simp a

  pub start-other : alnum x ≡ false → step start at x ≡ stop
  start-other a = simp a

  -- a dot, or no octet of a name
  pub dot-goes : x ≡ 46 → at ≤ 251 → dot at x ≡ go start
  dot-goes q l = simp (eq-eqb x 46 q, le-leb at 251 l)

  pub dot_far : x ≡ 46 → 251 < at → dot at x ≡ stop
  dot_far q l = simp (eq-eqb x 46 q, lt-leb at 251 l)

  pub dot-other : (x ≡ 46 → ⊥) → dot at x ≡ stop
  dot-other n = simp (ne_eqb x 46 n)

-- an octet of a label, not its first
module _ (left x : ℕ) (other : Move State) where
  pub inside-letter : alnum x ≡ true → (left ≡ 0 → ⊥) → inside left x other ≡ go (letter (left - 1))
  inside-letter a n = simp (a, ne_eqb left 0 n)

  pub inside-long : alnum x ≡ true → left ≡ 0 → inside left x other ≡ stop
  inside-long a n = simp (a, eq-eqb left 0 n)

  pub inside-hyphen : alnum x ≡ false → x ≡ 45 → 1 < left → inside left x other ≡ go (hyphen (left - 1))
  inside-hyphen a q l = simp (a, eq-eqb x 45 q, lt-leb left 1 l)

  pub inside-last : alnum x ≡ false → x ≡ 45 → left ≤ 1 → inside left x other ≡ stop
  inside-last a q l = simp (a, eq-eqb x 45 q, le-leb left 1 l)

  pub inside-other : alnum x ≡ false → (x ≡ 45 → ⊥) → inside left x other ≡ other
  inside-other a n = simp (a, ne_eqb x 45 n)
