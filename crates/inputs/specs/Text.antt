-- The characters of a text. Assumes nothing: these are definitions.
use Rattle.std.specs.Prelude.{Bool, true, cond, ℕ, eqb}

-- x is a space, tab, carriage return or line feed
abbrev pub blank : ℕ → Bool
blank x = cond (eqb x 32) true (cond (eqb x 9) true (cond (eqb x 13) true (eqb x 10)))
