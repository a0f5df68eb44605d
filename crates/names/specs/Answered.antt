-- How a walk's answer is handed on inside the code, as one number: the place of the first bad octet; or `past`, which is no place and no
-- length, since at most 256 octets are walked. Only contracts of inner functions cite it. Assumes nothing: these are definitions.
use Rattle.std.specs.Prelude.{cond, List, ℕ, ◌-◌, eqb, take, drop, Ok, Err}
use Rattle.names.specs.Automaton.{Automaton, walk, Checked}

abbrev pub past : ℕ
past = 257

abbrev pub placed : Checked → ℕ
placed (Ok tt) = past
placed (Err p) = p

abbrev pub named : ℕ → Checked
named k = cond (eqb k past) (Ok tt) (Err k)

-- the walk over the last `left` of the first n octets of a buffer
unfoldable pub answer_in : {S : Type 0} → Automaton S → List ℕ → ℕ → S → ℕ → ℕ
answer_in a b n st left = placed (walk a st (n - left) (drop (n - left) (take n b)))
