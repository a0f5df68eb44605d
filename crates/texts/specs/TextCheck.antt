-- The check of a name as text (RULES N2, N4). Assumes nothing: these are definitions.
use Rattle.std.specs.Prelude.{Bool, true, false, cond, List, ℕ, ◌-◌, min, leb, eqb}
use Rattle.names.specs.Names.{alnum}
use Rattle.names.specs.Automaton.{Move, stop, go, Automaton, walk, Checked}

-- where in a text the next octet stands
pub data State : Type 0 where
  start : State  -- at a label's first octet
  letter : ℕ → State  -- after a letter or a digit of a label that may have so many octets more
  hyphen : ℕ → State  -- after a hyphen of a label that may have so many octets more, one at least

-- how many octets a label may have after its first at a place. RFC 1035 §2.3.4: a label has 63 octets at most; RULES N4: a text has 253
abbrev pub after : ℕ → ℕ
after at = min 62 (252 - at)

-- House rule (RULES N2): an octet x of a label, not its first, where `left` octets may come, x among them, is a letter, a digit, or
-- a hyphen that another octet may follow. `other` is what any other octet does
abbrev pub inside : ℕ → ℕ → Move State → Move State
inside left x other =
    cond (alnum x)
    (cond (eqb left 0) stop (go (letter (left - 1))))
    (cond (eqb x 45) (cond (leb left 1) stop (go (hyphen (left - 1)))) other)

-- RULES N4: labels are joined by dots, and none is final, so that an octet of a label still fits after a dot
abbrev pub dot : ℕ → ℕ → Move State
dot at x = cond (eqb x 46) (cond (leb at 251) (go start) stop) stop

-- an octet x at a place. House rule (RULES N2): a label begins and ends with a letter or a digit, so that a dot stands only after one
abbrev pub step : State → ℕ → ℕ → Move State
step start at x = cond (alnum x) (go (letter (after at))) stop
step (letter left) at x = inside left x (dot at x)
step (hyphen left) at x = inside left x stop

-- a text ends as a label does, after a letter or a digit
abbrev pub ended : State → Bool
ended start = false
ended (letter left) = true
ended (hyphen left) = false

abbrev pub text_automaton : Automaton State
text_automaton = record { ends = ended; step = step }

unfoldable pub text_check : List ℕ → Checked
text_check s = walk text_automaton start 0 s
