-- The check of a name in wire form, octet by octet. Assumes nothing: these are definitions.
use Rattle.std.specs.Prelude.{ℕ, ◌+◌, ◌-◌, List, Bool, true, false, cond, ◌&&◌, leb, ltb, eqb}
use Rattle.names.specs.Names.{alnum}
use Rattle.names.specs.Automaton.{Move, stop, go, Automaton, walk, Checked}

-- Where in a name the next octet stands
pub data State : Type 0 where
  letter : ℕ → State  -- after a letter or a digit, with so many octets of the label to come. Where there are none, a length octet or the root comes
  hyphen : ℕ → State  -- after a hyphen, with so many octets of the label to come, one at least
  first : ℕ → State  -- at a label's first octet, with so many to come after it
  root : State  -- after the root octet

-- A label of x octets whose length octet stands at a place. RFC 1035 §2.3.4: x is at most 63, and the name at most 255 octets, so
-- that the label and a root octet after it end within them. A pointer (RFC 1035 §4.1.4) is no length: there is no compression (RULES N1)
abbrev pub label_fits : ℕ → ℕ → Bool
label_fits at x = leb x 63 && leb (at + x) 253

-- A length octet x at a place. RFC 1035 §3.1: 0 is the root octet, which ends a name; RULES N1: not at the place 0, since a name has 3 octets or more
abbrev pub length_octet : ℕ → ℕ → Move State
length_octet at x =
    cond (eqb x 0)
    (cond (eqb at 0) stop (go root))
    (cond (label_fits at x) (go (first (x - 1))) stop)

-- House rule (RULES N2): x is a hyphen, and is not the last of the `left` octets of its label that are to come
abbrev pub hyphen_fits : ℕ → ℕ → Bool
hyphen_fits left x = eqb x 45 && ltb 1 left

-- House rule (RULES N2): an octet x in a label, not its first, with `left` octets to come, x among them, is a letter, a digit, or a
-- hyphen that is not the last
abbrev pub inside : ℕ → ℕ → Move State
inside left x =
    cond (alnum x)
    (go (letter (left - 1)))
    (cond (hyphen_fits left x) (go (hyphen (left - 1))) stop)

-- House rule (RULES N2): a label's first octet is a letter or a digit. RULES N1: nothing stands after the root octet
abbrev pub step : State → ℕ → ℕ → Move State
step (letter left) at x = cond (eqb left 0) (length_octet at x) (inside left x)
step (hyphen left) at x = inside left x
step (first left) at x = cond (alnum x) (go (letter left)) stop
step root at x = stop

-- RULES N1: one final root octet, and the name fills its length exactly
abbrev pub ended : State → Bool
ended (letter left) = false
ended (hyphen left) = false
ended (first left) = false
ended root = true

abbrev pub name_automaton : Automaton State
name_automaton = record { ends = ended; step = step }

-- A whole name: a length octet stands first
unfoldable pub name_check : List ℕ → Checked
name_check s = walk name_automaton (letter 0) 0 s
