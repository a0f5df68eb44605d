-- How what src/ holds is said in these definitions: modes and reasons by their numbers, and a refusal as a state with its reason. No two values
-- of src/ are said alike. Assumes nothing: these are definitions.
use Rattle.std.specs.Prelude.{◌≡◌, ℕ, ◌<◌, Result, Ok, Err}
use Rattle.hexes.specs.Hexes as hexes
use Rattle.inputs.specs.declared.Why.{Why}
use Rattle.inputs.specs.Read.{Read, Bad, Long}
use Rattle.inputs.specs.Why as why
use Rattle.dumps.specs.declared.Stop.{Stop}
use Rattle.dumps.specs.declared.Stop.TheVariants as stop
use Rattle.dumps.specs.declared.state.Mode.{Mode}
use Rattle.dumps.specs.declared.state.Mode.TheVariants as modes
use Rattle.dumps.specs.declared.state.State as held
use Rattle.dumps.specs.declared.state.Class as kinds
use Rattle.dumps.specs.declared.state.Class.TheVariants as kind
use Rattle.dumps.specs.Class.{Class, Break, Blank, Digit, Other}
use Rattle.dumps.specs.Mode as mode
use Rattle.dumps.specs.State.{State}
use Rattle.dumps.specs.Turn.{Turn}
use Rattle.dumps.specs.Turn as turns
use Rattle.dumps.specs.Reach.{Reach}
use Rattle.dumps.specs.Reach as reach

-- a character that is a digit has its value
abbrev pub class_in : kinds.Class → Class
class_in kind.Break = Break
class_in kind.Blank = Blank
class_in (kind.Digit v) = Digit
class_in kind.Other = Other

abbrev pub Worth : ℕ → kinds.Class → Type 0
Worth x kind.Break = Unit {0}
Worth x kind.Blank = Unit {0}
Worth x (kind.Digit v) = (v ≡ hexes.value x) × (v < 16)
Worth x kind.Other = Unit {0}

abbrev pub mode_in : Mode → ℕ
mode_in modes.Start = mode.start
mode_in modes.Prefix = mode.prefix
mode_in modes.Offset = mode.offset
mode_in modes.Star = mode.star
mode_in modes.Gap = mode.gap
mode_in modes.After = mode.after
mode_in modes.High = mode.high
mode_in modes.Low = mode.low
mode_in modes.One = mode.one
mode_in modes.More = mode.more
mode_in modes.Text = mode.text
mode_in modes.Closed = mode.closed

abbrev pub state_in : held.State → State
state_in s = record {
  mode = mode_in s.mode;
  digits = s.digits;
  value = s.value;
  octet = s.octet;
  second = s.second;
  line = s.line;
  before = s.before;
  beside = s.beside;
  solid = s.solid;
  star = s.star;
  upto = s.upto;
  ended = s.ended;
  column = s.column;
  why = 0;
}

-- a character moves a dump to s, which has a reason only where the dump is refused
abbrev pub Moved : Result held.State Why → State → Type 0
Moved (Ok t) s = state_in t ≡ s
Moved (Err w) s = why.number_of w ≡ s.why

abbrev pub reach_in : Result ℕ Stop → Reach
reach_in (Ok n) = reach.To n
reach_in (Err (stop.Bad w)) = reach.Bad (why.number_of w)
reach_in (Err stop.Long) = reach.Long

abbrev pub turn_in : Result (held.State × ℕ) Stop → Turn
turn_in (Ok (s, n)) = turns.Go (state_in s) n
turn_in (Err (stop.Bad w)) = turns.Bad (why.number_of w)
turn_in (Err stop.Long) = turns.Long

-- the same of the character at i
abbrev pub stopped_at : ℕ → Stop → Read
stopped_at i (stop.Bad w) = Bad i (why.number_of w)
stopped_at i stop.Long = Long
