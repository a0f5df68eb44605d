-- How what src/ holds is said in these definitions: a reason by its number, and a refusal as a state with its reason. No two values of src/ of one kind are
-- said alike. Assumes nothing: these are definitions.
use Rattle.std.specs.Prelude.{◌≡◌, ⊤, Result, Ok, Err}
use Rattle.inputs.specs.declared.Why.{Why}
use Rattle.inputs.specs.Why as why
use Rattle.groups.specs.declared.Kind.{Kind}
use Rattle.groups.specs.declared.state.State as held
use Rattle.groups.specs.State.{State}

abbrev pub state_in : held.State → State
state_in s = record {
  front = s.front;
  digits = s.digits;
  octet = s.octet;
  complete = s.complete;
  after = s.after;
  some = s.some;
  several = s.several;
  wide = s.wide;
  why = 0;
}

-- a character moves a list of kind f to s, which has a reason only where the list is refused
abbrev pub Moved : Kind → Result held.State Why → State → Type 0
Moved f (Ok t) s = (state_in t ≡ s) × (t.kind ≡ f)
Moved f (Err w) s = why.number_of w ≡ s.why

-- what a character moves a list to where it is moved in place: s, unless it is refused
abbrev pub led : held.State → Result ⊤ Why → Result held.State Why
led s (Ok _) = Ok s
led s (Err w) = Err w
