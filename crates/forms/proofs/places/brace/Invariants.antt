use Rattle.std.proofs.Common.{◌≡◌, length, drop}
use Rattle.forms.specs.Places.{brace_from, brace_of}
use Rattle.forms.proofs.places.brace.Given as goal

abbrev pub invariant-loop-i : goal.invariant-loop-i
invariant-loop-i l = brace_from (length l.text) l.last l.i (drop l.i l.text) ≡ brace_of l.text
