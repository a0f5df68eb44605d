use Rattle.forms.specs.PlacesLaws.{Lined}
use Rattle.forms.proofs.places.line.Given as goal

abbrev pub invariant-loop-i : goal.invariant-loop-i
invariant-loop-i l = Lined l.at l.text l.line l.breaks l.i
