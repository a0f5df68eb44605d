use Rattle.std.proofs.Common.{◌≡◌, ◌≤◌, length, drop}
use Rattle.forms.specs.Places.{place_of}
use Rattle.forms.proofs.places.place.Given as goal

abbrev pub invariant-loop-i : goal.invariant-loop-i
invariant-loop-i l = (l.from ≤ l.i) × (l.i ≤ length l.text) × (place_of l.x l.i (drop l.i l.text) ≡ place_of l.x l.from (drop l.from l.text))
