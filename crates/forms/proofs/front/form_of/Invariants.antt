use Rattle.std.proofs.Common.{◌≡◌, [], ◌∷◌, ◌++◌, ◌+◌, ◌≤◌, length, drop}
use Rattle.forms.specs.Fronts.{front_in, form_from, form_of}
use Rattle.forms.proofs.front.form_of.Given as goal

abbrev pub invariant-loop-i : goal.invariant-loop-i
invariant-loop-i l = (l.i ≤ length l.text + 1) × (form_from (front_in l.s) (drop l.i (l.text ++ (10 ∷ []))) ≡ form_of l.text)
