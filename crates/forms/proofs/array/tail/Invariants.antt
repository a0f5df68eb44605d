use Rattle.std.proofs.Common.{◌≡◌, [], ◌∷◌, ◌++◌, length, drop}
use Rattle.forms.specs.Arrays.{after_in, tail_from, tail_of}
use Rattle.forms.proofs.array.tail.Given as goal

abbrev pub invariant-loop-i : goal.invariant-loop-i
invariant-loop-i l = tail_from (after_in l.s) l.n (length l.text) l.i (drop l.i (l.text ++ (10 ∷ []))) ≡ tail_of l.from l.n l.text
