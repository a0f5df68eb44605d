use Rattle.std.proofs.Common.{◌≡◌, length}
use Rattle.groups.specs.GroupsLaws.{Reading}
use Rattle.groups.specs.Held.{state_in}
use Rattle.groups.proofs.read.Given as goal

abbrev pub invariant-loop-i : goal.invariant-loop-i
invariant-loop-i l = record {
  size : length l.out ≡ length l.initial.out;
  kind : l.s.kind ≡ l.fn.kind;
  reading : Reading l.fn.kind l.text l.initial.out (state_in l.s) l.n l.i l.out;
}
