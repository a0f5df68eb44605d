use Rattle.std.proofs.Common.{length}
use Rattle.svcparams.specs.Entries.{keys_in}
use Rattle.svcparams.proofs.ValueLaws.{Listing}
use Rattle.svcparams.proofs.anywhere.mandatory_anywhere.Given as goal

abbrev pub invariant-loop-left : goal.invariant-loop-left
invariant-loop-left l = Listing (keys_in l.p) l.m l.left l.least

abbrev pub decreases-loop-left : goal.decreases-loop-left
decreases-loop-left l = length l.left
