use Rattle.std.proofs.Common.{◌-◌, length}
use Rattle.svcparams.specs.Entries.{keys_in}
use Rattle.reasons.specs.ParamsLaws.{Seeking}
use Rattle.reasons.proofs.fields.wrong.Given as goal

abbrev pub invariant-loop-n : goal.invariant-loop-n
invariant-loop-n l = Seeking l.hints (keys_in l.p) l.p l.at

abbrev pub decreases-loop-n : goal.decreases-loop-n
decreases-loop-n l = length l.p - l.at
