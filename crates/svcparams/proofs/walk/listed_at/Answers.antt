-- `svcparams::walk::listed_at` meets its contract. Assumes nothing.
use Rattle.std.proofs.Common.{rules}
use Rattle.svcparams.proofs.MergeTurns.{listed-none, listed-key}
use Rattle.svcparams.proofs.walk.listed_at.Goals as goal

pub returns-then-m-i-lt2 : goal.returns-then-m-i-lt2
returns-then-m-i-lt2 c = search (rules, listed-none)

pub returns : goal.returns
returns c = search (rules, listed-key)
