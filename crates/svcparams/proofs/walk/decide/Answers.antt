-- `svcparams::walk::decide` meets its contract. Assumes nothing.
use Rattle.std.proofs.Common.{rules}
use Rattle.svcparams.proofs.MergeTurns.{decided-zero, decided-low, decided-found, decided-passed}
use Rattle.svcparams.proofs.walk.decide.Goals as goal

pub returns-then-w-eq0 : goal.returns-then-w-eq0
returns-then-w-eq0 c = search (rules, decided-zero)

pub returns-then-w-k : goal.returns-then-w-k
returns-then-w-k c = search (rules, decided-low)

pub returns-then-w-k-2 : goal.returns-then-w-k-2
returns-then-w-k-2 c = search (rules, decided-found)

pub returns : goal.returns
returns c = search (rules, decided-passed)
