-- `svcparams::size` meets its contract. Assumes nothing.
use Rattle.std.proofs.Common.{rules}
use Rattle.svcparams.specs.TilingLaws.{size-short, size-low-over, size-low-fits, size-over, size_fits}
use Rattle.svcparams.proofs.size.Goals as goal

pub returns-then-s-lt4 : goal.returns-then-s-lt4
returns-then-s-lt4 c = search (rules, size-short)

pub returns-then-s-low : goal.returns-then-s-low
returns-then-s-low c = search (rules, size-low-over)

pub returns-then-s-eq0 : goal.returns-then-s-eq0
returns-then-s-eq0 c = search (rules, size-low-fits)

pub returns-then-s-n : goal.returns-then-s-n
returns-then-s-n c = search (rules, size-over)

pub returns : goal.returns
returns c = search (rules, size_fits)
