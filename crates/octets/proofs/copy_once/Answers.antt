-- `octets::copy_once` meets its contract: the part of `out` is `src`. Assumes nothing.
use Rattle.std.proofs.Common.{arith}
use Rattle.octets.specs.OverLaws.{wrote_part}
use Rattle.octets.proofs.copy_once.Goals as goal

pub returns : goal.returns
returns c = let a = c.args in wrote_part a.at _ a.src.now a.out.now _ c.requires (omega arith) c.copy_from_slice.ensures.after
