-- `octets::put16` meets its contract: two stores. Assumes nothing.
use Rattle.std.proofs.Common.{rules, arith, refl, length-set}
use Rattle.octets.specs.OverLaws.{over-two}
use Rattle.octets.proofs.put16.Goals as goal

pub bounds-out-at-2 : goal.bounds-out-at-2
bounds-out-at-2 c = simp length-set (omega arith)

pub returns : goal.returns
returns c = record { room = omega arith; next = refl; laid = rw c.to_be_bytes.ensures (over-two c.args.at _ _ c.args.out.now (search rules)) }
