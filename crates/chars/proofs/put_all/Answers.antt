-- `chars::put_all` meets its contract. The loop's invariant: the octets of s so far are written. Assumes nothing.
use Rattle.std.proofs.Common.{arith, take_all}
use Rattle.io.proofs.Counting.{prefix_len_of_le}
use Rattle.chars.specs.PutsLaws.{puts_none, take-none, puts-within, puts-more, puts-as}
use Rattle.chars.proofs.put_all.Goals as goal

-- that nothing is taken of s is asked as an equation, so that 0 written in another way passes too
pub loop-i-init : goal.loop-i-init
loop-i-init c = puts-as (search (arith, take-none)) (puts_none _ _ c.min-o.ensures)

pub loop-i-preserved : goal.loop-i-preserved
loop-i-preserved c = puts-more c.loop-i.i c.args.s.now (omega arith) c.loop-i.invariant c.put-o.ensures.puts

pub returns : goal.returns
returns c =
    record {
      prefix_len = prefix_len_of_le _ _ (puts-within c.loop-i.invariant);
      puts = puts-as (take_all c.loop-i.i c.args.s.now (omega arith)) c.loop-i.invariant;
    }
