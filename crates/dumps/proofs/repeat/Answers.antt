-- `dumps::repeat` meets its contract. The loop's invariant: laying the octets that are left comes to what laying all comes to. Assumes nothing.
use Rattle.std.proofs.Common.{◌≡◌, ◌+◌, ◌-◌, arith}
use Rattle.dumps.specs.DumpsLaws.{repeat-turn, repeat-done}
use Rattle.dumps.proofs.repeat.Goals as goal

pub loop-i-preserved : goal.loop-i-preserved
loop-i-preserved c =
    let a = c.args in
    let i = c.loop-i.i in
    let source : i - (a.n - a.from) ≡ a.from + (i - a.n) = omega (arith, c.requires.0, c.loop-i.auto.i) in
    let next : a.from + (i + 1 - a.n) ≡ a.from + (i - a.n) + 1 = omega (arith, c.loop-i.auto.i) in
    rw (source, next) (repeat-turn c.loop-i.invariant c.loop-i-test.true)

pub returns : goal.returns
returns c = repeat-done c.loop-i.invariant c.loop-i-test.false
