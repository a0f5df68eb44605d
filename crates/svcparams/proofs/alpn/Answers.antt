-- `svcparams::alpn` meets its contract. The loop's invariant: what is left of the value decides. Assumes nothing.
use Rattle.std.proofs.Common.{arith}
use Rattle.svcparams.proofs.ValueLaws.{strings-start, strings-end, strings-empty, strings-over, strings-next}
use Rattle.svcparams.proofs.alpn.Goals.{then-long-eq0-via-then-long-eq0, then-long-eq0-via-else-long-eq0+then-rest-long}
use Rattle.svcparams.proofs.alpn.Goals as goal

pub loop-left-init : goal.loop-left-init
loop-left-init c = strings-start _

pub returns-then-long-eq0 : goal.returns-then-long-eq0
returns-then-long-eq0 c =
    elim c.then-long-eq0.branch [
      | then-long-eq0-via-then-long-eq0 w ↦
          strings-empty _ _ c.loop-left.invariant c.in-len1-up.len_at_least c.from-long.ensures w.if-long-eq0.true
      | then-long-eq0-via-else-long-eq0+then-rest-long w ↦
          strings-over _ _ c.loop-left.invariant c.in-len1-up.len_at_least c.from-long.ensures w.if-long-eq0.false w.if-rest-long.true
    ]

pub loop-left-preserved : goal.loop-left-preserved
loop-left-preserved c =
    strings-next _ _ c.loop-left.invariant c.in-len1-up.len_at_least c.from-long.ensures c.if-long-eq0.false c.if-rest-long.false

pub returns : goal.returns
returns c = strings-end _ _ c.loop-left.invariant (omega arith) c.is_empty.ensures
