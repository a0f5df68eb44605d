-- `addresses::put_kept` meets its contract. The loop's invariant: what is written, with those kept of the addresses that are left, is
-- the whole list of those kept. Assumes nothing.
use Rattle.std.proofs.Common.{◌∙◌, ap, not, arith, rules}
use Rattle.addresses.proofs.PutKeptSteps.{keeping-done, keeping-drop, keeping-keep, keeping-room, keeping_start}
use Rattle.addresses.proofs.put_kept.Goals as goal

pub loop-address-init : goal.loop-address-init
loop-address-init c = search (rules, keeping_start)

pub copy-next-requires : goal.copy-next-requires
copy-next-requires c =
    let i = c.loop-address.invariant in
    let s = c.in-Some.ensures.steps in
    keeping-room _ _ c.requires.width (s.1.1 ∙ i.0) s.1.0 c.dropped.ensures i.1 (ap not c.if-not-dropped.true) c.requires.s_in_bounds

pub loop-address-preserved-then-not-dropped : goal.loop-address-preserved-then-not-dropped
loop-address-preserved-then-not-dropped c =
    let i = c.loop-address.invariant in
    let s = c.in-Some.ensures.steps in (
      s.0 ∙ i.0,
      keeping-keep _ _ c.requires.width (s.1.1 ∙ i.0) s.1.0 c.dropped.ensures i.1 (ap not c.if-not-dropped.true) c.copy-next.ensures c.copy-next.auto.out,
    )

pub loop-address-preserved : goal.loop-address-preserved
loop-address-preserved c =
    let i = c.loop-address.invariant in
    let s = c.in-Some.ensures.steps in
    (s.0 ∙ i.0, keeping-drop _ _ c.requires.width (s.1.1 ∙ i.0) s.1.0 c.dropped.ensures i.1 (ap not c.if-not-dropped.false))

pub returns : goal.returns
returns c = keeping-done (omega (arith, c.loop-address.invariant.0, c.in-None.ensures.steps.1.0)) c.loop-address.invariant.1
