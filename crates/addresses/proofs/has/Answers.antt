-- `addresses::has` meets its contract. The loop's invariant: the addresses that are left decide. Assumes nothing.
use Rattle.std.proofs.Common.{◌∙◌, sym, arith}
use Rattle.addresses.specs.AddressesLaws.{look-found, look-next, look-end}
use Rattle.addresses.proofs.has.Goals as goal

pub returns-then-dropped-wanted : goal.returns-then-dropped-wanted
returns-then-dropped-wanted c =
    let i = c.loop-a.invariant in
    let s = c.in-Some.ensures.steps in
    sym (i.1 ∙ look-found _ _ _ _ c.requires (s.1.1 ∙ i.0) s.1.0 c.dropped.ensures c.args.wanted c.if-dropped-wanted.true)

pub loop-a-preserved : goal.loop-a-preserved
loop-a-preserved c =
    let i = c.loop-a.invariant in
    let s = c.in-Some.ensures.steps in
    (s.0 ∙ i.0, i.1 ∙ look-next _ _ _ _ c.requires (s.1.1 ∙ i.0) s.1.0 c.dropped.ensures c.args.wanted c.if-dropped-wanted.false)

pub returns : goal.returns
returns c =
    let i = c.loop-a.invariant in
    sym (i.1 ∙ look-end _ _ (omega (arith, i.0, c.in-None.ensures.steps.1.0)) c.args.wanted)
