-- `forms::places::place` meets its contract. The loop's invariant: the first x after `from` is the first after i. Assumes nothing.
use Rattle.std.proofs.Common.{refl, sym, ◌∙◌, arith}
use Rattle.forms.specs.PlacesLaws.{place_here, place-later, place_none}
use Rattle.forms.proofs.places.place.Goals as goal

pub loop-i-init : goal.loop-i-init
loop-i-init c = (omega arith, c.requires, refl)

pub returns-then-text-i : goal.returns-then-text-i
returns-then-text-i c =
    let a = c.args in
    (sym (place_here a.x a.text.now c.loop-i.i (omega arith) c.if-text-i.true) ∙ c.loop-i.invariant.2, c.loop-i.invariant.0, c.loop-i.invariant.1)

pub loop-i-preserved : goal.loop-i-preserved
loop-i-preserved c =
    let a = c.args in
    (omega arith, omega arith, place-later a.x a.text.now c.loop-i.i (omega arith) c.if-text-i.false ∙ c.loop-i.invariant.2)

pub returns : goal.returns
returns c =
    let none = place_none c.args.x c.args.text.now c.loop-i.i (omega arith) in
    (omega (arith, none, c.loop-i.invariant.2), c.requires, omega arith)
