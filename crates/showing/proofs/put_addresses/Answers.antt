-- `showing::put_addresses` meets its contract. The loop's invariant: the addresses before those that are left are written. Assumes nothing.
use Rattle.std.proofs.Common.{◌≡◌, refl, ◌∙◌, arith}
use Rattle.values.specs.ListLaws.{listed_start, listed_next, listed-end}
use Rattle.showing.specs.Showing.{addresses_of}
use Rattle.showing.specs.PartLaws.{width_some, address-next, address-end}
use Rattle.showing.proofs.put_addresses.Goals as goal

pub loop-address-init : goal.loop-address-init
loop-address-init c =
    let e : c.into_iter-address-iterator.result.rest.now ≡ c.args.list.now = cc in
    (cc, refl, rw e (listed_start _ _ _ c.min-o.ensures))

pub loop-address-preserved : goal.loop-address-preserved
loop-address-preserved c =
    let i = c.loop-address.invariant in
    let k = c.in-Some.ensures.steps in (
      k.0 ∙ i.0,
      omega arith,
      listed_next _ _ i.2 (address-next (width_some c.args.c refl) _ _ _ k.1.0 (k.1.1 ∙ i.0)) refl c.put_address_item-o.ensures,
    )

pub returns : goal.returns
unfolding addresses_of
returns c =
    let i = c.loop-address.invariant in
    listed-end _ _ i.2 (address-end _ (rw i.0 at c.in-None.ensures.steps.1.0))
