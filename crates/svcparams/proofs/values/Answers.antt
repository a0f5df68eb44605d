-- `svcparams::values` meets its contract. The loop's invariant: what is left of the field decides. Assumes nothing.
use Rattle.svcparams.proofs.WalkLaws.{values-start, values-end, values-high, values-beside, values-bad, values-next}
use Rattle.svcparams.proofs.values.Goals as goal

pub loop-n-init : goal.loop-n-init
loop-n-init c = values-start _ c.requires

pub returns-then-key-gt-PORT : goal.returns-then-key-gt-PORT
returns-then-key-gt-PORT c =
    let e = c.in-Some.ensures.value in
    let h = c.in-Some.ensures.bounds.0 in
    values-high _ _ _ c.loop-n.invariant e h c.get16-key.ensures.value c.if-key-gt-PORT.true

pub allowed-requires : goal.allowed-requires
allowed-requires c =
    record {
      p_value = c.requires;
      beside_value = values-beside _ _ _ c.loop-n.invariant c.in-Some.ensures.value c.in-Some.ensures.bounds.0 c.get16-key.ensures.value;
    }

pub returns-then-not-allowed : goal.returns-then-not-allowed
returns-then-not-allowed c =
    let e = c.in-Some.ensures.value in
    let h = c.in-Some.ensures.bounds.0 in
    values-bad _ _ _ c.loop-n.invariant e h c.get16-key.ensures.value c.allowed.ensures c.if-not-allowed.true

pub loop-n-preserved : goal.loop-n-preserved
loop-n-preserved c =
    let e = c.in-Some.ensures.value in
    let h = c.in-Some.ensures.bounds.0 in
    values-next _ _ _ c.loop-n.invariant e h c.get16-key.ensures.value c.allowed.ensures c.if-not-allowed.false

pub returns : goal.returns
returns c = values-end _ _ _ c.loop-n.invariant c.in_default.ensures.value
