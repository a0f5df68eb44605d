-- `hexes::lay` meets its contract. The loop's invariant: the octets of the characters passed stand at the front of the buffer, and those
-- of what is left are to come. Assumes nothing.
use Rattle.std.proofs.Common.{refl, sym, ◌∙◌, arith, length-set}
use Rattle.hexes.specs.Turns.{lay-start, lay-separator, lay-single, lay-digits, lay-pair, lay_done}
use Rattle.hexes.proofs.lay.Goals as goal

pub loop-rest-init : goal.loop-rest-init
loop-rest-init c = (refl, lay-start c.requires.0 c.requires.1)

pub loop-rest-preserved-then-is_separator : goal.loop-rest-preserved-then-is_separator
loop-rest-preserved-then-is_separator c =
    let inv = c.loop-rest.invariant in
    (inv.0, lay-separator _ inv.1 c.in-len1-up.len_at_least (sym c.is_separator.ensures ∙ c.if-is_separator.true))

pub unreachable-requires : goal.unreachable-requires
unreachable-requires c =
    lay-single c.loop-rest.invariant.1 c.in-len1-up.len_at_least (sym c.is_separator.ensures ∙ c.if-is_separator.false) c.in_default-rest.len_below

pub value-requires : goal.value-requires
value-requires c =
    (lay-digits _ c.in-len1-up.len_at_least c.in-len1-up-rest.len_at_least c.loop-rest.invariant.1 (sym c.is_separator.ensures ∙ c.if-is_separator.false)).high

pub value-requires-in-len1-up : goal.value-requires-in-len1-up
value-requires-in-len1-up c =
    (lay-digits _ c.in-len1-up.len_at_least c.in-len1-up-rest.len_at_least c.loop-rest.invariant.1 (sym c.is_separator.ensures ∙ c.if-is_separator.false)).low

pub bounds-out-n : goal.bounds-out-n
bounds-out-n c =
    let pair = lay-digits _ c.in-len1-up.len_at_least c.in-len1-up-rest.len_at_least c.loop-rest.invariant.1 (sym c.is_separator.ensures ∙ c.if-is_separator.false) in
    omega (arith, pair.room)

pub loop-rest-preserved : goal.loop-rest-preserved
loop-rest-preserved c =
    let inv = c.loop-rest.invariant in
    let apart = sym c.is_separator.ensures ∙ c.if-is_separator.false in
    let pair = lay-digits _ c.in-len1-up.len_at_least c.in-len1-up-rest.len_at_least inv.1 apart in
    let laid = lay-pair _ c.in-len1-up.len_at_least c.in-len1-up-rest.len_at_least inv.1 pair apart in
    (simp length-set inv.0, rw (c.value.ensures.value, c.value-in-len1-up.ensures.value) laid)

pub returns : goal.returns
returns c = lay_done c.loop-rest.invariant.1 c.in_default.len_below
