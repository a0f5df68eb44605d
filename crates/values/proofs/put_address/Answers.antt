-- `values::put_address` meets its contract: the text of an address fits, and it is what is written. Assumes nothing.
use Rattle.std.proofs.Common.{rules, ◌∙◌, arith, length-take}
use Rattle.octets.specs.OverLaws.{wrote-front}
use Rattle.ips.specs.IpsLaws.{text4-length, text6-length}
use Rattle.chars.specs.PutsLaws.{puts_none, puts-as}
use Rattle.values.specs.ValueLaws.{address-four, address-sixteen, address-none}
use Rattle.values.proofs.put_address.Goals as goal

pub put4-n-requires : goal.put4-n-requires
put4-n-requires c =
    record { a_len = search rules; a_in_bounds = omega (arith, text4-length c.args.a.now c.if-a-eq4.true) }

pub put6-n-requires : goal.put6-n-requires
put6-n-requires c =
    record { a_len = search rules; a_in_bounds = omega (arith, text6-length c.args.a.now c.if-a-eq16.true) }

pub returns-then-a-eq4 : goal.returns-then-a-eq4
returns-then-a-eq4 c =
    puts-as (wrote-front c.put4-n.ensures ∙ address-four _ c.if-a-eq4.true) c.put_all.ensures.puts

pub returns-then-a-eq16 : goal.returns-then-a-eq16
returns-then-a-eq16 c =
    puts-as (wrote-front c.put6-n.ensures ∙ address-sixteen _ c.if-a-eq4.false c.if-a-eq16.true) c.put_all-then-a-eq16.ensures.puts

pub returns : goal.returns
returns c = puts-as (address-none _ c.if-a-eq4.false c.if-a-eq16.false) (puts_none _ _ c.min.ensures)

pub slice_bounds-put_all-end : goal.slice_bounds-put_all-end
slice_bounds-put_all-end c = simp length-take (omega arith)

pub slice_bounds-put_all-end-then-a-eq16 : goal.slice_bounds-put_all-end-then-a-eq16
slice_bounds-put_all-end-then-a-eq16 c = simp length-take (omega arith)
