-- `frames::put_header` meets its contract: the code and the length, each in half of the header. Assumes nothing.
use Rattle.std.proofs.Common.{arith}
use Rattle.octets.specs.NumbersLaws.{length-be}
use Rattle.carriers.specs.Carriers.{head_width, header_of, in_eights}
use Rattle.frames.proofs.EmitLaws.{said-small, row-width, row-code, row-said, row_wrote}
use Rattle.frames.proofs.put_header.Goals as goal

pub length_said-said-requires : goal.length_said-said-requires
length_said-said-requires c =
    let a = c.args in
    let w = row-width a.c a.n c.facts-f.ensures in
    (omega arith, said-small (in_eights a.c) (header_of a.c) (head_width a.c) a.n (omega arith) c.requires.can_say)

pub put_number-next-requires : goal.put_number-next-requires
put_number-next-requires c =
    let a = c.args in
    let w = row-width a.c a.n c.facts-f.ensures in
    record { width_in_bounds = omega (arith, c.requires.c_in_bounds); width_nonzero = (w.0, w.1, row-code a.c a.n c.facts-f.ensures) }

pub put_number-requires : goal.put_number-requires
put_number-requires c =
    let a = c.args in
    let w = row-width a.c a.n c.facts-f.ensures in
    let n = length-be c.facts-f.result.width c.facts-f.result.code in
    record { width_in_bounds = omega (arith, n, c.put_number-next.ensures, c.requires.c_in_bounds); width_nonzero = (w.0, w.1, row-said a.c a.n c.facts-f.ensures c.length_said-said.ensures c.requires.can_say) }

pub returns : goal.returns
returns c =
    let a = c.args in
    row_wrote a.c a.n c.facts-f.ensures c.length_said-said.ensures c.put_number-next.ensures c.put_number.ensures

pub overflow_add-width : goal.overflow_add-width
overflow_add-width c = let a = c.args in let w = row-width a.c a.n c.facts-f.ensures in omega arith
