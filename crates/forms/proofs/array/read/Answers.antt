-- `forms::array::read` meets its contract: an outcome for each answer of the list. Assumes nothing.
use Rattle.std.proofs.Common.{ap, arith}
use Rattle.inputs.specs.Read.{read_in}
use Rattle.forms.specs.ArraysLaws.{arrayed, array-stopped, array-within}
use Rattle.forms.proofs.array.read.Goals as goal

pub back-requires : goal.back-requires
back-requires c =
    let a = c.args in
    let q =
    array-within a.brace a.text.now c.place-close.ensures.0 c.elements.ensures c.read.ensures c.in-Err.unread
    c.place-close.ensures.1 c.place-close.ensures.2 (ap read_in c.in-Err.is) in
    omega arith

pub returns-in-Ok : goal.returns-in-Ok
returns-in-Ok c =
    let a = c.args in
    arrayed a.brace a.text.now c.place-close.ensures.0 c.elements.ensures c.read.ensures (ap read_in c.in-Ok.is) c.closed.ensures

pub returns-in-Err : goal.returns-in-Err
returns-in-Err c =
    let a = c.args in
    array-stopped a.brace a.text.now c.place-close.ensures.0 c.elements.ensures c.read.ensures c.in-Err.unread c.back.result
    (ap read_in c.in-Err.is) c.back.ensures
