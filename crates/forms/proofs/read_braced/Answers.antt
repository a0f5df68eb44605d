-- `forms::read_braced` meets its contract: a brace opens an array, or there is none. Assumes nothing.
use Rattle.std.proofs.Common.{length, arith}
use Rattle.inputs.specs.Why as why
use Rattle.forms.specs.FormsLaws.{braced-array, braced-none}
use Rattle.forms.proofs.read_braced.Goals as goal

pub returns-in-Some : goal.returns-in-Some
returns-in-Some c =
    let a = c.args in
    braced-array c.in-Some.brace a.at (why.number_of a.why) a.text.now _ c.in-Some.ensures.at c.in-Some.ensures.inside c.read.ensures

pub returns-in-None : goal.returns-in-None
returns-in-None c =
    let a = c.args in
    braced-none (length a.text.now) a.at (why.number_of a.why) a.text.now _ c.in-None.ensures.at (omega arith)
