-- `blocks::named` meets its contract: a law of `PartsLaws` for each way out. That the parameters are all that follows is asked as an equation
-- (`take_all`), so that a slice which leaves nothing out passes too. Assumes nothing.
use Rattle.std.proofs.Common.{◌∙◌, ap, arith, take_all}
use Rattle.blocks.specs.Parse.{fields}
use Rattle.blocks.specs.PartsLaws.{handed-on, named-cut, named-name-cut, named-alone, named-addresses-cut, named-whole}
use Rattle.blocks.proofs.named.Goals as goal

pub returns-in_err-rest-clause-result_value : goal.returns-in_err-rest-clause-result_value
returns-in_err-rest-clause-result_value c =
    handed-on _ c.in_err-rest.ensures.0 c.from_residual.ensures.1
    ∙ named-cut _ _ c.requires c.length_width-w.ensures c.in_err-rest.ensures.1

pub returns-in_err-name-clause-result_value : goal.returns-in_err-name-clause-result_value
returns-in_err-name-clause-result_value c =
    handed-on _ c.in_err-name.ensures.0 c.from_residual-in_err-name.ensures.1
    ∙ named-name-cut _ _ c.requires c.length_width-w.ensures c.in_ok-rest.ensures c.get16-priority.ensures.value c.get_number.ensures.value
    c.in_err-name.ensures.1

pub returns-then-is_empty-clause-result_value : goal.returns-then-is_empty-clause-result_value
returns-then-is_empty-clause-result_value c =
    ap fields c.alone.ensures
    ∙ named-alone _ _ c.requires c.length_width-w.ensures c.in_ok-rest.ensures c.get16-priority.ensures.value c.get_number.ensures.value
    c.in_ok-name.ensures c.if-is_empty.ensures

pub returns-in_err-addresses-clause-result_value : goal.returns-in_err-addresses-clause-result_value
returns-in_err-addresses-clause-result_value c =
    handed-on _ c.in_err-addresses.ensures.0 c.from_residual-in_err-addresses.ensures.1
    ∙ named-addresses-cut _ _ c.requires c.length_width-w.ensures c.in_ok-rest.ensures c.get16-priority.ensures.value c.get_number.ensures.value
    c.in_ok-name.ensures c.if-is_empty.ensures c.in_err-addresses.ensures.1

pub returns-clause-result_value : goal.returns-clause-result_value
returns-clause-result_value c =
    named-whole _ _ c.requires c.length_width-w.ensures c.in_ok-rest.ensures c.get16-priority.ensures.value c.get_number.ensures.value
    c.in_ok-name.ensures c.if-is_empty.ensures c.in_ok-addresses.ensures (search (arith, take_all))
