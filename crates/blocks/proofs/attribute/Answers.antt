-- `blocks::attribute` meets its contract: a law of `PartsLaws` for each way out. Assumes nothing.
use Rattle.std.proofs.Common.{◌∙◌}
use Rattle.blocks.specs.PartsLaws.{handed-on, attribute-cut, attribute-addresses-cut, attribute-name-cut, attribute-whole}
use Rattle.blocks.proofs.attribute.Goals as goal

pub returns-in_err-rest-clause-result_value : goal.returns-in_err-rest-clause-result_value
returns-in_err-rest-clause-result_value c =
    handed-on _ c.in_err-rest.ensures.0 c.from_residual.ensures.1 ∙ attribute-cut _ _ c.requires c.in_err-rest.ensures.1

pub returns-in_err-addresses-clause-result_value : goal.returns-in_err-addresses-clause-result_value
returns-in_err-addresses-clause-result_value c =
    handed-on _ c.in_err-addresses.ensures.0 c.from_residual-in_err-addresses.ensures.1
    ∙ attribute-addresses-cut _ _ c.requires c.in_ok-rest.ensures c.get16-priority.ensures.value c.from-count.ensures c.address_width.ensures
    c.in_err-addresses.ensures.1

pub returns-in_err-name-clause-result_value : goal.returns-in_err-name-clause-result_value
returns-in_err-name-clause-result_value c =
    handed-on _ c.in_err-name.ensures.0 c.from_residual-in_err-name.ensures.1
    ∙ attribute-name-cut _ _ c.requires c.in_ok-rest.ensures c.get16-priority.ensures.value c.from-count.ensures c.address_width.ensures
    c.in_ok-addresses.ensures c.from.ensures c.in_err-name.ensures.1

pub returns-clause-result_value : goal.returns-clause-result_value
returns-clause-result_value c =
    attribute-whole _ _ c.requires c.in_ok-rest.ensures c.get16-priority.ensures.value c.from-count.ensures c.address_width.ensures
    c.in_ok-addresses.ensures c.from.ensures c.in_ok-name.ensures
