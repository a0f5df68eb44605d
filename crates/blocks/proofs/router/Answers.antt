-- `blocks::router` meets its contract: a law of `PartsLaws` for each way out. Assumes nothing.
use Rattle.std.proofs.Common.{◌∙◌, ap, arith}
use Rattle.blocks.specs.Parse.{fields}
use Rattle.blocks.specs.PartsLaws.{handed-on, router-cut, router-name-cut, router-alone, router-alone-unpadded, router-addresses-cut}
use Rattle.blocks.specs.PartsLaws.{router-parameters-cut, router-whole, router-unpadded}
use Rattle.blocks.proofs.router.Goals as goal

pub returns-in_err-rest-clause-result_value : goal.returns-in_err-rest-clause-result_value
returns-in_err-rest-clause-result_value c = handed-on _ c.in_err-rest.ensures.0 c.from_residual.ensures.1 ∙ router-cut _ c.in_err-rest.ensures.1

pub returns-in_err-name-clause-result_value : goal.returns-in_err-name-clause-result_value
returns-in_err-name-clause-result_value c =
    handed-on _ c.in_err-name.ensures.0 c.from_residual-in_err-name.ensures.1
    ∙ router-name-cut _ c.in_ok-rest.ensures c.get16-priority.ensures.value c.get32-lifetime.ensures.value c.get16.ensures.value c.in_err-name.ensures.1

pub returns-then-padding-clause-result_value : goal.returns-then-padding-clause-result_value
returns-then-padding-clause-result_value c =
    ap fields c.alone.ensures
    ∙ router-alone _ c.in_ok-rest.ensures c.get16-priority.ensures.value c.get32-lifetime.ensures.value c.get16.ensures.value c.in_ok-name.ensures
    (omega arith) c.if-padding.ensures

pub returns-then-rest-lt-UNIT-clause-result_value : goal.returns-then-rest-lt-UNIT-clause-result_value
returns-then-rest-lt-UNIT-clause-result_value c =
    router-alone-unpadded _ c.in_ok-rest.ensures c.get16-priority.ensures.value c.get32-lifetime.ensures.value c.get16.ensures.value c.in_ok-name.ensures
    (omega arith) c.if-padding.ensures

pub returns-in_err-addresses-clause-result_value : goal.returns-in_err-addresses-clause-result_value
returns-in_err-addresses-clause-result_value c =
    handed-on _ c.in_err-addresses.ensures.0 c.from_residual-in_err-addresses.ensures.1
    ∙ router-addresses-cut _ c.in_ok-rest.ensures c.get16-priority.ensures.value c.get32-lifetime.ensures.value c.get16.ensures.value c.in_ok-name.ensures
    (omega arith) c.in_err-addresses.ensures.1

pub returns-in_err-parameters-clause-result_value : goal.returns-in_err-parameters-clause-result_value
returns-in_err-parameters-clause-result_value c =
    handed-on _ c.in_err-parameters.ensures.0 c.from_residual-in_err-parameters.ensures.1
    ∙ router-parameters-cut _ c.in_ok-rest.ensures c.get16-priority.ensures.value c.get32-lifetime.ensures.value c.get16.ensures.value c.in_ok-name.ensures
    (omega arith) c.in_ok-addresses.ensures c.in_err-parameters.ensures.1

pub returns-then-not-padding-clause-result_value : goal.returns-then-not-padding-clause-result_value
returns-then-not-padding-clause-result_value c =
    router-unpadded _ c.in_ok-rest.ensures c.get16-priority.ensures.value c.get32-lifetime.ensures.value c.get16.ensures.value c.in_ok-name.ensures
    (omega arith) c.in_ok-addresses.ensures c.in_ok-parameters.ensures c.if-not-padding.ensures

pub returns-clause-result_value : goal.returns-clause-result_value
returns-clause-result_value c =
    router-whole _ c.in_ok-rest.ensures c.get16-priority.ensures.value c.get32-lifetime.ensures.value c.get16.ensures.value c.in_ok-name.ensures
    (omega arith) c.in_ok-addresses.ensures c.in_ok-parameters.ensures c.if-not-padding.ensures
