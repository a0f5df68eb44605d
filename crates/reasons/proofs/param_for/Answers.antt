-- `reasons::param_for` meets its contract. Assumes nothing.
use Rattle.std.proofs.Common.{rules, tests, refl}
use Rattle.reasons.specs.Params.{param_for}
use Rattle.reasons.proofs.param_for.Goals as goal

pub returns-in-26-clause-value : goal.returns-in-26-clause-value
unfolding param_for
returns-in-26-clause-value c = rw c.in-26.is c.unordered.ensures.value

pub returns-in-27-clause-value : goal.returns-in-27-clause-value
unfolding param_for
returns-in-27-clause-value c = rw c.in-27.is c.wrong.ensures.value

pub returns-in-28-clause-value : goal.returns-in-28-clause-value
unfolding param_for
returns-in-28-clause-value c = rw c.in-28.is c.wrong-in-28.ensures.value

pub returns-in_default-clause-value : goal.returns-in_default-clause-value
unfolding param_for
returns-in_default-clause-value c = search (rules, tests, refl)
