-- `svcparams::walk::all_present` meets its contract: in both loops the machine stands, after as many steps, at the keys that the two places show.
-- Assumes nothing.
use Rattle.std.proofs.Common.{rules, arith, refl, ◌∙◌}
use Rattle.svcparams.proofs.MergeTurns.{merge-start, merge-all, merge-refused, merge-found, merge-passed}
use Rattle.svcparams.proofs.walk.all_present.Goals as goal

pub listed-init : goal.listed-init
listed-init c = (merge-start _ _, refl)

pub params-preserved : goal.params-preserved
params-preserved c = (search (rules, merge-passed, c.unwrap_or.ensures ∙ c.size-n.ensures.value), search rules)

pub listed-preserved : goal.listed-preserved
listed-preserved c = (search (rules, merge-found, c.unwrap_or.ensures ∙ c.size-n.ensures.value), search rules)

pub params-smaller : goal.params-smaller
params-smaller c = omega (arith, (params-preserved c).0.few)

pub overflow_add-i : goal.overflow_add-i
overflow_add-i c = omega (arith, (listed-preserved c).0.in_list)

pub listed-smaller : goal.listed-smaller
listed-smaller c = omega (arith, (listed-preserved c).0.in_list)

pub returns-in-AllFound : goal.returns-in-AllFound
returns-in-AllFound c = search (rules, merge-all)

pub returns-in-Refused : goal.returns-in-Refused
returns-in-Refused c = search (rules, merge-refused)
