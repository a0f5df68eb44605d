-- `carriers::Carrier::of` meets its contract: the numbers in order. Assumes nothing.
use Rattle.std.proofs.Common.{tests, rules}
use Rattle.carriers.specs.Carriers.{chosen_of}
use Rattle.carriers.proofs.Carrier.of.Goals as goal

pub returns-in-1-clause-value : goal.returns-in-1-clause-value
unfolding chosen_of
returns-in-1-clause-value c = simp c.in-1.is

pub returns-in-2-clause-value : goal.returns-in-2-clause-value
unfolding chosen_of
returns-in-2-clause-value c = simp c.in-2.is

pub returns-in-3-clause-value : goal.returns-in-3-clause-value
unfolding chosen_of
returns-in-3-clause-value c = simp c.in-3.is

pub returns-in-4-clause-value : goal.returns-in-4-clause-value
unfolding chosen_of
returns-in-4-clause-value c = simp c.in-4.is

pub returns-in-5-clause-value : goal.returns-in-5-clause-value
unfolding chosen_of
returns-in-5-clause-value c = simp c.in-5.is

pub returns-in_default-clause-value : goal.returns-in_default-clause-value
unfolding chosen_of
returns-in_default-clause-value c = search (tests, rules)
