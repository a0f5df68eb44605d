-- `names::check_held` meets its contract. Assumes nothing.
use Rattle.std.proofs.Common.{rules, inl}
use Rattle.names.specs.Outcomes.{held-check}
use Rattle.names.proofs.check_held.Goals as goal

pub after_letter-requires : goal.after_letter-requires
after_letter-requires c = search (rules, inl)

pub returns : goal.returns
returns c = held-check _ c.after_letter.ensures c.name_of.ensures
