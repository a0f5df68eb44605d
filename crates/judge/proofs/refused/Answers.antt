-- `judge::refused` meets its contract, by the side. Assumes nothing.
use Rattle.std.proofs.Common.{rules}
use Rattle.judge.specs.Outcomes.{refused-reading, refused-writing}
use Rattle.judge.proofs.refused.Goals as goal

pub returns-in-Reading : goal.returns-in-Reading
returns-in-Reading c = search (rules, refused-reading)

pub returns-in-Writing : goal.returns-in-Writing
returns-in-Writing c = search (rules, refused-writing)
