-- `files::links::folder` meets its contract. The loop's invariant: no slash stands from the index on. Assumes nothing.
use Rattle.std.proofs.Common.{◌≡◌, ◌+◌, ◌-◌, arith, ◌∙◌}
use Rattle.files.specs.PathsLaws.{slash-here, slash-before, slash-none}
use Rattle.files.proofs.links.folder.Goals as goal

pub returns-then-path-i-eq47-clause-value : goal.returns-then-path-i-eq47-clause-value
returns-then-path-i-eq47-clause-value c =
    let after : c.loop-i.i - 1 + 1 ≡ c.loop-i.i = omega arith in
    after ∙ slash-here c.loop-i.i c.args.path.now c.loop-i-test.true c.if-path-i-eq47.true ∙ c.loop-i.invariant

pub loop-i-preserved : goal.loop-i-preserved
loop-i-preserved c =
    slash-before c.loop-i.i c.args.path.now c.loop-i-test.true c.if-path-i-eq47.false ∙ c.loop-i.invariant

pub returns-clause-value : goal.returns-clause-value
returns-clause-value c = slash-none c.loop-i.i c.args.path.now c.loop-i-test.false ∙ c.loop-i.invariant
