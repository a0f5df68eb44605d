-- `boundaries::fill` meets its contract. Assumes nothing.
use Rattle.std.proofs.Common.{◌∙◌, ap, length}
use Rattle.boundaries.specs.Filling.{all_filled}
use Rattle.boundaries.specs.FillingLaws.{filled-whole}
use Rattle.boundaries.proofs.fill.Goals as goal

pub returns : goal.returns
returns c = ap all_filled (c.fill.ensures.after (λ y e. e)) ∙ filled-whole (length c.args.out.now)
