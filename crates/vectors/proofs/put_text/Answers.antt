-- `vectors::put_text` meets its contract: a name has 3 to 255 octets, so that its text fits. Assumes nothing.
use Rattle.std.proofs.Common.{ap, rules, arith, length-take}
use Rattle.names.specs.Right.{three}
use Rattle.octets.specs.OverLaws.{wrote-front}
use Rattle.chars.specs.PutsLaws.{puts-as}
use Rattle.vectors.specs.Answers.{good_text}
use Rattle.vectors.proofs.put_text.Goals as goal

pub to_text-n-requires : goal.to_text-n-requires
to_text-n-requires c = let e = three c.requires in search rules

pub slice_bounds-put_good-end : goal.slice_bounds-put_good-end
slice_bounds-put_good-end c = simp length-take (omega arith)

pub returns : goal.returns
returns c =
    puts-as (ap good_text (wrote-front c.to_text-n.ensures)) c.put_good.ensures
