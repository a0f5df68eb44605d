-- `vectors::put_wire` meets its contract: a name's text has at most 253 octets, so that its wire form fits. Assumes nothing.
use Rattle.std.proofs.Common.{ap, arith, length-take}
use Rattle.octets.specs.OverLaws.{wrote-front}
use Rattle.chars.specs.PutsLaws.{puts-as}
use Rattle.vectors.specs.Answers.{good_text}
use Rattle.vectors.proofs.put_wire.Goals as goal

pub slice_bounds-put_good-end : goal.slice_bounds-put_good-end
slice_bounds-put_good-end c = simp length-take (omega arith)

pub returns : goal.returns
returns c =
    puts-as (ap good_text (wrote-front c.to_wire-n.ensures)) c.put_good.ensures
