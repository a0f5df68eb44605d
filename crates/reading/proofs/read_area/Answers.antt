-- `reading::read_area` meets its contract: carrier 1 is read joined, the others block by block. Assumes nothing.
use Rattle.std.proofs.Common.{ap, arith, length}
use Rattle.carriers.specs.declared.Carrier.{Carrier}
use Rattle.frames.specs.Frame.{frame}
use Rattle.reading.specs.Reading.{read_framed}
use Rattle.reading.specs.AnswerLaws.{reads_as}
use Rattle.reading.proofs.read_area.Goals as goal

pub read_blocks-requires : goal.read_blocks-requires
read_blocks-requires c = (λ e. grind (arith, c.in-Dhcp6.is, e), c.requires)

pub returns-in-Dhcp4 : goal.returns-in-Dhcp4
returns-in-Dhcp4 c =
    let a = c.args in
    reads_as (ap (λ (k : Carrier). read_framed k (frame k a.area.now) (length a.out.now)) c.in-Dhcp4.is) c.read_joined.ensures
