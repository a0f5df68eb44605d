-- `lines::objects::put_inner` meets its contract: what the line says is the part of it that is written. Assumes nothing.
use Rattle.std.proofs.Common.{ap}
use Rattle.chars.specs.PutsLaws.{puts-as}
use Rattle.lines.specs.Objects.{string_of}
use Rattle.lines.specs.ObjectsLaws.{inner-is}
use Rattle.lines.proofs.objects.put_inner.Goals as goal

pub returns : goal.returns
returns c =
    puts-as (ap string_of (inner-is _ c.saturating_sub-end.ensures c.min-from.ensures)) c.put_string.ensures
