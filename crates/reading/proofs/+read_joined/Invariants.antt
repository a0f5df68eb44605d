-- `reading::read_joined` calls itself for a shorter area: the measure is the area's length.
use Rattle.std.proofs.Common.{length}
use Rattle.reading.proofs.+read_joined.Given as goal

abbrev pub decreases-read_joined : goal.decreases-read_joined
decreases-read_joined l = length l.area.now
