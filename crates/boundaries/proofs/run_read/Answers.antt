-- `boundaries::run_read` is safe: what the call wrote fits its buffer. Assumes nothing.
use Rattle.std.proofs.Common.{arith}
use Rattle.io.proofs.Counting.{prefix_len_of_le}
use Rattle.reading.specs.AnswerLaws.{reads-fits}
use Rattle.boundaries.proofs.run_read.Goals as goal

pub print_buffer-requires : goal.print_buffer-requires
print_buffer-requires g c = prefix_len_of_le _ _ (reads-fits _ c.read-r.ensures (omega arith))
