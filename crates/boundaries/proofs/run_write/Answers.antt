-- `boundaries::run_write` is safe: what the call wrote fits its buffer. Assumes nothing.
use Rattle.std.proofs.Common.{arith}
use Rattle.io.proofs.Counting.{prefix_len_of_le}
use Rattle.answers.proofs.AnswersLaws.{writes-fits}
use Rattle.boundaries.proofs.run_write.Goals as goal

pub print_buffer-requires : goal.print_buffer-requires
print_buffer-requires g c = prefix_len_of_le _ _ (writes-fits _ c.write-w.ensures (omega arith))
