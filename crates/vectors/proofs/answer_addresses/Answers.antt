-- `vectors::answer_addresses` meets its contract: its parts one after another. Assumes nothing.
use Rattle.std.proofs.Common.{ap}
use Rattle.chars.specs.PutsLaws.{puts-as, puts_then}
use Rattle.vectors.specs.Answers.{number_text, addresses_text}
use Rattle.vectors.proofs.answer_addresses.Goals as goal

pub returns : goal.returns
unfolding addresses_text
returns c =
    puts_then (puts-as (ap number_text c.kept_count.ensures.value) c.put_decimal-next.ensures)
    (puts_then (puts-as (ap number_text c.drops.ensures) c.put_decimal-from.ensures) c.put_kept.ensures)
