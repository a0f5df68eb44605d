-- `results::put_place_part` meets its contract: the place, or nothing. Assumes nothing.
use Rattle.std.proofs.Common.{eq-eqb, ne_eqb, sym, ◌∙◌}
use Rattle.chars.specs.PutsLaws.{puts_none, puts_then}
use Rattle.results.proofs.put_place_part.Goals as goal

pub returns-then-fault-number : goal.returns-then-fault-number
returns-then-fault-number c =
    simp (eq-eqb _ _ (c.if-fault-number.true ∙ c.number.ensures)) (puts_then c.put_count-next.ensures c.put_all.ensures.puts)

pub returns : goal.returns
returns c = simp (ne_eqb _ _ (λ e. c.if-fault-number.false (e ∙ sym c.number.ensures))) (puts_none _ _ c.min.ensures)
