-- `lines::listed::put_discarded` meets its contract: its parts one after another. That the key's number is written is asked as an equation. Assumes nothing.
use Rattle.std.proofs.Common.{ap, arith, ℕ, ◌++◌}
use Rattle.chars.specs.Ascii.{ascii}
use Rattle.chars.specs.Puts.{Puts}
use Rattle.chars.specs.PutsLaws.{puts_none, puts_then, puts-as, puts-within}
use Rattle.values.specs.Values.{key_of}
use Rattle.lines.specs.Discards.{key_part, cause_of, discarded_of}
use Rattle.lines.specs.DiscardsLaws.{reason-same}
use Rattle.lines.proofs.listed.put_discarded.Goals.{in-None, in-Some}
use Rattle.lines.proofs.listed.put_discarded.Goals as goal

pub returns-clause-puts : goal.returns-clause-puts
unfolding discarded_of cause_of
returns-clause-puts c =
    let worded = rw c.number.ensures at c.put_worded-worded.ensures in
    let reasoned = rw (c.number_in.ensures, reason-same c.args.d.reason) at c.put_reason_part-reasoned.ensures in
    let key : Puts c.put_reason_part-reasoned.result (key_part c.args.d.key) c.put_reason_part-reasoned.new.out c.match-d.end c.match-d.out =
    elim c.match-d.branch [
      | in-None w ↦ rw (w.in-None.is, w.out-is, w.end-is) (puts_none _ _ (omega (arith, puts-within c.put_reason_part-reasoned.ensures)))
      | in-Some w ↦
          let written = puts_then w.put_all-label.ensures.puts w.put_key-end.ensures in
          rw (w.in-Some.is, w.out-is, w.end-is) (puts-as (ap (λ (n : ℕ). ascii "; parameter " ++ key_of n) (omega arith)) written)
    ] in
    let cause = puts_then worded (puts_then reasoned (puts_then key c.put_all.ensures.puts)) in
    let back = puts_then c.put_count-placed.ensures (puts_then c.put_all-from.ensures.puts cause) in
    puts_then c.put_about-next.ensures.puts (puts_then c.put_count-counted.ensures back)
