-- `lines::put_hex` meets its contract. The loop's invariant: the text of the first i octets of s is written. Assumes nothing.
use Rattle.std.proofs.Common.{refl, sym, ap, ◌∙◌, [], ◌∷◌, ◌++◌, ℕ, arith, length, take, get_or, take_all}
use Rattle.io.proofs.Counting.{prefix_len_of_le}
use Rattle.chars.specs.PutsLaws.{puts_none, puts-within, puts_then, puts-as}
use Rattle.hexes.specs.Hexes.{two}
use Rattle.lines.specs.HexLines.{lines_from}
use Rattle.lines.specs.HexLinesLaws.{lines_none, lines_more}
use Rattle.lines.proofs.put_hex.Goals as goal

pub loop-i-init : goal.loop-i-init
loop-i-init c =
    let a = c.args in
    (refl, puts-as (sym (lines_none (length a.s.now) a.s.now)) (puts_none 0 a.out.now (omega arith)))

pub loop-i-preserved : goal.loop-i-preserved
loop-i-preserved c =
    let s = c.args.s.now in
    let i = c.loop-i.i in
    let e = ap (λ (b : ℕ). lines_from 0 (length s) (take i s) ++ (two (get_or s i 0) ++ (b ∷ []))) c.after.ensures in (
      omega arith,
      puts-as (e ∙ sym (lines_more (length s) s i (omega arith))) (puts_then c.loop-i.invariant.1 (puts_then c.put_octet-next.ensures.puts c.put-o.ensures.puts)),
    )

pub returns : goal.returns
returns c =
    let s = c.args.s.now in record { prefix_len = prefix_len_of_le _ _ (puts-within c.loop-i.invariant.1); puts = puts-as (ap (lines_from 0 (length s)) (take_all c.loop-i.i s (omega arith))) c.loop-i.invariant.1 }
