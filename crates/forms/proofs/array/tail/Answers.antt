-- `forms::array::tail` meets its contract. The loop's invariant: the characters from i on decide, after what has been read. Assumes nothing.
use Rattle.std.proofs.Common.{sym, ap, ◌∙◌, ◌+◌, arith}
use Rattle.forms.specs.Arrays.{after_in}
use Rattle.forms.specs.ArraysLaws.{tail-start, tail-bad, tail-later, tail-end}
use Rattle.forms.proofs.array.tail.Goals as goal
use Rattle.forms.proofs.array.tail.Goals.{else-loop-i-test, then-loop-i-test+in-Ok+else-i-i-end}

pub loop-i-init : goal.loop-i-init
loop-i-init c = let a = c.args in rw c.begun-s.ensures (tail-start a.text.now a.from a.n)

pub returns-in-Err : goal.returns-in-Err
returns-in-Err c =
    let l = c.loop-i in
    let bad = tail-bad c.args.text.now l.i c.args.n (after_in l.s) c.character.ensures c.loop-i-test.true c.in-Err.why c.in-Err.ensures in
    sym bad ∙ l.invariant

pub loop-i-preserved : goal.loop-i-preserved
loop-i-preserved c =
    let l = c.loop-i in
    tail-later c.args.text.now l.i c.args.n (after_in l.s) c.character.ensures c.loop-i-test.true c.in-Ok.t c.in-Ok.ensures ∙ l.invariant

pub returns : goal.returns
returns c =
    let t = c.args.text.now in
    let l = c.loop-i in
    c.ended.ensures
    ∙ elim c.loop-i-test.branch [
      | else-loop-i-test w ↦ rw w.s-is (sym (tail-end t l.i c.args.n (after_in l.s) w.loop-i-test.false) ∙ l.invariant)
      | then-loop-i-test+in-Ok+else-i-i-end w ↦
          let later = tail-later t l.i c.args.n (after_in l.s) w.character.ensures w.loop-i-test.true w.in-Ok.t w.in-Ok.ensures in
          rw w.s-is (sym (tail-end t (l.i + 1) c.args.n (after_in w.in-Ok.t) (omega arith)) ∙ later ∙ l.invariant)
    ]
