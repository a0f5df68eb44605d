-- `command::hints::hint` meets its contract. The loop's invariant: the hint is among the carriers from k on. Assumes nothing.
use Rattle.std.proofs.Common.{◌≡◌, sym, ap, ◌∙◌, arith, false}
use Rattle.carriers.specs.Carriers.{number_of}
use Rattle.carriers.specs.Told.{carrier_in}
use Rattle.command.specs.Hints.{suits_in}
use Rattle.command.specs.HintsLaws.{suits-own, suits-other, hint-here, hint-other, hint-none, hint-carrier}
use Rattle.command.proofs.hints.hint.Goals as goal
use Rattle.command.proofs.hints.hint.Goals.{else-k-own-via-then-k-own+else-finds, else-k-own-via-else-k-own}

pub returns-then-finds : goal.returns-then-finds
returns-then-finds c =
    let n = number_of c.args.carrier in
    let s = c.args.area.now in
    let k = c.loop-k.k in
    let own = c.from-own.ensures ∙ c.number.ensures in
    let suits = sym (suits-other n s k (λ e. c.if-k-own.true (e ∙ sym own))) ∙ (sym c.finds.ensures ∙ c.if-finds.true) in
    ap carrier_in c.of.ensures.value
    ∙ hint-carrier k (omega arith) c.loop-k-test.true
    ∙ hint-here n s k c.loop-k-test.true suits
    ∙ c.loop-k.invariant

pub loop-k-preserved : goal.loop-k-preserved
loop-k-preserved c =
    let n = number_of c.args.carrier in
    let s = c.args.area.now in
    let k = c.loop-k.k in
    let own = c.from-own.ensures ∙ c.number.ensures in
    let suits : suits_in k n s ≡ false = elim c.else-k-own.branch [
      | else-k-own-via-then-k-own+else-finds w ↦
          sym (suits-other n s k (λ e. w.if-k-own.true (e ∙ sym own))) ∙ (sym w.finds.ensures ∙ w.if-finds.false)
      | else-k-own-via-else-k-own w ↦ sym (suits-own n s k (w.if-k-own.false ∙ own))
    ] in
    hint-other n s k c.loop-k-test.true suits ∙ c.loop-k.invariant

pub returns : goal.returns
returns c = hint-none (number_of c.args.carrier) c.args.area.now c.loop-k.k c.loop-k-test.false ∙ c.loop-k.invariant
