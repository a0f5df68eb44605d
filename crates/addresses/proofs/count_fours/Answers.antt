-- `addresses::count_fours` meets its contract. The loop's invariant: the count so far, with those kept of the addresses that are left,
-- is the whole count. Assumes nothing.
use Rattle.std.proofs.Common.{◌≡◌, ◌∙◌, ap, ℕ, ◌-◌, ◌*◌, ◌/◌, ◌%◌, List, ◌++◌, length, length-append, take-append-drop, arith}
use Rattle.addresses.specs.Addresses.{list_of, kept_of}
use Rattle.addresses.specs.AddressesLaws.{kept-end}
use Rattle.addresses.specs.CountLaws.{count-four, count-part, count_cut}
use Rattle.addresses.proofs.count_fours.Goals as goal

pub loop-four-init : goal.loop-four-init
loop-four-init c =
    let same : c.into_iter-four-iterator.result.rest.now ≡ c.split_at.result.0.now = cc in
    (cc, (length c.args.s.now / 64, omega (arith, ap length same, c.split_at.ensures.front_len)), record { few = omega arith; whole = omega arith })

pub loop-four-preserved-then-plain16 : goal.loop-four-preserved-then-plain16
loop-four-preserved-then-plain16 c =
    let i = c.loop-four.invariant in
    let s = c.in-Some.ensures.steps in
    let size : length c.in-Some.four.now ≡ 64 = s.1.1 ∙ i.0 in
    let left = simp length-append at (ap length s.1.0) in
    let four = count-four c.in-Some.four.now size c.plain16.ensures c.plain16-in-loop-four.ensures c.plain16-in-loop-four-2.ensures c.plain16-in-loop-four-3.ensures c.if-plain16.true in
    (s.0 ∙ i.0, (i.1.0 - 1, omega (arith, i.1.1)), count-part _ _ i.2 (omega arith) 4 s.1.0 size (omega (arith, four)) (omega arith))

pub loop-four-preserved : goal.loop-four-preserved
loop-four-preserved c =
    let i = c.loop-four.invariant in
    let s = c.in-Some.ensures.steps in
    let size : length c.in-Some.four.now ≡ 64 = s.1.1 ∙ i.0 in
    let left = simp length-append at (ap length s.1.0) in
    (s.0 ∙ i.0, (i.1.0 - 1, omega (arith, i.1.1)), count-part _ _ i.2 (omega arith) 4 s.1.0 size c.count_each-n.ensures.value c.count_each-n.ensures.upper_bound)

pub returns-clause-value : goal.returns-clause-value
returns-clause-value c =
    let i = c.loop-four.invariant in
    let fours = c.split_at.result.0.now in
    let rest = c.split_at.result.1.now in
    let s = c.args.s.now in
    let same : c.into_iter-four-iterator.result.rest.now ≡ fours = cc in
    let whole : fours ++ rest ≡ s = rw (c.split_at.ensures.front, c.split_at.ensures.back) (take-append-drop (length s - length s % 64) s) in
    let kept = λ (l : List ℕ). length (kept_of 16 (list_of 16 l)) in
    let cut = count_cut 16 (omega arith) (length s / 64 * 4) fours rest (omega (arith, c.split_at.ensures.front_len)) in
    let none = kept-end 16 c.loop-four.four-iterator.rest.now (omega (arith, i.1.1, i.0, c.in-None.ensures.steps.1.0)) in
    omega (arith, i.2.whole, ap kept same, ap kept whole, cut, c.count_each.ensures.value, ap length none)
