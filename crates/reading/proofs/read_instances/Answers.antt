-- `reading::read_instances` meets its contract. The invariant: the records of the instances passed are held, and nothing is written. The
-- measure is what is left of the joined data. Assumes nothing.
use Rattle.std.proofs.Common.{ℕ, List, ◌≡◌, ◌-◌, true, refl, sym, ◌∙◌, [], ◌∷◌, arith, ◌+◌, ◌≤◌, ◌<◌, length, Result, Ok, Err, eqb-true}
use Rattle.std.specs.Result.{MatchResult}
use Rattle.std.proofs.lemmas.Bool.{eqb-false}
use Rattle.carriers.specs.declared.Carrier.TheVariants.{Dhcp4}
use Rattle.numbers.specs.Limit as limit
use Rattle.frames.specs.Step.{part}
use Rattle.judge.specs.declared.Flaw.{Flaw}
use Rattle.records.specs.declared.Examined.{Examined}
use Rattle.records.specs.Yielded.{outcome_of}
use Rattle.records.specs.Examined.{verdict_in, examined_of, Clean}
use Rattle.reading.specs.Reading.{read_blocks}
use Rattle.reading.specs.Tally.{Seen}
use Rattle.reading.specs.InstanceLaws.{joined-none}
use Rattle.reading.specs.TallyLaws.{holds-new, holds-ready}
use Rattle.reading.specs.TallyLaws.{passed_start, passed-short, passed-past, passed-faulty, passed-keeps, passed-end}
use Rattle.reading.specs.AnswerLaws.{reads_as, reads-from, answer-yields}
use Rattle.reading.proofs.Seeing.{fault-some, seen_body}
use Rattle.reading.proofs.read_instances.Goals as goal

-- what the examination of an instance tells, whose length was read and which ends within the joined data
instance : (joined : List ℕ) (at n : ℕ) (r : Result Examined Flaw) → 2 ≤ length joined - at → n ≤ length joined - (at + 2)
    → verdict_in r ≡ examined_of Dhcp4 (outcome_of Dhcp4 (part (at + 2) (at + 2 + n) joined)) (verdict_in r).clean
    → MatchResult r
    (λ e. (e.priority < 65536) × (e.size ≤ limit.record_size) × (e.clean ≡ true → Clean Dhcp4 (part (at + 2) (at + 2 + n) joined)))
    (λ w. w.place ≤ length (part (at + 2) (at + 2 + n) joined))
    → Seen Dhcp4 joined (at + 2) (at + 2 + n) (verdict_in r)
instance joined at n r two whole = seen_body Dhcp4 joined _ _ (omega arith) (omega (arith, two, whole)) r

pub discard_joined-requires : goal.discard_joined-requires
discard_joined-requires c = rw c.from.ensures (joined-none _ (eqb-true _ _ (sym c.is_empty.ensures ∙ c.if-is_empty.true)))

pub loop-at-init : goal.loop-at-init
loop-at-init c = (passed_start _ (eqb-false _ _ (sym c.is_empty.ensures ∙ c.if-is_empty.false)) (holds-new _ _ c.new-held.ensures.none c.new-held.ensures.value), refl)

pub discard_joined-requires-then-joined-at-lt2 : goal.discard_joined-requires-then-joined-at-lt2
discard_joined-requires-then-joined-at-lt2 c =
    rw c.from-then-joined-at-lt2.ensures (passed-short _ c.loop-at.invariant.0 c.loop-at-test.true c.if-joined-at-lt2.true)

pub discard_joined-requires-then-joined-start : goal.discard_joined-requires-then-joined-start
discard_joined-requires-then-joined-start c =
    rw c.from-then-joined-start.ensures
    (passed-past _ c.loop-at.invariant.0 c.loop-at-test.true _ c.get16-long.ensures.value c.if-joined-at-lt2.false c.if-joined-start.true)

pub back-requires : goal.back-requires
back-requires c =
    let seen = instance _ _ _ (Err c.in-Err.flaw) c.if-joined-at-lt2.false c.if-joined-start.false c.in-Err.ensures.value c.in-Err.ensures.bounds in
    omega (arith, seen.near, seen.high, c.requires)

pub discard_joined-requires-in-Err : goal.discard_joined-requires-in-Err
discard_joined-requires-in-Err c =
    let seen = instance _ _ _ (Err c.in-Err.flaw) c.if-joined-at-lt2.false c.if-joined-start.false c.in-Err.ensures.value c.in-Err.ensures.bounds in
    passed-faulty _ c.loop-at.invariant.0 c.loop-at-test.true _ c.get16-long.ensures.value c.if-joined-at-lt2.false c.if-joined-start.false seen
    (fault-some c.in-Err.flaw.fault) c.back.ensures

pub keep-requires : goal.keep-requires
keep-requires c =
    let seen = instance _ _ _ (Ok c.in-Ok.e) c.if-joined-at-lt2.false c.if-joined-start.false c.in-Ok.ensures.value c.in-Ok.ensures.bounds in
    record {
      place = (seen.low, omega (arith, seen.high, c.requires));
      bounds = (c.in-Ok.ensures.bounds.0, c.in-Ok.ensures.bounds.1, c.loop-at.invariant.0.holds.small);
    }

pub loop-at-preserved : goal.loop-at-preserved
loop-at-preserved c =
    let seen = instance _ _ _ (Ok c.in-Ok.e) c.if-joined-at-lt2.false c.if-joined-start.false c.in-Ok.ensures.value c.in-Ok.ensures.bounds in
    let i = c.loop-at.invariant in (
      passed-keeps _ i.0 c.loop-at-test.true _ c.get16-long.ensures.value c.if-joined-at-lt2.false c.if-joined-start.false seen refl c.keep.ensures,
      i.1,
    )

pub settle-requires : goal.settle-requires
settle-requires c = holds-ready c.loop-at.invariant.0.holds

pub returns : goal.returns
returns c =
    reads-from (read_blocks Dhcp4 (c.args.joined.now ∷ [])) c.loop-at.invariant.1
    (reads_as (sym (answer-yields _ _ _ (passed-end _ c.loop-at.invariant.0 c.loop-at-test.false))) c.settle.ensures)
