-- `reading::read_joined` meets its contract, by what `gather` tells. It calls itself for an area that begins with the first of several options
-- 162, which is a shorter one: the measure is the area's length. Assumes nothing.
use Rattle.std.proofs.Common.{sym, ap, subst, ◌∙◌, [], ◌∷◌, append-nil, arith, ◌-◌, length, drop, length-drop, take_all, Ok}
use Rattle.carriers.specs.declared.Carrier.TheVariants.{Dhcp4}
use Rattle.frames.specs.Frame.{Framed, frame}
use Rattle.frames.specs.Gather.{GatheredFrom}
use Rattle.frames.proofs.GatherLaws.{part_length}
use Rattle.frames.specs.ToldLaws.{number-framed, refused-fault}
use Rattle.reading.specs.Reading.{read_framed}
use Rattle.reading.specs.TallyLaws.{holds-new, holds-ready, shows-none}
use Rattle.reading.specs.AnswerLaws.{reads_as, reads-refused, answer-yields, answer-broken, answer-absent, answer-joined}
use Rattle.reading.proofs.+read_joined.Goals as goal

pub settle-requires : goal.settle-requires
settle-requires t c = holds-ready (holds-new _ _ c.new.ensures.none c.new.ensures.value)

pub slice_bounds-read_instances-count : goal.slice_bounds-read_instances-count
slice_bounds-read_instances-count t c =
    (subst (GatheredFrom _) (ap Ok c.in-One.is) c.in-Ok.ensures).0

pub slice_bounds-read_instances-start : goal.slice_bounds-read_instances-start
slice_bounds-read_instances-start t c =
    let o = (subst (GatheredFrom _) (ap Ok c.in-One.is) c.in-Ok.ensures) in omega arith

pub slice_bounds-read_instances-end : goal.slice_bounds-read_instances-end
slice_bounds-read_instances-end t c =
    let o = (subst (GatheredFrom _) (ap Ok c.in-One.is) c.in-Ok.ensures) in omega arith

pub read_instances-requires : goal.read_instances-requires
read_instances-requires t c =
    let o = (subst (GatheredFrom _) (ap Ok c.in-One.is) c.in-Ok.ensures) in
    let size = part_length c.in-One.start c.in-One.end c.args.area.now o.1 in
    omega (arith, c.requires)

pub slice_bounds-read_joined-count : goal.slice_bounds-read_joined-count
slice_bounds-read_joined-count t c =
    (subst (GatheredFrom _) (ap Ok c.in-Many.is) c.in-Ok.ensures).0

pub slice_bounds-read_joined-start : goal.slice_bounds-read_joined-start
slice_bounds-read_joined-start t c =
    let m = (subst (GatheredFrom _) (ap Ok c.in-Many.is) c.in-Ok.ensures) in omega arith

pub slice_bounds-read_joined-end : goal.slice_bounds-read_joined-end
slice_bounds-read_joined-end t c =
    let m = (subst (GatheredFrom _) (ap Ok c.in-Many.is) c.in-Ok.ensures) in omega arith

pub read_joined-requires : goal.read_joined-requires
read_joined-requires t c =
    let m = (subst (GatheredFrom _) (ap Ok c.in-Many.is) c.in-Ok.ensures) in
    let size = part_length c.in-Many.from (length c.args.area.now) c.args.area.now (omega arith) in
    omega arith

pub returns-then-from-gt0 : goal.returns-then-from-gt0
returns-then-from-gt0 t c =
    let a = c.args in
    let m = (subst (GatheredFrom _) (ap Ok c.in-Many.is) c.in-Ok.ensures) in
    let rest = take_all (length a.area.now - c.in-Many.from) (drop c.in-Many.from a.area.now) (omega (arith, length-drop c.in-Many.from a.area.now)) in
    reads_as (ap (λ (f : Framed). read_framed Dhcp4 f (length a.out.now)) (m.1 ∙ sym (ap (frame Dhcp4) rest))) c.read_joined.ensures

pub read_in-requires : goal.read_in-requires
read_in-requires t c = (c.if-area-le-USUAL.true, omega arith, (subst (GatheredFrom _) (ap Ok c.in-Many.is) c.in-Ok.ensures).2)

pub read_in-requires-then-area-le-HALF : goal.read_in-requires-then-area-le-HALF
read_in-requires-then-area-le-HALF t c = (c.if-area-le-HALF.true, omega arith, (subst (GatheredFrom _) (ap Ok c.in-Many.is) c.in-Ok.ensures).2)

pub read_in-requires-in-Many : goal.read_in-requires-in-Many
read_in-requires-in-Many t c = (c.requires, omega arith, (subst (GatheredFrom _) (ap Ok c.in-Many.is) c.in-Ok.ensures).2)

pub returns-in-Err : goal.returns-in-Err
returns-in-Err t c =
    let a = c.args in
    let broken = refused-fault (frame Dhcp4 a.area.now) c.in-Err.why (sym c.in-Err.ensures.0) in
    reads-refused _ (answer-broken Dhcp4 (length a.out.now) _ broken) c.refused.ensures

pub returns-in-Absent : goal.returns-in-Absent
returns-in-Absent t c =
    let told = subst (GatheredFrom _) (ap Ok c.in-Absent.is) c.in-Ok.ensures in
    let absent = number-framed (frame Dhcp4 c.args.area.now) told in
    reads_as (answer-absent _ absent ∙ sym (answer-yields _ _ _ (shows-none (holds-new _ _ c.new.ensures.none c.new.ensures.value)))) c.settle.ensures

pub returns-in-One : goal.returns-in-One
returns-in-One t c =
    let alone = number-framed (frame Dhcp4 c.args.area.now) (subst (GatheredFrom _) (ap Ok c.in-One.is) c.in-Ok.ensures).2 in
    reads_as (answer-joined _ _ (_ ∷ []) alone (omega arith) (sym (append-nil _))) c.read_instances.ensures
