-- `reading::read_within` meets its contract: what `join` wrote at the front of the buffer is the joined data. Assumes nothing.
use Rattle.std.proofs.Common.{sym, arith, length}
use Rattle.carriers.specs.declared.Carrier.TheVariants.{Dhcp4}
use Rattle.frames.specs.Frame.{frame}
use Rattle.frames.proofs.GatherLaws.{joins-broken}
use Rattle.reading.specs.AnswerLaws.{reads_as, reads-refused, many-room, many-length, answer-broken, answer-many}
use Rattle.reading.proofs.read_within.Goals as goal

pub slice_bounds-read_instances-end : goal.slice_bounds-read_instances-end
slice_bounds-read_instances-end c =
    many-room _ _ _ _ c.in-Ok.ensures.joins

pub slice_bounds-read_instances-end-in-Ok : goal.slice_bounds-read_instances-end-in-Ok
slice_bounds-read_instances-end-in-Ok c =
    sym (many-length _ _ _ _ c.in-Ok.ensures.joins)

pub read_instances-requires : goal.read_instances-requires
read_instances-requires c =
    omega (arith, many-length _ _ _ _ c.in-Ok.ensures.joins, c.in-Ok.ensures.result_in_bounds, c.requires.1)

pub returns-in-Err : goal.returns-in-Err
returns-in-Err c =
    let a = c.args in
    let broken = joins-broken (frame Dhcp4 a.area.now) a.buffer.now c.join.new.out c.in-Err.ensures.joins in
    reads-refused _ (answer-broken Dhcp4 (length a.out.now) _ broken) c.refused.ensures

pub returns-in-Ok : goal.returns-in-Ok
returns-in-Ok c =
    reads_as (answer-many _ _ _ _ c.in-Ok.ensures.joins _ c.requires.2) c.read_instances.ensures
