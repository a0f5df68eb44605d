-- `writing::put_octets` meets its contract: in carrier 1 joined and cut, else one after another. Assumes nothing.
use Rattle.writing.specs.Laying.{records_of}
use Rattle.writing.specs.LayingLaws.{row-joined, stream-room, stream-laid}
use Rattle.writing.proofs.put_octets.Goals as goal

pub put_joined-requires : goal.put_joined-requires
put_joined-requires c =
    record { c_value = row-joined c.args.c c.facts.ensures c.if-facts.true; ready = c.requires.ready; measured = c.requires.measured }

pub returns-then-facts : goal.returns-then-facts
returns-then-facts c = c.put_joined.ensures

pub put_stream-requires : goal.put_stream-requires
put_stream-requires c =
    record { ready = c.requires.ready; s_in_bounds = stream-room c.args.c (row-joined c.args.c c.facts.ensures c.if-facts.false) c.requires.measured }

pub returns-else-facts : goal.returns-else-facts
returns-else-facts c =
    let a = c.args in
    stream-laid a.c (row-joined a.c c.facts.ensures c.if-facts.false) (records_of a.s.now) c.put_stream.ensures
