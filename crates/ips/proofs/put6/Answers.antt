-- `ips::put6` meets its contract: mixed notation for a mapped address, and fields for any other. Assumes nothing.
use Rattle.ips.specs.Writes.{text6-mixed, text6-fields}
use Rattle.ips.proofs.put6.Goals as goal

pub put_mixed-requires : goal.put_mixed-requires
put_mixed-requires c =
    record {
      a_len = c.requires.a_len;
      a_in_bounds = rw (text6-mixed c.args.a.now c.is_mapped.result c.is_mapped.ensures c.if-is_mapped.true) at
          c.requires.a_in_bounds;
    }

pub returns-then-is_mapped : goal.returns-then-is_mapped
returns-then-is_mapped c =
    rw (text6-mixed c.args.a.now c.is_mapped.result c.is_mapped.ensures c.if-is_mapped.true) c.put_mixed.ensures

pub put_shortened-requires : goal.put_shortened-requires
put_shortened-requires c =
    record {
      a_len = c.requires.a_len;
      a_in_bounds = rw (text6-fields c.args.a.now c.is_mapped.result c.is_mapped.ensures c.if-is_mapped.false) at
          c.requires.a_in_bounds;
    }

pub returns : goal.returns
returns c =
    rw (text6-fields c.args.a.now c.is_mapped.result c.is_mapped.ensures c.if-is_mapped.false) c.put_shortened.ensures
