-- `records::examine_parts` meets its contract: a flaw, or none, in both forms. Assumes nothing.
use Rattle.std.proofs.Common.{true, arith, eqb-true}
use Rattle.addresses.specs.AddressesLaws.{wide-some}
use Rattle.blocks.specs.Parts.{fields_in}
use Rattle.judge.specs.JudgeLaws.{carrier-width}
use Rattle.records.specs.Outcomes.{place_inside, examined-faulty, name-few, bare-kept, full-few, full-small, full-kept, full-clean}
use Rattle.records.specs.CleanLaws.{staying-none}
use Rattle.records.proofs.examine_parts.Goals as goal

pub back-requires : goal.back-requires
back-requires c =
    omega (arith, c.requires.named, c.name_at.ensures, place_inside c.args.c 0 (fields_in c.args.parts) c.in-Err.flaw c.in-Err.ensures)

pub returns-in-Err-clause-value : goal.returns-in-Err-clause-value
returns-in-Err-clause-value c =
    examined-faulty c.args.c _ (fields_in c.args.parts) c.in-Err.flaw c.in-Err.ensures _ (rw c.name_at.ensures at c.back.ensures)

pub overflow_add-bare : goal.overflow_add-bare
overflow_add-bare c = omega (arith, name-few c.args.c (fields_in c.args.parts) c.in_default.ensures c.name_size-bare.ensures)

pub kept_count-requires-clause-s_len_bound : goal.kept_count-requires-clause-s_len_bound
kept_count-requires-clause-s_len_bound c =
    full-few c.args.c (fields_in c.args.parts) c.in_default.ensures c.name_size-bare.ensures c.if-head.true c.address_width-w.ensures

pub overflow_mul-staying : goal.overflow_mul-staying
overflow_mul-staying c =
    omega (
      arith,
      full-small c.args.c (fields_in c.args.parts) c.in_default.ensures c.name_size-bare.ensures c.if-head.true c.address_width-w.ensures
          c.kept_count.ensures.value,
    )

pub overflow_add-result : goal.overflow_add-result
overflow_add-result c = omega (arith, name-few c.args.c (fields_in c.args.parts) c.in_default.ensures c.name_size-bare.ensures)

pub overflow_add-result-then-head : goal.overflow_add-result-then-head
overflow_add-result-then-head c =
    omega (
      arith,
      full-small c.args.c (fields_in c.args.parts) c.in_default.ensures c.name_size-bare.ensures c.if-head.true c.address_width-w.ensures
          c.kept_count.ensures.value,
    )

pub overflow_add-result-then-head-2 : goal.overflow_add-result-then-head-2
overflow_add-result-then-head-2 c =
    omega (
      arith,
      full-small c.args.c (fields_in c.args.parts) c.in_default.ensures c.name_size-bare.ensures c.if-head.true c.address_width-w.ensures
          c.kept_count.ensures.value,
    )

pub returns-then-head : goal.returns-then-head
returns-then-head c =
    let f = fields_in c.args.parts in
    let e = c.in_default.ensures in
    let n = c.name_size-bare.ensures in
    let w = c.address_width-w.ensures in
    let m = c.kept_count.ensures.value in
    record {
      value = full-kept c.args.c f e n c.if-head.true w m _ _;
      clean = λ t. full-clean c.args.c f e n c.if-head.true w m (eqb-true _ _ t);
    }

pub returns : goal.returns
returns c = record {
  value = bare-kept c.args.c (fields_in c.args.parts) c.in_default.ensures c.name_size-bare.ensures _ true c.if-head.false;
  clean = λ _. rw (c.requires.bare c.if-head.false) (staying-none _ (wide-some (carrier-width c.args.c)));
}
