-- `taking::take_records` meets its contract: the count, then the records. Assumes nothing.
use Rattle.std.proofs.Common.{sym, ◌∙◌, rules}
use Rattle.taking.specs.TookLaws.{records-1, records-2, records-3}
use Rattle.taking.proofs.take_records.Goals as goal

pub returns-then-count-gt-RECORDS : goal.returns-then-count-gt-RECORDS
returns-then-count-gt-RECORDS c = search (rules, records-1)

pub returns-then-not-stand : goal.returns-then-not-stand
returns-then-not-stand c =
    let e = sym c.if-not-stand.true ∙ c.stand.ensures in
    records-3 c.args.c c.args.s.now c.args.count c.requires c.if-count-gt-RECORDS.false e

pub returns : goal.returns
returns c =
    let e = sym c.if-not-stand.false ∙ c.stand.ensures in
    records-2 c.args.c c.args.s.now c.args.count c.requires c.if-count-gt-RECORDS.false e
