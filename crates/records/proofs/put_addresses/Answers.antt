-- `records::put_addresses` meets its contract: a clean list is the list that stays. Assumes nothing.
use Rattle.std.proofs.Common.{ap, length, arith}
use Rattle.records.specs.CleanLaws.{wrote-clean}
use Rattle.records.proofs.put_addresses.Goals as goal

pub copy-requires : goal.copy-requires
copy-requires c =
    omega (arith, c.requires.addresses_in_bounds, ap length (c.requires.addresses_value c.if-clean.true))

pub returns-then-clean : goal.returns-then-clean
returns-then-clean c =
    wrote-clean c.args.w (c.requires.addresses_value c.if-clean.true) c.copy.ensures
