-- `findings::sheet::reason` meets its contract: octets that are no sheet, and a sheet's records. Assumes nothing.
use Rattle.std.proofs.Common.{◌∙◌}
use Rattle.taking.specs.StandingLaws.{took-refused}
use Rattle.vetting.proofs.VettingLaws.{vet-taken}
use Rattle.findings.specs.SheetLaws.{sheet-refused, sheet-taken-reason}
use Rattle.findings.proofs.sheet.reason.Goals as goal

pub seek-requires : goal.seek-requires
seek-requires c = (vet-taken c.args.s.now c.in-Ok.ensures).0

pub returns-in_default : goal.returns-in_default
returns-in_default c = let a = c.args in sheet-refused a.s.now a.place (took-refused a.s.now c.in_default.ensures)

pub returns : goal.returns
returns c = let a = c.args in c.seek.ensures ∙ sheet-taken-reason a.s.now a.place (vet-taken a.s.now c.in-Ok.ensures).0
