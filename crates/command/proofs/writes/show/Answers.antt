-- `command::writes::show` meets its contract: by what vetting the sheet says. Assumes nothing.
use Rattle.std.proofs.Common.{ap, rules}
use Rattle.vetting.specs.Vetting.{told_in}
use Rattle.command.specs.NumbersLaws.{shows-refused, shows-large, shows-fitting}
use Rattle.command.proofs.writes.show.Goals as goal

pub returns-then-vetted : goal.returns-then-vetted
returns-then-vetted g c =
    let answer = shows-large c.vet.ensures (ap told_in c.in-Ok.is) c.if-vetted.true in
    search (rules, answer)

pub returns-in-Err : goal.returns-in-Err
returns-in-Err g c =
    let answer = shows-refused c.vet.ensures (ap told_in c.in-Err.is) in
    search (rules, answer)

pub returns-else-vetted : goal.returns-else-vetted
returns-else-vetted g c =
    let answer = shows-fitting c.vet.ensures (ap told_in c.in-Ok.is) c.if-vetted.false in
    search (rules, answer)
