-- `telling::Teller::joined` meets its contract: the place of a finding is within the joined data, and with one they are discarded. Assumes nothing.
use Rattle.std.proofs.Common.{refl, arith}
use Rattle.octets.specs.NumbersLaws.{bytes-at}
use Rattle.judge.specs.Numbered.{number-some}
use Rattle.findings.proofs.Exactly.{joined-within}
use Rattle.telling.specs.DiscardedLaws.{joined-discarded, joined-kept}
use Rattle.telling.proofs.Teller.joined.Goals as goal

pub place-requires : goal.place-requires
place-requires g c =
    let octets = bytes-at c.args.joined.now (λ i. omega (arith, c.type_inv.joined i)) in
    omega (arith, rw (← c.in-Err.ensures) at (joined-within c.args.joined.now octets), c.requires)

pub returns-in-Err : goal.returns-in-Err
returns-in-Err g c = joined-discarded _ c.in-Err.ensures (number-some c.in-Err.t.fault)

pub returns : goal.returns
returns g c = joined-kept _ c.in_default.ensures refl
