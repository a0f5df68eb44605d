-- `telling::Teller::block` meets its contract: the place of a finding is within the body, and with one it is discarded. Assumes nothing.
use Rattle.std.proofs.Common.{refl, arith}
use Rattle.octets.specs.NumbersLaws.{bytes-at}
use Rattle.judge.specs.Numbered.{number-some}
use Rattle.findings.proofs.Exactly.{trouble-within}
use Rattle.telling.specs.DiscardedLaws.{body-discarded, body_kept}
use Rattle.telling.proofs.Teller.block.Goals as goal

pub overflow_add-start : goal.overflow_add-start
overflow_add-start g c =
    let octets = bytes-at c.args.body.now (λ i. omega (arith, c.type_inv.body i)) in
    let within = rw (← c.in-Err.ensures) at (trouble-within c.args.self.now.carrier c.args.body.now octets) in
    omega (arith, within, c.requires)

pub returns-in-Err : goal.returns-in-Err
returns-in-Err g c = body-discarded _ _ c.in-Err.ensures (number-some c.in-Err.t.fault)

pub returns : goal.returns
returns g c = body_kept _ _ c.in_default.ensures refl
