-- `hexes::value` meets its contract: each of the three ranges of digits has its own first digit. Assumes nothing.
use Rattle.std.proofs.Common.{arith}
use Rattle.hexes.specs.HexesLaws.{by-digit, value-decimal, value-upper, value-lower}
use Rattle.hexes.proofs.value.Goals as goal

pub overflow_sub-result : goal.overflow_sub-result
overflow_sub-result c = by-digit c.args.x c.requires (λ h k. omega arith) (λ h k. absurd (omega arith)) (λ h k. absurd (omega arith))

pub returns-in-0-to-64 : goal.returns-in-0-to-64
returns-in-0-to-64 c =
    let e = value-decimal c.args.x (omega arith) in
    by-digit c.args.x c.requires (λ h k. record { value = omega arith; upper_bound = omega arith }) (λ h k. absurd (omega arith)) (λ h k. absurd (omega arith))

pub returns-in-65-to-96 : goal.returns-in-65-to-96
returns-in-65-to-96 c =
    let e = value-upper c.args.x (omega arith) (omega arith) in
    by-digit c.args.x c.requires (λ h k. absurd (omega arith)) (λ h k. record { value = omega arith; upper_bound = omega arith }) (λ h k. absurd (omega arith))

pub returns-in_default : goal.returns-in_default
returns-in_default c =
    let e = value-lower c.args.x (omega arith) in
    by-digit c.args.x c.requires (λ h k. absurd (omega arith)) (λ h k. absurd (omega arith)) (λ h k. record { value = omega arith; upper_bound = omega arith })
