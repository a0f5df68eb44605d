-- `octets::get_number` meets its contract: one octet, or two. Assumes nothing.
use Rattle.std.proofs.Common.{◌≡◌, ℕ, arith, rules}
use Rattle.octets.specs.NumbersLaws.{number-one, number-two}
use Rattle.octets.proofs.get_number.Goals as goal

pub returns-then-width-eq1 : goal.returns-then-width-eq1
returns-then-width-eq1 c = record { value = search (rules, number-one); upper_bound = omega arith }

pub returns : goal.returns
returns c = let e : ◌≡◌ {A = ℕ} c.args.width 2 = omega arith in record { value = search (rules, number-two); upper_bound = omega arith }
