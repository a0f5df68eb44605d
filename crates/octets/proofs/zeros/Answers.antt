-- `octets::zeros` meets its contract: `all` answers it. Assumes nothing.
use Rattle.std.proofs.Common.{eqb, refl, rules}
use Rattle.std.proofs.lemmas.List.Recursion.{and_is}
use Rattle.octets.specs.Numbers.{all_zero}
use Rattle.octets.proofs.zeros.Goals as goal

pub returns : goal.returns
unfolding all_zero
returns c = and_is all_zero (λ x. eqb x 0) refl (λ _ _. refl) c.args.s.now 0 _ (search rules) (search rules)
