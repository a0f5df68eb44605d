-- `octets::copy_held` meets its contract: what is held is `src`, and then it is written. Assumes nothing.
use Rattle.std.proofs.Common.{◌≡◌, ◌∙◌, sym, ℕ, take_all, arith}
use Rattle.std.proofs.lemmas.List.{length-replicate}
use Rattle.octets.specs.OverLaws.{wrote-front}
use Rattle.octets.proofs.copy_held.Goals as goal

pub returns : goal.returns
returns g c =
    let all = take_all c.copy_each.result c.copy_each.new.out (omega (arith, c.copy_each.ensures.next, length-replicate {A = ℕ})) in
    let held : c.copy_each.new.out ≡ c.args.src.now = sym all ∙ wrote-front c.copy_each.ensures in
    rw held at c.copy_each-2.ensures
