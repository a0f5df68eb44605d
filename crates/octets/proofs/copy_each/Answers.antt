-- `octets::copy_each` meets its contract. The loop's invariant: the first j octets of `src` are laid over `out` from `at`. Assumes nothing.
use Rattle.std.proofs.Common.{arith, ◌≡◌, refl, sym, ◌∙◌, ℕ, List, take, take_all}
use Rattle.octets.specs.OverLaws.{over-nil, over-take}
use Rattle.octets.proofs.copy_each.Goals as goal

pub loop-j-init : goal.loop-j-init
loop-j-init c = sym (over-nil _ _)

pub loop-j-preserved : goal.loop-j-preserved
loop-j-preserved c = let a = c.args in rw c.loop-j.invariant (over-take a.at c.loop-j.j a.src.now a.out.now (omega arith) (omega arith))

pub returns : goal.returns
returns c =
    let s : List ℕ = c.args.src.now in
    let all : take c.loop-j.j s ≡ s = take_all c.loop-j.j s (omega arith) in
    record { room = omega arith; next = refl; laid = c.loop-j.invariant ∙ rw all }
