-- `ips::run_in` meets its contract. The loop's invariant: `n` and `best` are what the definitions say of the fields from index i on.
-- Assumes nothing.
use Rattle.std.proofs.Common.{arith, ◌≡◌, ap, ◌∙◌, List, ℕ, ◌+◌, ◌-◌, drop}
use Rattle.octets.specs.Numbers.{words}
use Rattle.ips.specs.Ips.{zeros_ahead, longest_from, shortening, run_of}
use Rattle.ips.specs.RunLaws.{ahead-few}
use Rattle.octets.specs.NumbersLaws.{words-length}
use Rattle.ips.specs.Writes.{zeros-turn, longest-turn, no_fields}
use Rattle.ips.proofs.run_in.Goals as goal

pub loop-i-init : goal.loop-i-init
unfolding zeros_ahead longest_from
loop-i-init c = let e = no_fields c.args.a.now c.requires in (rw e, rw e)

pub zeros_from-n-requires : goal.zeros_from-n-requires
zeros_from-n-requires c =
    let a = c.args.a.now in
    omega (arith, ahead-few (words a) c.loop-i.i, words-length a)

pub loop-i-preserved : goal.loop-i-preserved
loop-i-preserved c =
    let a : List ℕ = c.args.a.now in
    let i : ℕ = c.loop-i.i in
    let e : i - 1 + 1 ≡ i = omega arith in
    let turn : c.zeros_from-n.result ≡ zeros_ahead (drop (i - 1) (words a)) =
    c.zeros_from-n.ensures ∙ zeros-turn a (i - 1) c.loop-i.n c.get16.result (omega arith) c.get16.ensures.value (rw e c.loop-i.invariant.0) in
    let best : c.longer_of-best.result ≡ longest_from (i - 1) (drop (i - 1) (words a)) =
    c.longer_of-best.ensures ∙ longest-turn (words a) (i - 1) c.zeros_from-n.result c.loop-i.best (omega (arith, words-length a)) turn
    (rw e c.loop-i.invariant.1) in
    (turn, best)

pub returns-clause-value : goal.returns-clause-value
unfolding run_of
returns-clause-value c =
    let e : c.loop-i.i ≡ 0 = omega arith in
    c.shortening_of.ensures.value ∙ ap shortening (rw e at c.loop-i.invariant.1)
