-- `addresses::count_each` meets its contract. The loop's invariant: the count so far, with those kept of the addresses that are left,
-- is the whole count. Assumes nothing.
use Rattle.std.proofs.Common.{◌≡◌, ◌∙◌, sym, ap, ◌∷◌, ◌+◌, List, ℕ, suc, length, drop, add-one, drop-cons, drop_of_length-le, not, arith}
use Rattle.addresses.specs.Addresses.{list_of, kept_of}
use Rattle.addresses.specs.AddressesLaws.{kept_in, kept_out, chunks_list}
use Rattle.addresses.proofs.count_each.Goals.{then-not-dropped, else-not-dropped}
use Rattle.addresses.proofs.count_each.Goals as goal

pub loop-a-preserved : goal.loop-a-preserved
loop-a-preserved g c =
    let list = c.as_chunks.result.0.now in
    let i = c.loop-a.a-index in
    let a = c.a-item.result in
    let cut : drop i list ≡ a ∷ drop (i + 1) list = rw (add-one, drop-cons list i a c.loop-a-test.true) (ap (λ (x : List ℕ). x ∷ drop (suc i) list) (sym c.a-item.is)) in
    let left = ap (λ (l : List (List ℕ)). length (kept_of g.row.W l)) cut in
    elim c.if-not-dropped.branch [
      | then-not-dropped w ↦
          let kept = ap length (kept_in g.row.W a (drop (i + 1) list) c.dropped.ensures (ap not w.if-not-dropped.true)) in
          (omega (arith, w.n-is), omega (arith, w.n-is, c.loop-a.invariant.1, left, kept))
      | else-not-dropped w ↦
          let kept = ap length (kept_out g.row.W a (drop (i + 1) list) c.dropped.ensures (ap not w.if-not-dropped.false)) in
          (omega (arith, w.n-is), omega (arith, w.n-is, c.loop-a.invariant.1, left, kept))
    ]

pub returns-clause-value : goal.returns-clause-value
unfolding kept_of
returns-clause-value g c =
    let list = c.as_chunks.result.0.now in
    let none = ap (λ (l : List (List ℕ)). length (kept_of g.row.W l)) (drop_of_length-le list {i = c.loop-a.a-index} c.loop-a-test.false) in
    let all : list ≡ list_of g.row.W c.args.s.now = c.as_chunks.ensures.front ∙ chunks_list g.row.W c.args.s.now in
    omega (arith, c.loop-a.invariant.1, none, ap (λ (l : List (List ℕ)). length (kept_of g.row.W l)) all, c.from.ensures)
