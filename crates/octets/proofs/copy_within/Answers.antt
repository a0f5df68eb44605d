-- `octets::copy_within` meets its contract: what is held stood at `from`, and then it is written at `to`. Assumes nothing.
use Rattle.std.proofs.Common.{◌≡◌, sym, ap, ◌∙◌, arith, ℕ, List, ◌+◌, ◌-◌, ◌≤◌, length, take, drop, length-take, length-drop}
use Rattle.octets.specs.Over.{Wrote}
use Rattle.octets.specs.OverLaws.{wrote-front}
use Rattle.octets.proofs.copy_within.Goals as goal

-- what is held is the n octets at `from`
held : (s zeros out : List ℕ) (from n next : ℕ) → from + n ≤ length s → Wrote 0 (take (from + n - from) (drop from s)) zeros next out
    → take n out ≡ take n (drop from s)
held s zeros out from n next room w =
    let long : length (take (from + n - from) (drop from s)) ≡ n = simp (length-take, length-drop) (omega arith) in
    let all : next ≡ n = omega (arith, w.next) in
    let whole : from + n - from ≡ n = omega arith in
    ap (λ (i : ℕ). take i out) (sym all) ∙ wrote-front w ∙ ap (λ (i : ℕ). take i (drop from s)) whole

held-length : (s zeros out : List ℕ) (from n next : ℕ) → from + n ≤ length s → Wrote 0 (take (from + n - from) (drop from s)) zeros next out
    → length (take n out) ≡ n
held-length s zeros out from n next room w =
    let long : length (take n (drop from s)) ≡ n = simp (length-take, length-drop) (omega arith) in
    ap length (held s zeros out from n next room w) ∙ long

pub slice_bounds-copy_each-end-3 : goal.slice_bounds-copy_each-end-3
slice_bounds-copy_each-end-3 c = omega (arith, held-length _ _ _ c.args.from c.args.n _ (omega arith) c.copy_each.ensures)

pub copy_each-requires-2 : goal.copy_each-requires-2
copy_each-requires-2 c = omega (arith, held-length _ _ _ c.args.from c.args.n _ (omega arith) c.copy_each.ensures)

pub returns : goal.returns
returns c = rw (held _ _ _ c.args.from c.args.n _ (omega arith) c.copy_each.ensures) at c.copy_each-2.ensures
