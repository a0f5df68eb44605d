-- `values::put_key_items` meets its contract. The loop's invariant: the keys before what is left are written. Assumes nothing.
use Rattle.std.proofs.Common.{◌≡◌, refl, sym, ap, ◌∙◌, ◌∷◌, ℕ, List, arith, drop}
use Rattle.octets.specs.Numbers.{words}
use Rattle.octets.specs.ListsLaws.{take_rest}
use Rattle.octets.specs.NumbersLaws.{words-cons, words-end}
use Rattle.values.specs.Values.{keys_of}
use Rattle.values.specs.ListLaws.{listed_start, listed_next, listed-end}
use Rattle.values.proofs.put_key_items.Goals as goal

pub loop-left-init : goal.loop-left-init
loop-left-init c = listed_start _ _ _ c.min-o.ensures

pub loop-left-preserved : goal.loop-left-preserved
loop-left-preserved c =
    let s = c.loop-left.left.now in
    let next : words s ≡ c.wide16.result ∷ words (drop 2 s) = words-cons s 0 (omega arith) ∙ ap (λ (k : ℕ). k ∷ words (drop 2 s)) (sym c.wide16.ensures.value) in
    listed_next _ _ c.loop-left.invariant (next ∙ ap (λ (l : List ℕ). c.wide16.result ∷ words l) (sym (take_rest 2 s))) refl c.put_key_item-o.ensures

pub returns : goal.returns
unfolding keys_of
returns c = listed-end _ _ c.loop-left.invariant (words-end c.loop-left.left.now 0 (omega arith))
