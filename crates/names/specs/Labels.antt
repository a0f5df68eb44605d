-- A wire form has one list of labels. Assumes nothing.
use Rattle.std.specs.Prelude.{◌≡◌, refl, List, [], ◌∷◌, ◌++◌, ℕ, length}
use Rattle.std.proofs.Common.{sym, arith}
use Rattle.octets.specs.Lists.{All}
use Rattle.octets.specs.ListsLaws.{part_apart}
use Rattle.names.specs.Names.{Label, wire}

-- a length octet is not the root octet
not_root : {X : Type 0} (l x y : List ℕ) → Label l → length l ∷ x ≡ 0 ∷ y → X
not_root l x y o e =
    let h = o.some in
    let z : length l ≡ 0 = cc in
    absurd (omega arith)

pub labels-unique : (ls ms : List (List ℕ)) → All Label ls → All Label ms → wire ls ≡ wire ms → ls ≡ ms
labels-unique [] [] o p e = refl
labels-unique [] (m ∷ ms) o p e = not_root m (m ++ wire ms) [] p.0 (sym e)
labels-unique (l ∷ ls) [] o p e = not_root l (l ++ wire ls) [] o.0 e
labels-unique (l ∷ ls) (m ∷ ms) o p e =
    let h : length l ≡ length m = cc in
    let t : l ++ wire ls ≡ m ++ wire ms = cc in
    let both = part_apart l m (wire ls) (wire ms) h t in
    let f : l ≡ m = both.0 in
    let r : ls ≡ ms = labels-unique ls ms o.1 p.1 both.1 in
    cc
