-- The laws of lines of hexadecimal text, octet by octet. Assumes nothing.
use Rattle.std.specs.Prelude.{◌≡◌, refl, List, [], ◌∷◌, ◌++◌, ℕ, suc, ◌+◌, ◌<◌, length, get_or, take}
use Rattle.std.proofs.Common.{sym, ap, ◌∙◌, add-zero, zero-add, add-one, arith, take-suc, length-take-le}
use Rattle.hexes.specs.Hexes.{two}
use Rattle.lines.specs.HexLines.{after_of, lines_from}

-- one octet more
from_more : (k n y : ℕ) (xs : List ℕ) → lines_from k n (xs ++ (y ∷ [])) ≡ lines_from k n xs ++ (two y ++ (after_of (k + length xs) n ∷ []))
unfolding lines_from
from_more k n y [] = ap (λ (i : ℕ). two y ++ (after_of i n ∷ [])) (sym (add-zero k))
from_more k n y (x ∷ xs) =
    let e : k + 1 + length xs ≡ k + suc (length xs) = omega arith in
    let rest = from_more (k + 1) n y xs ∙ ap (λ (i : ℕ). lines_from (k + 1) n xs ++ (two y ++ (after_of i n ∷ []))) e in
    ap (λ (l : List ℕ). two x ++ (after_of k n ∷ l)) rest

pub lines_more : (n : ℕ) (s : List ℕ) (i : ℕ) → i < length s
    → lines_from 0 n (take (i + 1) s) ≡ lines_from 0 n (take i s) ++ (two (get_or s i 0) ++ (after_of i n ∷ []))
lines_more n s i h =
    let size : 0 + length (take i s) ≡ i = zero-add (length (take i s)) ∙ length-take-le i s (omega arith) in
    ap (lines_from 0 n) (rw (add-one i) (take-suc s i 0 h))
    ∙ from_more 0 n (get_or s i 0) (take i s)
    ∙ ap (λ (k : ℕ). lines_from 0 n (take i s) ++ (two (get_or s i 0) ++ (after_of k n ∷ []))) size

pub lines_none : (n : ℕ) (s : List ℕ) → lines_from 0 n (take 0 s) ≡ []
unfolding lines_from
lines_none n s = refl
