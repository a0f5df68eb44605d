-- A text is read as octets exactly where it spells them, one at least; a text spells at most one list of octets, and each of them is
-- below 256. Assumes nothing.
use Rattle.std.specs.Prelude.{◌≡◌, refl, ◌↔◌, Bool, true, false, ◌||◌, List, [], ◌∷◌, ℕ, ◌≤◌, eqb, length}
use Rattle.std.proofs.Common.{ap, ◌∙◌, arith, eqb-true}
use Rattle.std.proofs.lemmas.Bool.{false≢true}
use Rattle.hexes.specs.Hexes.{digit, value, separator, octet, Read, octets, other, onto, pairs, some, read_hex}
use Rattle.hexes.specs.HexesLaws.{by-digit, value-decimal, value-upper, value-lower, digit-decimal, digit-upper, digit-lower, digit-separator, pairs-separator, pairs-pair, pairs_first, pairs-second, some_is, is_some}
use Rattle.hexes.specs.Spelled.{Digit, decimal, upper, lower, Separator, space, tab, line_feed, carriage_return, colon, Spelled, nothing, separated, paired}

-- ---- characters

pub digit-says : (x : ℕ) → digit x ≡ true → Digit x (value x)
digit-says x e =
    by-digit x e
    (λ h k. let v = value-decimal x (omega arith) in decimal (omega arith) (omega arith))
    (λ h k. let v = value-upper x h (omega arith) in upper (omega arith) (omega arith) (omega arith))
    (λ h k. let v = value-lower x h in lower (omega arith) (omega arith) (omega arith))

pub digit-is : {x v : ℕ} → Digit x v → (digit x ≡ true) × (value x ≡ v)
digit-is {x} {v} (decimal h e) = (digit-decimal x (omega arith) (omega arith), value-decimal x (omega arith) ∙ omega arith)
digit-is {x} {v} (upper h k e) = (digit-upper x (omega arith) (omega arith), value-upper x (omega arith) (omega arith) ∙ omega arith)
digit-is {x} {v} (lower h k e) = (digit-lower x (omega arith) (omega arith), value-lower x (omega arith) ∙ omega arith)

separator-says : (x : ℕ) → separator x ≡ true → Separator x
unfolding separator
separator-says x = go (eqb x 32) refl (eqb x 9) refl (eqb x 10) refl (eqb x 13) refl (eqb x 58) refl
  where
    go : (a : Bool) → eqb x 32 ≡ a → (b : Bool) → eqb x 9 ≡ b → (c : Bool) → eqb x 10 ≡ c → (d : Bool) → eqb x 13 ≡ d → (e : Bool) → eqb x 58 ≡ e
        → a || b || c || d || e ≡ true → Separator x
    go true p b q c r d s e u h = space (eqb-true x 32 p)
    go false p true q c r d s e u h = tab (eqb-true x 9 q)
    go false p false q true r d s e u h = line_feed (eqb-true x 10 r)
    go false p false q false r true s e u h = carriage_return (eqb-true x 13 s)
    go false p false q false r false s true u h = colon (eqb-true x 58 u)
    go false p false q false r false s false u h = absurd (false≢true h)

separator-is : {x : ℕ} → Separator x → separator x ≡ true
unfolding separator
separator-is (space e) = rw e
separator-is (tab e) = rw e
separator-is (line_feed e) = rw e
separator-is (carriage_return e) = rw e
separator-is (colon e) = rw e

-- ---- pairs

-- what was read is spelled
abbrev Says : List ℕ → Read → Type 0
Says t (octets bs) = Spelled t bs
Says t other = Unit {0}

onto-says : (x y : ℕ) (t : List ℕ) → digit x ≡ true → digit y ≡ true → (r : Read) → Says t r → Says (x ∷ y ∷ t) (onto (octet x y) r)
onto-says x y t d e (octets bs) s = paired (digit-says x d) (digit-says y e) s
onto-says x y t d e other s = tt

separated-says : (x : ℕ) (t : List ℕ) → separator x ≡ true → (r : Read) → Says t r → Says (x ∷ t) r
separated-says x t e (octets bs) s = separated (separator-says x e) s
separated-says x t e other s = tt

last_says : (x : ℕ) (a : Bool) → separator x ≡ a → Says (x ∷ []) (pairs (x ∷ []))
unfolding pairs
last_says x true p = rw p (separated (separator-says x p) nothing)
last_says x false p = rw p tt

two-say : (x y : ℕ) (t : List ℕ) → Says (y ∷ t) (pairs (y ∷ t)) → Says t (pairs t)
    → (a : Bool) → separator x ≡ a → (b : Bool) → digit x ≡ b → (c : Bool) → digit y ≡ c → Says (x ∷ y ∷ t) (pairs (x ∷ y ∷ t))
two-say x y t s u true p b q c r = rw (pairs-separator x (y ∷ t) p) (separated-says x (y ∷ t) p (pairs (y ∷ t)) s)
two-say x y t s u false p true q true r = rw (pairs-pair x y t p q r) (onto-says x y t q r (pairs t) u)
two-say x y t s u false p true q false r = rw (pairs-second x y t p q r) tt
two-say x y t s u false p false q c r = rw (pairs_first x y t p q) tt

pairs-says : (t : List ℕ) → Says t (pairs t)
unfolding pairs
pairs-says [] = nothing
pairs-says (x ∷ []) = last_says x (separator x) refl
pairs-says (x ∷ y ∷ t) = two-say x y t (pairs-says (y ∷ t)) (pairs-says t) (separator x) refl (digit x) refl (digit y) refl

spelled-read : {t bs : List ℕ} → Spelled t bs → pairs t ≡ octets bs
unfolding pairs
spelled-read nothing = refl
spelled-read (separated {x} {t} s u) = pairs-separator x t (separator-is s) ∙ spelled-read u
spelled-read (paired {x} {y} {v} {w} {t} {bs} d e u) =
    let f = digit-is d in
    let g = digit-is e in
    pairs-pair x y t (digit-separator x f.0) f.0 g.0 ∙ ap (onto (octet x y)) (spelled-read u) ∙ ap (λ (n : ℕ). octets (n ∷ bs)) (rw (f.1, g.1))

-- ---- the theorems

pub hex-exactly : (t bs : List ℕ) → (read_hex t ≡ octets bs) ↔ (Spelled t bs × (1 ≤ length bs))
hex-exactly t bs = (to, from)
  where
    to : read_hex t ≡ octets bs → Spelled t bs × (1 ≤ length bs)
    to e = let s = some_is (pairs t) bs e in (rw s.0 at (pairs-says t), s.1)

    from : Spelled t bs × (1 ≤ length bs) → read_hex t ≡ octets bs
    from s = ap some (spelled-read s.0) ∙ is_some bs s.1

pub spelled-once : {t bs cs : List ℕ} → Spelled t bs → Spelled t cs → bs ≡ cs
spelled-once {t} {bs} {cs} s u =
    let e : pairs t ≡ octets bs = spelled-read s in
    let f : pairs t ≡ octets cs = spelled-read u in
    cc
