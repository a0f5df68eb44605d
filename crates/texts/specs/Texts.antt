-- Names as text (RULES N4): the same labels joined by dots, without a final dot, 1 to 253 octets.
-- Assumes nothing: these are definitions.
use Rattle.std.specs.Prelude.{◌≡◌, cond, List, [], ◌∷◌, ◌++◌, ℕ, zero, suc, ◌-◌, ◌≤◌, eqb, length, get_or, take, drop}
use Rattle.octets.specs.Lists.{All}
use Rattle.names.specs.Names.{Label}

-- labels joined by dots (RULES N4)
abbrev pub dotted : List ℕ → List (List ℕ) → List ℕ
dotted l [] = l
dotted l (m ∷ ms) = l ++ (46 ∷ dotted m ms)

abbrev pub text : List (List ℕ) → List ℕ
text [] = []
text (l ∷ ls) = dotted l ls

-- s is the text of one label or more, and has at most 253 octets (RULES N4)
pub record IsText (s : List ℕ) : Type 0 where
  pub labels : List (List ℕ)
  pub some : 1 ≤ length labels
  pub each : All Label labels
  pub is : s ≡ text labels
  pub short : length s ≤ 253

-- ---- text to wire form and back, octet by octet (RULES N1, N4)

-- how many octets stand before the first dot: the length of the first label (RULES N1)
unfoldable pub run : List ℕ → ℕ
run [] = 0
run (x ∷ xs) = cond (eqb x 46) 0 (suc (run xs))

-- each dot becomes the length of the label after it, and the root octet ends the name (RULES N1)
unfoldable pub wire_from : List ℕ → List ℕ
wire_from [] = 0 ∷ []
wire_from (x ∷ xs) = cond (eqb x 46) (run xs) x ∷ wire_from xs

-- the wire form of a text (RULES N4)
unfoldable pub wire_of : List ℕ → List ℕ
wire_of t = run t ∷ wire_from t

-- each length octet becomes a dot, with `left` octets of the label at hand to come (RULES N4)
unfoldable pub dots_from : ℕ → List ℕ → List ℕ
dots_from left [] = []
dots_from zero (x ∷ xs) = 46 ∷ dots_from x xs
dots_from (suc left) (x ∷ xs) = x ∷ dots_from left xs

-- the text of a wire form: what stands between its first length octet and its root octet (RULES N4)
unfoldable pub text_of : List ℕ → List ℕ
text_of w = dots_from (get_or w 0 0) (take (length w - 2) (drop 1 w))
