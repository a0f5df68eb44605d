-- A text as a C string: what a caller in C is given. Assumes nothing: these are definitions.
use Rattle.std.specs.Prelude.{◌≡◌, Bool, true, ◌&&◌, List, [], ◌∷◌, ◌++◌, ℕ, zero, suc, ◌-◌, min, leb, length, take}
use Rattle.octets.specs.Over.{over}

-- as many octets of a text as fit a room before one last octet 0, and that octet; nothing where there is no room
unfoldable pub c_string : ℕ → List ℕ → List ℕ
c_string zero text = []
c_string (suc n) text = take n text ++ (0 ∷ [])

-- l' is l with the text as a C string at its front and nothing else changed, and r is how many octets of the text stand there
pub record PutsString (text l : List ℕ) (r : ℕ) (l' : List ℕ) : Type 0 where
  pub size : r ≡ min (length text) (length l - 1)
  pub laid : l' ≡ over 0 (c_string (length l) text) l

-- every octet is a visible ASCII character or a blank, so none is 0 or a line break
unfoldable pub visible : List ℕ → Bool
visible [] = true
visible (x ∷ xs) = leb 32 x && leb x 126 && visible xs

-- with this room, the words of every number are whole (`words/StringsLaws`: `words-whole`)
abbrev pub max_words : ℕ
max_words = 160
