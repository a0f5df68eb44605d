-- An area as the run of options that it is (RULES W1 to W8), without a walk: `frame` gives the bodies of this run, and nothing where there is
-- none (`frame-exactly`, `fault-exactly`). It speaks of lists of numbers; that they are octets is a premise of the laws. Assumes nothing: these
-- are definitions.
use Rattle.std.specs.Prelude.{◌≡◌, Bool, true, false, cond, List, [], ◌∷◌, ◌++◌, ℕ, ◌+◌, ◌*◌, ◌^◌, ◌<◌, length}
use Rattle.octets.specs.Lists.{flat}
use Rattle.octets.specs.Numbers.{be}
use Rattle.carriers.specs.declared.Carrier.{Carrier}
use Rattle.carriers.specs.Carriers.{code_of, head_width, header_of, has_reserved, bare_code, in_eights, is_joined}

-- a length tells how many octets the body has; in units of eight it counts the header of h octets too (RULES W6; RFC 4861 §4.6)
abbrev pub Says : Bool → ℕ → ℕ → ℕ → Type 0
Says true h size body = 8 * size ≡ h + body
Says false h size body = size ≡ body

-- an option with this code and this body: code and length in the header's octets, and the body (RULES W1, W5 to W7). The code is what stands there
-- without the reserved bit (RFC 7296 §3.15.1). In carrier 1, 0 and 255 are no codes of options: they stand alone (RULES W2, W3; RFC 2132 §3.1, §3.2)
pub record IsOption (c : Carrier) (option : List ℕ) (code : ℕ) (body : List ℕ) : Type 0 where
  pub stands : ℕ
  pub size : ℕ
  pub laid : option ≡ be (head_width c) stands ++ (be (head_width c) size ++ body)
  pub stands_room : stands < 256 ^ head_width c
  pub size_room : size < 256 ^ head_width c
  pub code_is : code ≡ bare_code (has_reserved c) stands
  pub says : Says (in_eights c) (header_of c) size (length body)
  pub unmarked : is_joined c ≡ true → (stands ≡ 0 → ⊥) × (stands ≡ 255 → ⊥)

-- the area is a run of options, of which the carrier's own have these bodies (RULES W8)
pub data Area (c : Carrier) : List ℕ → List (List ℕ) → Type 0 where
  none : Area c [] []
  -- carrier 1: an octet 0 is padding, and an octet 255 ends the area, whatever follows (RULES W2, W3)
  padding : {area : List ℕ} {bodies : List (List ℕ)} → is_joined c ≡ true → Area c area bodies → Area c (0 ∷ area) bodies
  end : {rest : List ℕ} → is_joined c ≡ true → Area c (255 ∷ rest) []
  own : {option body area : List ℕ} {bodies : List (List ℕ)} → IsOption c option (code_of c) body → Area c area bodies
      → Area c (option ++ area) (body ∷ bodies)
  foreign : {code : ℕ} {option body area : List ℕ} {bodies : List (List ℕ)} → IsOption c option code body → (code ≡ code_of c → ⊥) → Area c area bodies
      → Area c (option ++ area) bodies

-- ---- blocks

-- the blocks of a framed area: each own option is one (RULES W5 to W7); in carrier 1 the data of all of them, joined, are one (RULES W4; RFC 3396)
abbrev pub joined : List (List ℕ) → List (List ℕ)
joined [] = []
joined (b ∷ bs) = flat (b ∷ bs) ∷ []

abbrev pub blocks_of : Carrier → List (List ℕ) → List (List ℕ)
blocks_of c bs = cond (is_joined c) (joined bs) bs
