-- What it is for a text to spell octets as a list of a kind (docs/COMMAND.md, "Lists"), said without a reader: lines of groups of digits, what may
-- stand between groups, and where a group of more octets than one may stand. Assumes nothing: these are definitions.
use Rattle.std.specs.Prelude.{◌≡◌, Bool, true, false, List, [], ◌∷◌, ◌++◌, ℕ, ◌+◌, ◌*◌, ◌≤◌, length}
use Rattle.octets.specs.Lists.{All, flat}
use Rattle.hexes.specs.Spelled.{Digit}
use Rattle.groups.specs.declared.Kind.{Kind}

-- ---- characters

-- a blank within a line
pub data Blank (x : ℕ) : Type 0 where
  space : x ≡ 32 → Blank x
  tab : x ≡ 9 → Blank x
  carriage_return : x ≡ 13 → Blank x

-- the x of 0x
pub data Ex (x : ℕ) : Type 0 where
  lower : x ≡ 120 → Ex x
  upper : x ≡ 88 → Ex x

-- what may stand between groups besides blanks
pub record Mark (f : Kind) (x : ℕ) : Type 0 where
  pub is : x ≡ f.mark
  pub some : f.mark ≡ 0 → ⊥

-- the mark of a kind is told from blanks, digits and the x of 0x
pub record Proper (f : Kind) : Type 0 where
  pub no_break : f.mark ≡ 10 → ⊥
  pub no_blank : Blank f.mark → ⊥
  pub no_digit : (v : ℕ) → Digit f.mark v → ⊥
  pub no_ex : Ex f.mark → ⊥

-- ---- a group

-- two digits for each octet, the more significant first
pub data Pairs : List ℕ → List ℕ → Type 0 where
  none : Pairs [] []
  pair : {x y v w : ℕ} {t bs : List ℕ} → Digit x v → Digit y w → Pairs t bs → Pairs (x ∷ y ∷ t) ((v * 16 + w) ∷ bs)

-- the digits of a group: those of one octet or more; or a single one, where the kind allows it
pub data Digits (f : Kind) : List ℕ → List ℕ → Type 0 where
  single : {x v : ℕ} → f.single ≡ true → Digit x v → Digits f (x ∷ []) (v ∷ [])
  pairs : {t bs : List ℕ} → Pairs t bs → 1 ≤ length bs → Digits f t bs

-- a group: its digits, and 0x before them where the kind asks for it
pub data Group (f : Kind) : List ℕ → List ℕ → Type 0 where
  bare : {t bs : List ℕ} → f.prefix ≡ false → Digits f t bs → Group f t bs
  fronted : {x y : ℕ} {t bs : List ℕ} → f.prefix ≡ true → x ≡ 48 → Ex y → Digits f t bs → Group f (x ∷ y ∷ t) bs

-- ---- a list

-- a group ends where the text ends, and before a blank, a line break and a mark
pub data Ends (f : Kind) : List ℕ → Type 0 where
  at_end : Ends f []
  at_blank : {x : ℕ} {t : List ℕ} → Blank x → Ends f (x ∷ t)
  at_break : {x : ℕ} {t : List ℕ} → x ≡ 10 → Ends f (x ∷ t)
  at_mark : {x : ℕ} {t : List ℕ} → Mark f x → Ends f (x ∷ t)

-- what a list, or the rest of one, has on its line and on the lines after it: groups, and the octets of each. The flag tells that a mark may stand:
-- after a group, on its line; where the kind wants marks, no group stands there
pub data Listed (f : Kind) : Bool → List ℕ → List (List ℕ) → List (List (List ℕ)) → Type 0 where
  nothing : {after : Bool} → Listed f after [] [] []
  blank : {after : Bool} {x : ℕ} {t : List ℕ} {l : List (List ℕ)} {ls : List (List (List ℕ))} → Blank x → Listed f after t l ls → Listed f after (x ∷ t) l ls
  break : {after : Bool} {x : ℕ} {t : List ℕ} {l : List (List ℕ)} {ls : List (List (List ℕ))} → x ≡ 10 → Listed f false t l ls
      → Listed f after (x ∷ t) [] (l ∷ ls)
  mark : {x : ℕ} {t : List ℕ} {l : List (List ℕ)} {ls : List (List (List ℕ))} → Mark f x → Listed f false t l ls → Listed f true (x ∷ t) l ls
  group : {after : Bool} {g t bs : List ℕ} {l : List (List ℕ)} {ls : List (List (List ℕ))}
      → (f.marked ≡ true → after ≡ false)
      → Group f g bs
      → Ends f t
      → Listed f true t l ls
      → Listed f after (g ++ t) (bs ∷ l) ls

-- a group of more octets than one stands alone on its line, or alone in the list, as the kind says
pub data Alone (f : Kind) (ls : List (List (List ℕ))) : Type 0 where
  narrow : All (All (λ (g : List ℕ). length g ≤ 1)) ls → Alone f ls
  by_line : f.lines ≡ true → All (λ (l : List (List ℕ)). length l ≤ 1) ls → Alone f ls
  by_list : f.lines ≡ false → f.whole ≡ true → length (flat ls) ≤ 1 → Alone f ls

-- the text t spells the octets bs
pub record Spells (f : Kind) (t bs : List ℕ) : Type 0 where
  pub first : List (List ℕ)
  pub others : List (List (List ℕ))
  pub listed : Listed f false t first others
  pub alone : Alone f (first ∷ others)
  pub are : bs ≡ flat (flat (first ∷ others))
