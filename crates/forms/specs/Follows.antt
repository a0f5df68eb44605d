-- What may follow the closing brace of an array of n octets (docs/FORMS.md, "Lists"), said without a reader. Assumes nothing: these are definitions.
use Rattle.std.specs.Prelude.{◌≡◌, true, List, [], ◌∷◌, ℕ, ◌+◌, ◌-◌, ◌*◌, ◌<◌, length, drop}
use Rattle.forms.specs.Places.{blank}
use Rattle.forms.specs.Arrays.{decimal, word}

-- blanks, and then what P says
pub data Spaced (P : List ℕ → Type 0) : List ℕ → Type 0 where
  here : {t : List ℕ} → P t → Spaced P t
  blanks : {x : ℕ} {t : List ℕ} → blank x ≡ true → Spaced P t → Spaced P (x ∷ t)

pub data Ended : List ℕ → Type 0 where
  end : Ended []

-- the semicolon of the length, and the end
pub data Closed : List ℕ → Type 0 where
  close : {x : ℕ} {t : List ℕ} → x ≡ 59 → Spaced Ended t → Closed (x ∷ t)

-- decimal digits, which after l make n, and what follows them
pub data Digits (n : ℕ) : ℕ → List ℕ → Type 0 where
  all : {l : ℕ} {t : List ℕ} → l ≡ n → Spaced Closed t → Digits n l t
  digit : {l x : ℕ} {t : List ℕ} → decimal x ≡ true → Digits n (10 * l + (x - 48)) t → Digits n l (x ∷ t)

-- the length, of one digit at least
pub data Counted (n : ℕ) : List ℕ → Type 0 where
  number : {x : ℕ} {t : List ℕ} → decimal x ≡ true → Digits n 0 (x ∷ t) → Counted n (x ∷ t)

-- the rest of a declaration, up to its = and the length
pub data Words (n : ℕ) : List ℕ → Type 0 where
  space : {x : ℕ} {t : List ℕ} → blank x ≡ true → Words n t → Words n (x ∷ t)
  letter : {x : ℕ} {t : List ℕ} → word x ≡ true → Words n t → Words n (x ∷ t)
  equals : {x : ℕ} {t : List ℕ} → x ≡ 61 → Spaced (Counted n) t → Words n (x ∷ t)

-- after the array's semicolon
pub data Declared (n : ℕ) : List ℕ → Type 0 where
  none : Declared n []
  declaration : {x : ℕ} {t : List ℕ} → word x ≡ true → Words n t → Declared n (x ∷ t)

-- after the closing brace
pub data Followed (n : ℕ) : List ℕ → Type 0 where
  nothing : Followed n []
  semicolon : {x : ℕ} {t : List ℕ} → x ≡ 59 → Spaced (Declared n) t → Followed n (x ∷ t)

abbrev pub Follows : ℕ → List ℕ → Type 0
Follows n t = Spaced (Followed n) t

-- the closing brace of an array of n octets stands at `at`, and after it only what may follow
pub record Alone (at n : ℕ) (t : List ℕ) : Type 0 where
  pub closed : at < length t
  pub rest : Follows n (drop (at + 1) t)
