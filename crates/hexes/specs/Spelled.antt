-- What it is for a text to spell octets, said without a reader. Assumes nothing: these are definitions.
use Rattle.std.specs.Prelude.{◌≡◌, List, [], ◌∷◌, ℕ, ◌+◌, ◌*◌, ◌≤◌, ◌<◌}

-- x is the digit of value v: 0 to 9 from 48 on, A to F from 65 on, a to f from 97 on
pub data Digit (x v : ℕ) : Type 0 where
  decimal : v < 10 → x ≡ 48 + v → Digit x v
  upper : 10 ≤ v → v < 16 → x ≡ 55 + v → Digit x v
  lower : 10 ≤ v → v < 16 → x ≡ 87 + v → Digit x v

-- x is a separator
pub data Separator (x : ℕ) : Type 0 where
  space : x ≡ 32 → Separator x
  tab : x ≡ 9 → Separator x
  line_feed : x ≡ 10 → Separator x
  carriage_return : x ≡ 13 → Separator x
  colon : x ≡ 58 → Separator x

-- the text t spells the octets bs: the empty text spells none, a separator adds none, and a pair of digits adds one at the front
pub data Spelled : List ℕ → List ℕ → Type 0 where
  nothing : Spelled [] []
  separated : {x : ℕ} {t bs : List ℕ} → Separator x → Spelled t bs → Spelled (x ∷ t) bs
  paired : {x y v w : ℕ} {t bs : List ℕ} → Digit x v → Digit y w → Spelled t bs → Spelled (x ∷ y ∷ t) ((v * 16 + w) ∷ bs)
