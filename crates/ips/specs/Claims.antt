-- The words in which the laws speak of fields, runs and characters. Assumes nothing: these are definitions.
use Rattle.std.specs.Prelude.{◌≡◌, ◌⊎◌, List, ℕ, ◌+◌, ◌≤◌, ◌<◌, length, get_or}
use Rattle.octets.specs.Lists.{All}

-- a number of 16 bits, and a list of them
abbrev pub Field : ℕ → Type 0
Field f = f < 65536

abbrev pub Fields : List ℕ → Type 0
Fields fs = All Field fs

-- the n fields from index s on are there, and are zero
pub record Zeros (fs : List ℕ) (s n : ℕ) : Type 0 where
  pub inside : s + n ≤ length fs
  pub zero : (i : ℕ) → i < n → get_or fs (s + i) 0 ≡ 0

-- they are, no run of zeros has more, and none of as many begins before (RFC 5952 §4.2.3)
pub record Longest (fs : List ℕ) (s n : ℕ) : Type 0 where
  pub zeros : Zeros fs s n
  pub most : (t m : ℕ) → Zeros fs t m → m ≤ n
  pub first : (t : ℕ) → Zeros fs t n → s ≤ t

-- a digit's character, and any character of a text: a digit, a dot or a colon
abbrev pub Digit : ℕ → Type 0
Digit c = ((48 ≤ c) × (c ≤ 57)) ⊎ ((97 ≤ c) × (c ≤ 102))

abbrev pub Sign : ℕ → Type 0
Sign c = Digit c ⊎ ((c ≡ 46) ⊎ (c ≡ 58))
