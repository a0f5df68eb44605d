-- `name_check` says `Ok` of the names and of nothing else, and `Err p` exactly where p is the first bad place; and it never looks past
-- the first 256 octets. Assumes nothing.
use Rattle.std.specs.Prelude.{◌≡◌, ◌↔◌, List, ℕ, ◌≤◌, ◌<◌, take, Ok, Err}
use Rattle.names.specs.Names.{IsName, FirstBad}
use Rattle.names.specs.Wire.{letter, name_automaton, name_check}
use Rattle.names.specs.Sound.{good-sound}
use Rattle.names.specs.Complete.{good-complete}
use Rattle.names.specs.Place.{bad-stops}
use Rattle.names.specs.Exactness as exactness

module _ (s : List ℕ) where
  pub good : (name_check s ≡ Ok tt) ↔ IsName s
  good = (good-sound s, good-complete s)

  pub bad : (p : ℕ) → (name_check s ≡ Err p) ↔ FirstBad IsName s p
  unfolding name_check
  bad = exactness.bad name_automaton (letter 0) IsName good-sound good-complete bad-stops s

  pub place-small : (p : ℕ) → name_check s ≡ Err p → p ≤ 255
  unfolding name_check
  place-small = exactness.place-small name_automaton (letter 0) IsName good-sound good-complete bad-stops 255 (λ _ o. o.short) s

  pub first-enough : (n : ℕ) → 255 < n → name_check (take n s) ≡ name_check s
  unfolding name_check
  first-enough = exactness.first-enough name_automaton (letter 0) IsName good-sound good-complete bad-stops 255 (λ _ o. o.short) s
