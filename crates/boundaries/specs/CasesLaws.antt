-- The laws of where a case ends, one for each return of the function that finds it. Assumes nothing.
use Rattle.std.specs.Prelude.{◌≡◌, List, ℕ, ◌+◌, ◌-◌, ◌≤◌, ◌<◌, length, Option, Some, None}
use borrow.Author.Tests.{lt-ltb, le-ltb}
use Rattle.octets.specs.Numbers.{at32}
use Rattle.boundaries.specs.Cases.{end_of}

module _ (s : List ℕ) (at : ℕ) where
  -- no room for a room and a length
  pub end-head : length s - at < 8 → None ≡ end_of s at
  unfolding end_of
  end-head h = simp (lt-ltb _ _ h)

  module _ (head : 8 ≤ length s - at) where
    -- fewer octets than the length says
    pub end_short : length s - (at + 8) < at32 s (at + 4) → None ≡ end_of s at
    unfolding end_of
    end_short h = simp (le-ltb _ _ head, lt-ltb _ _ h)

    -- as many octets, or more
    pub end_whole : at32 s (at + 4) ≤ length s - (at + 8) → Some (at + 8 + at32 s (at + 4)) ≡ end_of s at
    unfolding end_of
    end_whole h = simp (le-ltb _ _ head, le-ltb _ _ h)
