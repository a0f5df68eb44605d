-- Which sheets writing accepts (RULES D4), said of their records and stated as what is true of the octets, not as steps to take; the law
-- `accepted-exactly` says that writing accepts exactly these. Assumes nothing: these are definitions.
use Rattle.std.specs.Prelude.{◌≡◌, ◌⊎◌, List, ℕ, ◌≤◌}
use Rattle.octets.specs.Lists.{All}
use Rattle.numbers.specs.Refusal as refusal
use Rattle.numbers.specs.Limit as limit
use Rattle.carriers.specs.declared.Carrier.{Carrier}
use Rattle.carriers.specs.declared.Carrier.TheVariants.{Router}
use Rattle.blocks.specs.Block.{Fields, option_size}
use Rattle.judge.specs.declared.Side.TheVariants.{Writing}
use Rattle.judge.specs.Allowed.{Allowed}
use Rattle.taking.specs.Sheet.{FitsRecord, IsSheet}

-- in carrier 3 a record's option has at most 2,040 octets (RULES R44, L6)
abbrev pub Sized : Carrier → Fields → Type 0
Sized c r = c ≡ Router → option_size r ≤ limit.option

-- a record that writing accepts: its fields fit a sheet's record (RULES S2, S4), the RFCs and the limits allow it with no address to be dropped
-- (RULES R21 to R28), and its option is not too large (RULES R44)
pub record Sound (c : Carrier) (r : Fields) : Type 0 where
  pub fits : FitsRecord c r
  pub allowed : Allowed Writing c r
  pub units : Sized c r

-- s is the sheet of carrier c and records rs, and each of these is accepted (RULES D4)
pub record Accepted (s : List ℕ) (c : Carrier) (rs : List Fields) : Type 0 where
  pub is : IsSheet s c rs
  pub sound : All (Sound c) rs

-- ---- by what writing answers

-- 0 or 5: the numbers that writing answers to an accepted sheet, by the room alone (RULES D4)
abbrev pub Accepting : ℕ → Type 0
Accepting k = (k ≡ 0) ⊎ (k ≡ refusal.room)
