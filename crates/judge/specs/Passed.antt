-- A step of the proofs between the judge and `Allowed`: fields of which none of the judge's tests for 21 to 28 holds, in the words of these
-- tests; what a reader must believe is `Allowed` (`allowed-exactly`). Assumes nothing: these are definitions.
use Rattle.std.specs.Prelude.{◌≡◌, true, false, List, ℕ, ◌/◌, ◌%◌, ◌≤◌, ◌<◌, length, ◌⊎◌, Ok}
use Rattle.numbers.specs.Limit as limit
use Rattle.carriers.specs.declared.Carrier.{Carrier}
use Rattle.carriers.specs.Carriers.{address_width, as_text}
use Rattle.addresses.specs.Addresses.{list_of}
use Rattle.svcparams.specs.Params.{params_fault}
use Rattle.blocks.specs.Block.{Fields}
use Rattle.judge.specs.declared.Side.{Side}
use Rattle.judge.specs.Judge.{name_of, refused_of}
use Rattle.numbers.specs.Fault as fault

-- what the judge gives: 0, or 21 to 28
abbrev pub FaultNumber : ℕ → Type 0
FaultNumber k = (k ≡ 0) ⊎ ((fault.priority ≤ k) × (k ≤ fault.value))

-- of a record in full form, with addresses of w octets
pub record PassedTail (side : Side) (w : ℕ) (addresses parameters : List ℕ) : Type 0 where
  pub some : 0 < length addresses  -- 23
  pub whole : length addresses % w ≡ 0  -- 23
  pub few : length addresses / w ≤ limit.addresses  -- 24
  pub short : length parameters ≤ limit.parameters  -- 24
  pub usable : refused_of side w (list_of w addresses) ≡ false  -- 25
  pub sound : params_fault parameters ≡ 0  -- 26 to 28

pub record Passed (side : Side) (c : Carrier) (f : Fields) : Type 0 where
  pub service : f.priority ≡ 0 → ⊥  -- 21
  pub named : name_of side c f.name ≡ Ok tt  -- 22
  pub tail : f.full ≡ true → PassedTail side (address_width c) f.addresses f.parameters  -- 23 to 28
  pub name_only : f.full ≡ false → as_text c ≡ false  -- 23
