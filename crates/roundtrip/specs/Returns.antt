-- Words for records that are written and read: a record's body, and blocks that are all kept. Assumes nothing: these are definitions.
use Rattle.std.specs.Prelude.{◌≡◌, List, map, ℕ}
use Rattle.carriers.specs.declared.Carrier.{Carrier}
use Rattle.blocks.specs.Block.{Fields, layout}
use Rattle.judge.specs.Place.{judged}
use Rattle.layouts.specs.Layouts.{carried_of}
use Rattle.sheets.specs.Sheets.{sheet_of}
use Rattle.reading.specs.Reading.{in_room}
use Rattle.reading.specs.Result.{Yield, arrivals, discarded_in, first_fault, faultless, Answer}

-- the body of a record's option or attribute, in carrier 1 of its instance
abbrev pub body_of : Carrier → Fields → List ℕ
body_of c r = layout c (carried_of c r)

abbrev pub bodies_of : Carrier → List Fields → List (List ℕ)
bodies_of c rs = map (body_of c) rs

-- blocks that yield ys bring the records rs, and none of them is discarded
pub record Brings (ys : List Yield) (rs : List Fields) : Type 0 where
  pub arrive : arrivals ys ≡ rs
  pub none_discarded : discarded_in ys ≡ 0
  pub faultless : first_fault ys ≡ judged 0 0

-- the answer of a reading that found so many blocks, with the records rs, and discarded none, by the room
abbrev pub answer_kept : Carrier → List Fields → ℕ → ℕ → Answer
answer_kept c rs found room = in_room (faultless (sheet_of c rs) found) room
