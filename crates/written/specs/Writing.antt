-- Writing (RULES T5: 2, 40, 41, 42, 4, 43, then 21 to 28 record by record, then 44, then 5; RULES E1: in the sheet's order): the one set of octets
-- defined for a sheet, and the answer of the call. Assumes nothing: these are definitions.
use Rattle.std.specs.Prelude.{cond, List, ℕ, ltb, length}
use Rattle.numbers.specs.Refusal as refusal
use Rattle.carriers.specs.declared.Carrier.{Carrier}
use Rattle.blocks.specs.Block.{Fields}
use Rattle.vetting.specs.Vetting.{Vetted, any_large, vet_of}
use Rattle.vetting.specs.Vetting as vetting
use Rattle.answers.specs.Answers.{Answer, refuse, written}
use Rattle.written.specs.Octets.{octets_of}

-- 5, or the octets, by the room for them
abbrev pub in_room : List ℕ → ℕ → Answer
in_room octets room = cond (ltb room (length octets)) (refuse refusal.room 0) (written octets)

-- 44, then 5
abbrev pub write_records : Carrier → List Fields → ℕ → Answer
write_records c rs room = cond (any_large c rs) (refuse refusal.large 0) (in_room (octets_of c rs) room)

-- 2, 40, 41, 42, 4, 43, 21 to 28
abbrev pub write_vetted : Vetted → ℕ → Answer
write_vetted (vetting.refuse k p) room = refuse k p
write_vetted (vetting.sheet c rs) room = write_records c rs room

-- writing a sheet to an output buffer of `room` octets
unfoldable pub write_of : List ℕ → ℕ → Answer
write_of s room = write_vetted (vet_of s) room
