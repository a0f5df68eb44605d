-- The statement of an entry as a test that is computed. Assumes nothing: these are definitions.
use Rattle.std.specs.Prelude.{Bool, true, false, cond, not, ◌&&◌, List, [], ◌∷◌, map, ℕ, eqb, length, take, drop}
use Rattle.octets.specs.Numbers.{number_at}
use Rattle.octets.specs.Lists.{flat, same}
use Rattle.octets.specs.Over.{over}
use Rattle.numbers.specs.Refusal as refusal
use Rattle.carriers.specs.Carriers.{chosen_of, number_of}
use Rattle.blocks.specs.Block.{Fields}
use Rattle.reading.specs.Reading.{read_of}
use Rattle.reading.specs.Result.{Done, done}
use Rattle.reading.specs.Result as reading
use Rattle.taking.specs.Taking.{Taken, take_of}
use Rattle.taking.specs.Taking as taking
use Rattle.written.specs.Writing.{write_of}
use Rattle.answers.specs.Answers.{written}
use Rattle.answers.specs.Answers as writing
use Rattle.boundary.specs.Piece.{Back, again, others, Claim, octets, sheet_octets, part_octets, number, ends, joined, options, replaced, short, enough, Piece, data_of, last_of, sheet_in}

-- whether each passes
abbrev pub every : {A : Type 0} → (A → Bool) → List A → Bool
every f [] = true
every f (x ∷ xs) = f x && every f xs

-- ---- whether two are the same

abbrev pub same_bit : Bool → Bool → Bool
same_bit a b = cond a b (not b)

abbrev pub same_record : Fields → Fields → Bool
same_record a b =
    eqb a.priority b.priority
    && (eqb a.lifetime b.lifetime
    && (same_bit a.full b.full
    && (same a.name b.name
    && (same a.addresses b.addresses
    && same a.parameters b.parameters))))

abbrev pub same_records : List Fields → List Fields → Bool
same_records [] [] = true
same_records [] (y ∷ ys) = false
same_records (x ∷ xs) [] = false
same_records (x ∷ xs) (y ∷ ys) = same_record x y && same_records xs ys

abbrev pub same_taken : Taken → Taken → Bool
same_taken (taking.refuse k) (taking.refuse j) = eqb k j
same_taken (taking.refuse k) (taking.sheet d qs) = false
same_taken (taking.sheet c rs) (taking.refuse j) = false
same_taken (taking.sheet c rs) (taking.sheet d qs) = eqb (number_of c) (number_of d) && same_records rs qs

abbrev pub is_done : Done → reading.Answer → Bool
is_done d (reading.refuse k) = false
is_done d (done e) =
    same e.sheet d.sheet
    && (eqb e.found d.found && (eqb e.discarded d.discarded && (eqb e.fault d.fault && eqb e.place d.place)))

abbrev pub is_refused : ℕ → reading.Answer → Bool
is_refused k (reading.refuse j) = eqb j k
is_refused k (done e) = false

abbrev pub is_written : List ℕ → writing.Answer → Bool
is_written bs (writing.refuse k p) = false
is_written bs (written cs) = same cs bs

-- ---- the test

module _ (p : Piece) where
  abbrev pub passes : Claim → Bool
  passes (octets n) = eqb (length p.area) n
  passes (sheet_octets n) = eqb (length p.gives.sheet) n
  passes (part_octets l n) = eqb (length l) n
  passes (number w i n) = eqb (number_at w i p.area) n
  passes (ends l) = same (last_of (length l) p.area) l
  passes (joined n) = eqb (length (flat (data_of p))) n
  passes (options ns) = same (map length (data_of p)) ns
  passes (replaced l i old new) = same (take (length old) (drop i l)) old && same p.area (over i new l)
  passes (short room) = is_refused refusal.room (read_of p.carrier p.area room)
  passes (enough room) = is_done p.gives (read_of p.carrier p.area room)

  -- with just the room for its sheet, and for its octets
  abbrev pub reads : Bool
  reads = is_done p.gives (read_of p.carrier p.area (length p.gives.sheet))

  abbrev pub writes : List ℕ → Bool
  writes bs = is_written bs (write_of p.gives.sheet (length bs))

  abbrev pub returns : Back → Bool
  returns again = writes p.area
  returns (others bs) = writes bs && not (same bs p.area)

  abbrev pub takes : Bool
  takes = same_taken (take_of p.gives.sheet) (sheet_in (chosen_of p.carrier) p.records)

  abbrev pub good : Bool
  good = reads && (returns p.back && (takes && every passes p.says))
