-- The room decides whether a reading is done or refused by 5, and nothing else: a reading that is done in one room is done, with the same
-- sheet and numbers, in every room that its sheet fits. Assumes nothing.
use Rattle.std.specs.Prelude.{◌≡◌, Bool, true, false, cond, List, map, ℕ, ltb, length, Option, Some, None}
use Rattle.std.proofs.Common.{ap, arith}
use Rattle.numbers.specs.Refusal as refusal
use Rattle.numbers.specs.Limit as limit
use Rattle.carriers.specs.declared.Carrier.{Carrier}
use Rattle.carriers.specs.Carriers.{chosen_of}
use Rattle.frames.specs.Frame.{Framed, framed, frame}
use Rattle.frames.specs.Area.{blocks_of}
use Rattle.frames.specs.Frame as area
use Rattle.blocks.specs.Block.{Fields}
use Rattle.sheets.specs.Sheets.{sheet_of}
use Rattle.reading.specs.Reading.{yield_of, in_order, in_room, settle, read_yields, read_framed, read_area, read_chosen, read_of}
use Rattle.reading.specs.Result.{Yield, arrivals, discarded_in, first_fault, Done, refuse, done}

module _ {d : Done} where
  refused : {k : ℕ} → refuse k ≡ done d → ⊥
  refused e = let z : ◌≡◌ {A = ℕ} 0 1 = cc in omega arith

  settled : (a b : ℕ) (rs : List Fields) (x : Done) → settle a rs x ≡ done d → settle b rs x ≡ in_room d b
  settled a b rs x = go (ltb limit.records (length rs)) (ltb a (length x.sheet))
    where
      go : (many short : Bool)
          → cond many (refuse refusal.records) (cond short (refuse refusal.room) (done x)) ≡ done d
          → cond many (refuse refusal.records) (in_room x b) ≡ in_room d b
      go true short e = absurd (refused e)
      go false true e = absurd (refused e)
      go false false e = let i : x ≡ d = cc in ap (λ (y : Done). in_room y b) i

  yields-so : (c : Carrier) (ys : List Yield) (a b : ℕ) → read_yields c ys a ≡ done d → read_yields c ys b ≡ in_room d b
  yields-so c ys a b e =
      settled a b (arrivals ys) (record {
        sheet = sheet_of c (in_order (arrivals ys));
        found = length ys;
        discarded = discarded_in ys;
        fault = (first_fault ys).fault;
        place = (first_fault ys).place;
      }) e

  framed-so : (c : Carrier) (f : Framed) (a b : ℕ) → read_framed c f a ≡ done d → read_framed c f b ≡ in_room d b
  framed-so c area.fault a b e = absurd (refused e)
  framed-so c (framed bodies) a b e = yields-so c (map (yield_of c) (blocks_of c bodies)) a b e

  area-so : (c : Carrier) (s : List ℕ) (a b : ℕ) → read_area c s a ≡ done d → read_area c s b ≡ in_room d b
  area-so c s a b = go (ltb limit.input (length s))
    where
      go : (long : Bool) → cond long (refuse refusal.input) (read_framed c (frame c s) a) ≡ done d
          → cond long (refuse refusal.input) (read_framed c (frame c s) b) ≡ in_room d b
      go true e = absurd (refused e)
      go false e = framed-so c (frame c s) a b e

  chosen-so : (k : Option Carrier) (s : List ℕ) (a b : ℕ) → read_chosen k s a ≡ done d → read_chosen k s b ≡ in_room d b
  chosen-so None s a b e = absurd (refused e)
  chosen-so (Some c) s a b e = area-so c s a b e

  -- done in room a, it is in room b done with the same, or refused by 5
  pub room-decides : (n : ℕ) (s : List ℕ) (a b : ℕ) → read_of n s a ≡ done d → read_of n s b ≡ in_room d b
  unfolding read_of
  room-decides n s a b e = chosen-so (chosen_of n) s a b e
