-- How many blocks are discarded, as reading counts them (RULES W10). Assumes nothing: these are definitions.
use Rattle.std.specs.Prelude.{◌≡◌, List, map, ℕ, ◌≤◌, length}
use Rattle.carriers.specs.declared.Carrier.{Carrier}
use Rattle.frames.specs.Frame.{Framed, fault, framed, framed_number, bodies_in}
use Rattle.frames.specs.Area.{blocks_of}
use Rattle.reading.specs.Result.{discards, discarded_in}
use Rattle.reading.specs.Reading.{joined_yield, alone, yield_of}

-- 1 for a body that is discarded, and for joined data
abbrev pub discards_body : Carrier → List ℕ → ℕ
discards_body c b = discards (alone c b)

abbrev pub discards_joined : List ℕ → ℕ
discards_joined b = discards (joined_yield b)

-- of an area that is framed to f, n blocks are discarded; of an area that cannot be framed nothing is said
abbrev pub Counted : Carrier → Framed → ℕ → Type 0
Counted c fault n = Unit {0}
Counted c (framed bodies) n = n ≡ discarded_in (map (yield_of c) (blocks_of c bodies))

-- an own option or more, if the area can be framed
abbrev pub Some : Framed → Type 0
Some f = framed_number f ≡ 0 → 1 ≤ length (bodies_in f)
