-- What stands at an index of an area, as the walk finds it one option at a time. Assumes nothing: these are definitions.
use Rattle.std.specs.Prelude.{ℕ, ◌+◌, ◌-◌, Bool, true, false, cond, List, length, take, drop, ltb, leb, eqb, Result, Ok, Err}
use Rattle.numbers.specs.declared.Refusal.{Refusal}
use Rattle.numbers.specs.declared.Refusal.TheVariants.{Framing}
use Rattle.carriers.specs.declared.Carrier.{Carrier}
use Rattle.carriers.specs.Carriers.{header_of}
use Rattle.frames.specs.declared.Head.{Head}
use Rattle.frames.specs.declared.Step.{Step}
use Rattle.frames.specs.Frame.{first_of}

-- the octets from one index up to another
abbrev pub part : ℕ → ℕ → List ℕ → List ℕ
part start end area = take (end - start) (drop start area)

-- an option of n octets at an index: the carrier's own is a block
abbrev pub option_at : Carrier → ℕ → Bool → ℕ → Step
option_at c at true n = Step.Block (at + header_of c) (at + n)
option_at c at false n = Step.Skipped (at + n)

-- with `left` octets from the index on, an option that says more runs past the end
abbrev pub head_at : Carrier → ℕ → ℕ → Result Head Refusal → Result Step Refusal
head_at c left at (Err r) = Err r
head_at c left at (Ok Head.End) = Ok Step.End
head_at c left at (Ok (Head.Option own size)) = cond (leb size.0 left) (Ok (option_at c at own size.0)) (Err Framing)

-- at the area's end: End; past it: nothing that can be framed; else what the header there says
unfoldable pub step_at : Carrier → List ℕ → ℕ → Result Step Refusal
step_at c area at =
    cond (eqb at (length area)) (Ok Step.End)
    (cond (ltb (length area) at) (Err Framing)
    (head_at c (length area - at) at (first_of c (drop at area))))
