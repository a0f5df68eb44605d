-- The answers of framing (RULES R3): a refusal, whose number is 3, where a header or a body runs past the end or a carrier 3 length is 0, and else
-- its values; and what they say of an area. Assumes nothing: these are definitions.
use Rattle.std.specs.Prelude.{◌≡◌, ◌⊎◌, Bool, true, false, List, [], ◌∷◌, ℕ, ◌<◌, length, get_or, drop, Result, Ok, Err}
use Rattle.numbers.specs.Refusal as refusal
use Rattle.numbers.specs.declared.Refusal.{Refusal}
use Rattle.carriers.specs.declared.Carrier.{Carrier}
use Rattle.carriers.specs.Carriers.{header_of, is_joined}
use Rattle.frames.specs.declared.Head.{Head}
use Rattle.frames.specs.declared.Step.{Step}
use Rattle.frames.specs.Frame.{size_in, Framed, framed_number, bodies_in, frame}
use Rattle.frames.specs.Step.{part}
use Rattle.frames.specs.Walk.{prepend}

-- ---- an area

-- it is framed with this number, and to these bodies
abbrev pub FramedTo : ℕ → List (List ℕ) → Framed → Type 0
FramedTo k bs f = (framed_number f ≡ k) × (bodies_in f ≡ bs)

-- ---- a header: of an option, whether it is the carrier's own, and how many octets it has

abbrev pub own_of : Result Head Refusal → Bool
own_of (Err _) = false
own_of (Ok Head.End) = false
own_of (Ok (Head.Option own size)) = own

abbrev pub size_of : Result Head Refusal → ℕ
size_of (Err _) = 0
size_of (Ok Head.End) = 0
size_of (Ok (Head.Option own size)) = size.0

-- the header that stands first runs past the end, or says a size of 0
abbrev pub NoHeader : Carrier → List ℕ → Type 0
NoHeader c s = (length s < header_of c) ⊎ (size_in c s ≡ 0)

-- and neither padding nor the end stands there, which carrier 1 has without a header
abbrev pub NothingFirst : Carrier → List ℕ → Type 0
NothingFirst c s = (is_joined c ≡ true → (get_or s 0 0 ≡ 0 → ⊥) × (get_or s 0 0 ≡ 255 → ⊥)) × NoHeader c s

-- ---- a step: the body from `start` up to `end` that it meets, if it meets one, and the octets from `end` on, none after the area's end

abbrev pub body_at : List ℕ → Result Step Refusal → List (List ℕ)
body_at area (Ok (Step.Block start end)) = part start end area ∷ []
body_at area (Ok (Step.Skipped end)) = []
body_at area (Ok Step.End) = []
body_at area (Err _) = []

abbrev pub rest_at : List ℕ → Result Step Refusal → List ℕ
rest_at area (Ok (Step.Block start end)) = drop end area
rest_at area (Ok (Step.Skipped end)) = drop end area
rest_at area (Ok Step.End) = []
rest_at area (Err _) = []

-- what a step says of the area from an index on: 3, that it cannot be framed; 0, that it is framed to the body that is met, if one is, and
-- the bodies of the rest
pub record StepSays (c : Carrier) (area : List ℕ) (at : ℕ) (r : Result Step Refusal) : Type 0 where
  pub broken : refusal.number_in r ≡ refusal.framing → framed_number (frame c (drop at area)) ≡ refusal.framing
  pub whole : refusal.number_in r ≡ 0 → frame c (drop at area) ≡ prepend (body_at area r) (frame c (rest_at area r))

-- ---- joining the options 162 of an area: how many octets were joined

abbrev pub joined_length : Result ℕ Refusal → ℕ
joined_length (Ok n) = n
joined_length (Err _) = 0
