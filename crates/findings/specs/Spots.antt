-- Where the carrier's own options have their bodies in an area, and where in the area an octet of the joined data of carrier 1 stands (RULES W4). Assumes
-- nothing: these are definitions.
use Rattle.std.specs.Prelude.{Bool, true, false, cond, List, [], ◌∷◌, ℕ, zero, suc, ◌+◌, ◌-◌, ltb, leb, length, Result, Ok, Err}
use Rattle.numbers.specs.declared.Refusal.{Refusal}
use Rattle.carriers.specs.declared.Carrier.{Carrier}
use Rattle.carriers.specs.declared.Carrier.TheVariants.{Dhcp4}
use Rattle.carriers.specs.Carriers.{header_of}
use Rattle.frames.specs.declared.Head.{Head}
use Rattle.frames.specs.declared.Head.TheVariants.{End, Option}
use Rattle.frames.specs.Frame.{first_of}

-- a body: the index of its first octet, and the index after its last
pub record Spot : Type 0 where
  pub start : ℕ
  pub end : ℕ

-- an option of n octets at an index, in front of what follows
abbrev pub onto : Carrier → ℕ → ℕ → Bool → List Spot → List Spot
onto c at n true more = record { start = at + header_of c; end = at + n } ∷ more
onto c at n false more = more

-- `left` octets begin at an index with this header; an option that says more runs past the end, and what follows it is no option
abbrev pub after : Carrier → ℕ → ℕ → Result Head Refusal → (ℕ → List Spot) → List Spot
after c at left (Err _) go = []
after c at left (Ok End) go = []
after c at left (Ok (Option own size)) go = cond (leb size.0 left) (onto c at size.0 own (go (size.0 - 1))) []

-- the area from an index on, with its first k octets still to be skipped
unfoldable pub spots_from : Carrier → ℕ → ℕ → List ℕ → List Spot
spots_from c k at [] = []
spots_from c zero at (x ∷ xs) = after c at (length (x ∷ xs)) (first_of c (x ∷ xs)) (λ k. spots_from c k (at + 1) xs)
spots_from c (suc k) at (x ∷ xs) = spots_from c k (at + 1) xs

abbrev pub spots_of : Carrier → List ℕ → List Spot
spots_of c area = spots_from c 0 0 area

-- the index of octet j of the joined bodies; past them, so many octets after `last`, the end of the last
unfoldable pub place_in : List Spot → ℕ → ℕ → ℕ
place_in [] last j = last + j
place_in (s ∷ ss) last j = cond (ltb j (s.end - s.start)) (s.start + j) (place_in ss s.end (j - (s.end - s.start)))

unfoldable pub place_of : List ℕ → ℕ → ℕ
place_of area j = place_in (spots_of Dhcp4 area) 0 j
