-- How an area is framed (RULES W1 to W8), once over the carrier. Assumes nothing: these are definitions.
use Rattle.std.specs.Prelude.{ℕ, zero, suc, ◌+◌, ◌-◌, ◌*◌, Bool, true, false, cond, List, [], ◌∷◌, length, get_or, take, drop, ltb, eqb, Result, Ok, Err}
use Rattle.octets.specs.Numbers.{number_at}
use Rattle.numbers.specs.Refusal as refusal
use Rattle.numbers.specs.declared.Refusal.{Refusal}
use Rattle.numbers.specs.declared.Refusal.TheVariants.{Framing}
use Rattle.carriers.specs.declared.Carrier.{Carrier}
use Rattle.carriers.specs.Carriers.{code_of, head_width, header_of, has_reserved, bare_code, in_eights, is_joined, octets}
use Rattle.frames.specs.declared.Head.{Head}
use Rattle.frames.specs.declared.Head.TheVariants.{End, Option}

-- ---- one header

-- octets of an option whose header of h octets says the length n: in units of eight the header is counted (RFC 4861 §4.6), else not
abbrev pub whole_size : Bool → ℕ → ℕ → ℕ
whole_size eights h n = cond eights (8 * n) (h + n)

-- the code in the header that stands first, and how many octets the option says that it has, its header counted
abbrev pub code_in : Carrier → List ℕ → ℕ
code_in c s = bare_code (has_reserved c) (number_at (head_width c) 0 s)

abbrev pub size_in : Carrier → List ℕ → ℕ
size_in c s = whole_size (in_eights c) (header_of c) (number_at (head_width c) (head_width c) s)

-- a header that runs past the end is no header, and neither is one that says a size of 0, which only carrier 3 can say (RFC 4861 §4.6)
abbrev pub head_in : Carrier → List ℕ → Result Head Refusal
head_in c s =
    cond (ltb (length s) (header_of c)) (Err Framing)
    (cond (eqb (size_in c s) 0) (Err Framing)
    (Ok (Option (eqb (code_in c s) (code_of c)) (octets (size_in c s)))))

-- in carrier 1, code 0 is one octet of padding, and code 255 ends the area (RFC 2132 §3.1, §3.2)
abbrev pub or_mark : Bool → ℕ → Result Head Refusal → Result Head Refusal
or_mark joined x z = cond joined (cond (eqb x 0) (Ok (Option false (octets 1))) (cond (eqb x 255) (Ok End) z)) z

abbrev pub first_of : Carrier → List ℕ → Result Head Refusal
first_of c s = or_mark (is_joined c) (get_or s 0 0) (head_in c s)

-- ---- an area

-- the bodies of the carrier's own options, in order; or that the area cannot be framed
pub data Framed : Type 0 where
  fault : Framed
  framed : List (List ℕ) → Framed

-- its number (RULES R3), and the bodies, none where it cannot be framed
abbrev pub framed_number : Framed → ℕ
framed_number fault = refusal.framing
framed_number (framed bs) = 0

abbrev pub bodies_in : Framed → List (List ℕ)
bodies_in fault = []
bodies_in (framed bs) = bs

-- an option's body in front of what follows, where the option is the carrier's own; others are skipped
abbrev pub onto : Bool → List ℕ → Framed → Framed
onto own b fault = fault
onto true b (framed bs) = framed (b ∷ bs)
onto false b (framed bs) = framed bs

-- `s` begins with the header; `go k` frames what follows the first octet of `s` and k more. What follows an end is ignored
abbrev pub after : Carrier → List ℕ → Result Head Refusal → (ℕ → Framed) → Framed
after c s (Err _) go = fault
after c s (Ok End) go = framed []
after c s (Ok (Option own size)) go = onto own (drop (header_of c) (take size.0 s)) (go (size.0 - 1))

-- the area with its first k octets still to be skipped; a body that runs past the end is a fault
unfoldable pub frame_from : Carrier → ℕ → List ℕ → Framed
frame_from c zero [] = framed []
frame_from c (suc k) [] = fault
frame_from c zero (x ∷ xs) = after c (x ∷ xs) (first_of c (x ∷ xs)) (λ k. frame_from c k xs)
frame_from c (suc k) (x ∷ xs) = frame_from c k xs

abbrev pub frame : Carrier → List ℕ → Framed
frame c s = frame_from c 0 s
