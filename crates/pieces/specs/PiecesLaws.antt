-- The laws of joined octets cut into options 162: how many octets the options have, and that they are framed to the pieces.
-- Assumes nothing.
use Rattle.std.specs.Prelude.{◌≡◌, refl, List, [], ◌∷◌, ◌++◌, ℕ, zero, suc, ◌+◌, ◌-◌, ◌*◌, ◌/◌, ◌≤◌, ◌<◌, length, take, drop}
use Rattle.std.proofs.Common.{ap, ◌∙◌, arith, length-append, length-take, length-drop, take-append-drop}
use Rattle.octets.specs.Lists.{All, flat}
use Rattle.carriers.specs.declared.Carrier.TheVariants.{Dhcp4}
use Rattle.frames.specs.Frame.{frame, framed}
use Rattle.frames.specs.Emit.{option_of, Fits, options_of}
use Rattle.frames.proofs.EmitLaws.{option-length, frame-options}
use Rattle.pieces.specs.Pieces.{chunks, pieces, cut_of, cut_octets}

-- nothing for no octets
pub cut-none : cut_of [] ≡ []
unfolding cut_of pieces
cut-none = refl

chunks_fit : (n : ℕ) (l : List ℕ) → All (Fits Dhcp4) (chunks n l)
chunks_fit zero l = tt
chunks_fit (suc n) l = (omega (arith, length-take 255 l), chunks_fit n (drop 255 l))

pub pieces-fit : (l : List ℕ) → All (Fits Dhcp4) (pieces l)
unfolding pieces
pieces-fit l = chunks_fit ((length l + 254) / 255) l

chunks-flat : (n : ℕ) (l : List ℕ) → length l ≤ 255 * n → flat (chunks n l) ≡ l
chunks-flat zero [] h = refl
chunks-flat zero (x ∷ l) h = absurd (omega arith)
chunks-flat (suc n) l h =
    let e = length-drop 255 l in
    ap (λ (r : List ℕ). take 255 l ++ r) (chunks-flat n (drop 255 l) (omega arith)) ∙ take-append-drop 255 l

-- the pieces are the joined octets
pub pieces-flat : (l : List ℕ) → flat (pieces l) ≡ l
unfolding pieces
pieces-flat l = chunks-flat ((length l + 254) / 255) l (omega arith)

-- and what the options are framed to
pub frame-cut : (l : List ℕ) → frame Dhcp4 (cut_of l) ≡ framed (pieces l)
unfolding cut_of
frame-cut l = frame-options Dhcp4 (pieces l) (pieces-fit l)

-- ---- octets

chunks-length : (n : ℕ) (l : List ℕ) → length l ≤ 255 * n → length (options_of Dhcp4 (chunks n l)) ≡ length l + 2 * n
chunks-length zero [] h = refl
chunks-length zero (x ∷ l) h = absurd (omega arith)
chunks-length (suc n) l h =
    let t = length-take 255 l in
    let d = length-drop 255 l in
    let i = chunks-length n (drop 255 l) (omega arith) in
    length-append (option_of Dhcp4 (take 255 l)) (options_of Dhcp4 (chunks n (drop 255 l))) ∙ omega (arith, option-length Dhcp4 (take 255 l))

pub cut-length : (l : List ℕ) → length (cut_of l) ≡ cut_octets (length l)
unfolding cut_of pieces
cut-length l = chunks-length ((length l + 254) / 255) l (omega arith)

-- how octets that are there are cut
pub cut_step : (l : List ℕ) → 0 < length l → cut_of l ≡ option_of Dhcp4 (take 255 l) ++ cut_of (drop 255 l)
unfolding cut_of pieces
cut_step l h =
    let d : length (drop 255 l) ≡ length l - 255 = length-drop 255 l in
    let e : (length l + 254) / 255 ≡ suc ((length (drop 255 l) + 254) / 255) = omega arith in
    ap (λ (n : ℕ). options_of Dhcp4 (chunks n l)) e
