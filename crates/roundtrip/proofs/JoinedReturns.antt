-- Carrier 1: accepted records come back from their joined instances, cut into options. Assumes nothing.
use Rattle.std.specs.Prelude.{◌≡◌, refl, List, [], ◌∷◌, map, ℕ, ◌+◌, ◌≤◌, ◌<◌, length}
use Rattle.std.proofs.Common.{ap, ap₂, ◌∙◌, append-nil, arith}
use Rattle.octets.specs.Lists.{All, flat}
use Rattle.numbers.specs.Limit as limit
use Rattle.carriers.specs.declared.Carrier.TheVariants.{Dhcp4}
use Rattle.frames.specs.Frame.{Framed, frame}
use Rattle.frames.specs.Area.{joined}
use Rattle.blocks.specs.Block.{Fields}
use Rattle.records.specs.Records.{Outcome, further}
use Rattle.reading.specs.Reading.{ahead, instances_from, yield_of, read_framed, read_blocks}
use Rattle.reading.specs.Result.{yields}
use Rattle.reading.specs.InstanceLaws.{instance-ahead, counted-ahead, joined-some}
use Rattle.taking.specs.Sheet.{NoneFalls}
use Rattle.pieces.specs.Pieces.{pieces}
use Rattle.pieces.specs.PiecesLaws.{pieces-flat, frame-cut}
use Rattle.layouts.specs.Layouts.{joined_of}
use Rattle.layouts.specs.LayoutsLaws.{writable-body}
use Rattle.written.specs.Octets.{octets_of}
use Rattle.written.specs.Accepted.{Sound}
use Rattle.written.proofs.AcceptedLaws.{writable}
use Rattle.roundtrip.specs.Returns.{body_of, Brings, answer_kept}
use Rattle.roundtrip.proofs.RecordReturns.{record-returns, brings-answer}
use Rattle.roundtrip.specs.RoundTrip.{blocks_in}

-- ---- instances

-- accepted records come back from their instances, one after another
pub instances-return : (at : ℕ) (rs : List Fields) → All (Sound Dhcp4) rs → instances_from 0 at (joined_of rs) ≡ yields rs
unfolding instances_from
instances-return at [] s = refl
instances-return at (r ∷ rs) s =
    let x : List ℕ = body_of Dhcp4 r in
    let small : length x < 65536 = omega (arith, writable-body Dhcp4 r (writable Dhcp4 r s.0)) in
    ap (instances_from 0 at) (counted-ahead x (joined_of rs))
    ∙ instance-ahead at x (joined_of rs) small
    ∙ ap₂ (λ (o : Outcome). ahead (further (at + 2) o)) (record-returns Dhcp4 r s.0) (instances-return (at + 2 + length x) rs s.1)

-- ---- the one block

joined-flat : (bs : List (List ℕ)) → 0 < length (flat bs) → joined bs ≡ flat bs ∷ []
joined-flat [] h = absurd (omega arith)
joined-flat (b ∷ bs) h = refl

-- the block of the options that joined octets are cut into: these octets, if there are some
pub joined-pieces : (l : List ℕ) → 0 < length l → joined (pieces l) ≡ l ∷ []
joined-pieces l h =
    let same : flat (pieces l) ≡ l = pieces-flat l in
    joined-flat (pieces l) (rw same h) ∙ ap (λ (b : List ℕ). b ∷ []) same

-- and none of no octets
pub joined-none : joined (pieces []) ≡ []
unfolding pieces
joined-none = refl

-- one block brings the records, where there are some
joined-brings : (rs : List Fields) → All (Sound Dhcp4) rs → 0 < length (joined_of rs) → Brings (map (yield_of Dhcp4) (joined_of rs ∷ [])) rs
joined-brings rs sound some =
    let all : yield_of Dhcp4 (joined_of rs) ≡ yields rs = joined-some (joined_of rs) (λ z. omega arith) ∙ instances-return 0 rs sound in
    rw all (record { arrive = append-nil rs; none_discarded = refl; faultless = refl })

joined-answer : (rs : List Fields) (room : ℕ) → All (Sound Dhcp4) rs → NoneFalls 0 rs → length rs ≤ limit.records
    → read_blocks Dhcp4 (joined (pieces (joined_of rs))) room ≡ answer_kept Dhcp4 rs (blocks_in Dhcp4 rs) room
joined-answer [] room sound rising few =
    ap (λ (bs : List (List ℕ)). read_blocks Dhcp4 bs room) joined-none
    ∙ brings-answer Dhcp4 [] [] room (record { arrive = refl; none_discarded = refl; faultless = refl }) rising few
joined-answer (r ∷ rs) room sound rising few =
    let l : List ℕ = joined_of (r ∷ rs) in
    let some : 0 < length l = omega arith in
    ap (λ (bs : List (List ℕ)). read_blocks Dhcp4 bs room) (joined-pieces l some)
    ∙ brings-answer Dhcp4 (map (yield_of Dhcp4) (l ∷ [])) (r ∷ rs) room (joined-brings (r ∷ rs) sound some) rising few

-- accepted records come back from the options that their joined instances are cut into
pub cut-answer : (rs : List Fields) (room : ℕ) → All (Sound Dhcp4) rs → NoneFalls 0 rs → length rs ≤ limit.records
    → read_framed Dhcp4 (frame Dhcp4 (octets_of Dhcp4 rs)) room ≡ answer_kept Dhcp4 rs (blocks_in Dhcp4 rs) room
unfolding octets_of
cut-answer rs room sound rising few =
    ap (λ (f : Framed). read_framed Dhcp4 f room) (frame-cut (joined_of rs)) ∙ joined-answer rs room sound rising few
