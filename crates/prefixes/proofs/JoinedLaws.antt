-- The joined octets of which RULES D3 speaks: those that `JoinedOctets` finds in the octets of records are the records one after another, and
-- there are no others (RULES D6: "the records' instances one after another, none for no records"). Assumes nothing.
use Rattle.std.specs.Prelude.{◌≡◌, refl, ◌↔◌, List, [], ◌∷◌, ℕ, length}
use Rattle.std.proofs.Common.{sym, ap, ◌∙◌, arith}
use Rattle.std.proofs.Math.Logic.Iff as iff
use Rattle.octets.specs.Numbers.{Bytes}
use Rattle.octets.specs.Lists.{All, flat}
use Rattle.carriers.specs.declared.Carrier.{Carrier}
use Rattle.carriers.specs.declared.Carrier.TheVariants.{Dhcp4}
use Rattle.carriers.specs.Carriers.{code_of}
use Rattle.carriers.proofs.CarriersLaws.{by-joined}
use Rattle.frames.specs.Emit.{option_of, Fits, options_of}
use Rattle.frames.specs.Area.{IsOption, Area, none, own}
use Rattle.frames.proofs.AreaLaws.{area-once}
use Rattle.blocks.specs.Block.{Fields}
use Rattle.taking.specs.Sheet.{IsSheet}
use Rattle.pieces.specs.Pieces.{pieces, cut_of}
use Rattle.pieces.specs.PiecesLaws.{pieces-fit, pieces-flat}
use Rattle.layouts.specs.Layouts.{stream_of}
use Rattle.written.specs.Octets.{octets_of}
use Rattle.written.specs.Defined.{Defined}
use Rattle.written.proofs.DefinedLaws.{defined-sheet}
use Rattle.prefixes.specs.Prefix.{JoinedOctets}

-- ---- carrier 1: options that are written are a run of options

option_is : (b : List ℕ) → Fits Dhcp4 b → IsOption Dhcp4 (option_of Dhcp4 b) (code_of Dhcp4) b
option_is b f = record {
  stands = code_of Dhcp4;
  size = length b;
  laid = refl;
  stands_room = omega arith;
  size_room = f;
  code_is = refl;
  says = refl;
  unmarked = λ _. (λ z. omega arith, λ z. omega arith);
}

options-area : (bs : List (List ℕ)) → All (Fits Dhcp4) bs → Area Dhcp4 (options_of Dhcp4 bs) bs
options-area [] f = none
options-area (b ∷ bs) f = own (option_is b f.0) (options-area bs f.1)

cut-area : (l : List ℕ) → Area Dhcp4 (cut_of l) (pieces l)
unfolding cut_of
cut-area l = options-area (pieces l) (pieces-fit l)

cut-joined : (l x : List ℕ) → JoinedOctets Dhcp4 (cut_of l) x ↔ (x ≡ l)
cut-joined l x = (
  λ j. j.2 ∙ ap flat (area-once Dhcp4 (cut_of l) j.0 (pieces l) j.1 (cut-area l)) ∙ pieces-flat l,
  λ e. (pieces l, cut-area l, e ∙ sym (pieces-flat l)),
)

-- ---- every carrier

-- the octets of records, joined again, are the records one after another, and only these
pub joined-exactly : (c : Carrier) (rs : List Fields) (x : List ℕ) → JoinedOctets c (octets_of c rs) x ↔ (x ≡ stream_of c rs)
unfolding octets_of
joined-exactly =
    by-joined (λ c. (rs : List Fields) (x : List ℕ) → (JoinedOctets c (octets_of c rs) x ↔ (x ≡ stream_of c rs)))
    (λ rs x. cut-joined (stream_of Dhcp4 rs) x)
    (λ c e rs x. rw e iff.rfl)

-- so there are joined octets of the octets defined for a sheet, and only one
pub joined-defined : (c : Carrier) (s octets x : List ℕ) (rs : List Fields) → Bytes s → IsSheet s c rs → Defined s octets
    → JoinedOctets c octets x ↔ (x ≡ stream_of c rs)
joined-defined c s octets x rs bytes i d = rw (defined-sheet s bytes i d).1 (joined-exactly c rs x)
