-- RULES D3, its second half, over what writing answers and over what the two calls return and leave: in carriers 2 to 5, the octets that were
-- written cut after any number of them, and the part before the cut read under the sheet's carrier number. `IsSheet` names the carrier and the
-- records of the sheet. Assumes nothing.
use Rattle.std.specs.Prelude.{◌≡◌, refl, Bool, true, false, List, ℕ, ◌≤◌, ltb, length, get_or, take}
use Rattle.std.proofs.Common.{sym, ap₂, subst, ltb-true, ltb-false, take-take}
use Rattle.std.proofs.Math.Path.{subst⁻¹}
use Rattle.octets.specs.Numbers.{Bytes}
use Rattle.carriers.specs.declared.Carrier.{Carrier}
use Rattle.carriers.specs.Carriers.{Plain}
use Rattle.blocks.specs.Block.{Fields}
use Rattle.sheets.specs.Sheets.{carrier_at, sheet_of}
use Rattle.taking.specs.Sheet.{IsSheet}
use Rattle.reading.specs.declared.Reading.{Reading}
use Rattle.reading.specs.Reading.{read_of}
use Rattle.reading.specs.Result.{Answer, Reads}
use Rattle.written.specs.Writing.{write_of}
use Rattle.written.specs.Defined.{Defined}
use Rattle.written.proofs.DefinedLaws.{written-defined, defined-sheet}
use Rattle.answers.specs.declared.Result.{Result}
use Rattle.answers.specs.Answers.{written, Writes}
use Rattle.roundtrip.proofs.RoundTripLaws.{call-wrote, call_fits, sheet-number}
use Rattle.cuts.specs.Cuts.{CutCall, first_records, no_room, unframed}
use Rattle.cuts.specs.Readings.{read_cut, Cut, after_options, elsewhere}
use Rattle.cuts.proofs.CutsLaws.{read-cut}

-- the octets defined for a sheet, which writing gives where they have room
pub cut-defined : (c : Carrier) → Plain c → (s octets : List ℕ) (rs : List Fields) → Bytes s → IsSheet s c rs → Defined s octets
    → (n : ℕ) → n ≤ length octets → (room : ℕ) → Cut c rs octets n room
cut-defined c p s octets rs bytes i d n h room =
    let (a, e) = defined-sheet s bytes i d in
    subst⁻¹ (λ (l : List ℕ). Cut c rs l n room) e (read-cut c p s rs a n (rw e at h) room)

-- the octets with which writing answered, in some room
pub cut-answers : (c : Carrier) → Plain c → (s octets : List ℕ) (rs : List Fields) (m : ℕ) → Bytes s → IsSheet s c rs → write_of s m ≡ written octets
    → (n : ℕ) → n ≤ length octets → (room : ℕ) → Cut c rs octets n room
cut-answers c p s octets rs m bytes i e = cut-defined c p s octets rs bytes i (written-defined s bytes m e)

-- what a call gives that reads the part before a cut
cut-call : {c : Carrier} {rs : List Fields} {octets : List ℕ} {n : ℕ} {sheet sheet₁ : List ℕ} {r : Reading} → Cut c rs octets n (length sheet)
    → Reads (read_cut c octets n (length sheet)) sheet r sheet₁ → CutCall c rs n sheet r sheet₁
cut-call {c} {rs} {octets} {n} {sheet} {sheet₁} {r} (after_options k e f) g = go (ltb (length sheet) (length (sheet_of c (take k rs)))) refl
  where
    go : (b : Bool) → ltb (length sheet) (length (sheet_of c (take k rs))) ≡ b → CutCall c rs n sheet r sheet₁
    go true t = let h = ltb-true _ _ t in no_room k e h (subst (λ (a : Answer). Reads a sheet r sheet₁) (f.little h) g)
    go false t = let h = ltb-false _ _ t in first_records k e h (subst (λ (a : Answer). Reads a sheet r sheet₁) (f.enough h) g)
cut-call {sheet = sheet} {sheet₁} {r} (elsewhere none e) g = unframed none (subst (λ (a : Answer). Reads a sheet r sheet₁) e g)

-- a call of `write` that returned 0, and a call of `read` with the first n octets that it left
pub calls-cut : (c : Carrier) → Plain c → (s : List ℕ) (rs : List Fields) (out out₁ sheet sheet₁ : List ℕ) (w : Result) (r : Reading)
    → Bytes s → IsSheet s c rs
    → Writes (write_of s (length out)) out w out₁ → w.number ≡ 0
    → (n : ℕ) → n ≤ w.length
    → Reads (read_of (get_or s carrier_at 0) (take n out₁) (length sheet)) sheet r sheet₁
    → CutCall c rs n sheet r sheet₁
calls-cut c p s rs out out₁ sheet sheet₁ w r bytes i v z n h g =
    let octets : List ℕ = take w.length out₁ in
    let wrote : write_of s (length out) ≡ written octets = call-wrote s out out₁ w bytes v z in
    let cut : Cut c rs octets n (length sheet) =
    cut-answers c p s octets rs (length out) bytes i wrote n (rw (call_fits s out out₁ w bytes v z) h) (length sheet) in
    let same : read_of (get_or s carrier_at 0) (take n out₁) (length sheet) ≡ read_cut c octets n (length sheet) =
    ap₂ (λ (k : ℕ) (l : List ℕ). read_of k l (length sheet)) (sheet-number s c rs i.is) (sym (take-take n w.length out₁ h)) in
    cut-call cut (subst (λ (a : Answer). Reads a sheet r sheet₁) same g)
