-- Each way out of the call agrees with `write_of`. Assumes nothing.
use Rattle.std.specs.Prelude.{◌≡◌, Bool, true, false, List, ℕ, ◌*◌, ◌≤◌, ◌<◌, length}
use Rattle.std.proofs.Common.{sym, ◌∙◌, arith, lt-ltb, le-ltb}
use Rattle.std.proofs.Math.Path.{ap}
use Rattle.octets.specs.Numbers.{Bytes}
use Rattle.numbers.specs.Refusal as refusal
use Rattle.numbers.specs.Limit as limit
use Rattle.carriers.specs.declared.Carrier.{Carrier}
use Rattle.vetting.specs.Vetting.{Vetted, vet_of, any_large, Refused, Sheet}
use Rattle.vetting.specs.Vetting as vetting
use Rattle.vetting.specs.Weighing.{most}
use Rattle.vetting.proofs.VettingLaws.{told-refused, told-sheet, vetted-small}
use Rattle.written.specs.Writing.{write_records, write_vetted, write_of}
use Rattle.answers.specs.Answers.{refuse, written}
use Rattle.written.specs.Octets.{octets_of}
use Rattle.written.proofs.AcceptedLaws.{vetted-accepted}
use Rattle.writing.specs.Laying.{records_in, records_of, Found, Ready, total_of}
use Rattle.writing.specs.LayingLaws.{total-octets}

-- ---- 2, 40, 41, 42, 4, 43, 21 to 28

module _ (s : List ℕ) (room : ℕ) where
  pub write-refused : {k p : ℕ} → Refused k p ≡ vetting.told (vet_of s) → write_of s room ≡ refuse k p
  unfolding write_of
  write-refused e = rw (told-refused s e)

  pub write-vetted : {c : Carrier} {n : ℕ} {big : Bool} {size : ℕ} → Sheet c n big size ≡ vetting.told (vet_of s)
      → Found c s big size × (write_of s room ≡ write_records c (records_of s) room)
  unfolding write_of
  write-vetted {c} {n} {big} {size} e =
      let k = told-sheet s e in
      let i : records_of s ≡ k.records = ap records_in k.vetted in
      let v : vet_of s ≡ vetting.sheet c (records_of s) = k.vetted ∙ ap (vetting.sheet c) (sym i) in
      (record { vetted = v; larges = rw i k.larges; sizes = rw i k.sizes }, ap (λ (x : Vetted). write_vetted x room) v)

-- ---- 44, 5

module _ {c : Carrier} {s : List ℕ} {big : Bool} {size : ℕ} (f : Found c s big size) where
  pub found-small : Bytes s → size ≤ most * limit.records
  found-small octets = omega (arith, f.sizes, vetted-small s octets f.vetted)

  pub found-ready : Bytes s → big ≡ false → Ready c s
  found-ready octets l = vetted-accepted s c (records_of s) octets f.vetted (sym f.larges ∙ l)

  module _ (room : ℕ) where
    pub records-large : big ≡ true → write_records c (records_of s) room ≡ refuse refusal.large 0
    records-large l = let e : any_large c (records_of s) ≡ true = sym f.larges ∙ l in rw e

    module _ (l : big ≡ false) {total : ℕ} (t : total ≡ total_of c size) where
      small : any_large c (records_of s) ≡ false
      small = sym f.larges ∙ l

      records-total : total ≡ length (octets_of c (records_of s))
      records-total = t ∙ ap (total_of c) f.sizes ∙ total-octets c (records_of s)

      pub records-room : room < total → write_records c (records_of s) room ≡ refuse refusal.room 0
      records-room h =
          let k : room < length (octets_of c (records_of s)) = rw records-total at h in
          rw (small, lt-ltb room (length (octets_of c (records_of s))) k)

      pub records-written : total ≤ room → write_records c (records_of s) room ≡ written (octets_of c (records_of s))
      records-written h =
          let k : length (octets_of c (records_of s)) ≤ room = rw records-total at h in
          rw (small, le-ltb room (length (octets_of c (records_of s))) k)
