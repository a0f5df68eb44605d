-- What `put_fields` asks of its parts, and that they make the record. Assumes nothing.
use Rattle.std.specs.Prelude.{◌≡◌, true, false, cond, List, ◌++◌}
use Rattle.std.proofs.Common.{ap, ◌∙◌, append_assoc, append-nil, arith, mul-div_cancel}
use Prim.Native.Nat.{ℕ, ◌+◌, ◌/◌, ◌≤◌, ◌<◌}
use Rattle.std.proofs.Math.ListN.{length}
use Rattle.octets.specs.Over.{Wrote}
use Rattle.octets.specs.OverLaws.{over-length, then}
use Rattle.numbers.specs.Limit as limit
use Rattle.carriers.specs.declared.Carrier.{Carrier}
use Rattle.carriers.specs.Carriers.{address_width, as_text}
use Rattle.addresses.specs.Addresses.{Width, list_of, kept_of}
use Rattle.addresses.specs.AddressesLaws.{wide-some}
use Rattle.blocks.specs.declared.Head.{Head}
use Rattle.blocks.specs.Block.{Fields, fields_of}
use Rattle.records.specs.declared.Given.{Given}
use Rattle.records.specs.Records.{staying, name_as, keep_as, keep_of, head_size, tail_size, record_of}
use Rattle.records.specs.Given.{record_as, Puttable}
use Rattle.records.specs.Parts.{head_part, tail_part}
use Rattle.records.specs.RecordsLaws.{length-by, staying-length}

-- given as a carrier has them, it is the record that reading keeps
pub given-record : (c : Carrier) (g : Given) (f : Fields) → g.text ≡ as_text c → g.width ≡ address_width c → record_as g f ≡ record_of c (keep_of c f)
unfolding record_as record_of
given-record c g f et ew = rw (et, ew)

module _ (g : Given) (h : Head) (n a q : List ℕ) where
  given-length : length (record_as g (fields_of h n a q))
      ≡ head_size + length (name_as g.text n) + cond h.full (tail_size + length (staying g.width a) + length q) 0
  unfolding record_as
  given-length = length-by g.width (keep_as g.text g.width (fields_of h n a q))

  -- the parts make the record
  laid-bare : h.full ≡ false → record_as g (fields_of h n a q) ≡ head_part h (name_as g.text n)
  unfolding record_as
  laid-bare e = rw e (simp append-nil)

  laid-full : Width g.width → h.full ≡ true → record_as g (fields_of h n a q) ≡ head_part h (name_as g.text n) ++ tail_part g.width a q
  unfolding record_as
  laid-full wide e =
      let w : ℕ = g.width in
      let k : ℕ = length (kept_of w (list_of w a)) in
      let count : length (staying w a) / w ≡ k = rw (staying-length w a) (mul-div_cancel k (wide-some wide)) in
      rw e (simp (count, append_assoc))

  module _ (fit : Puttable g (fields_of h n a q)) (at : ℕ) (l : List ℕ) (room : at + length (record_as g (fields_of h n a q)) ≤ length l) where
    -- what `put_head` asks
    pub asks-head : ((h.priority < 65536) × (h.lifetime < 4294967296))
        × ((length (name_as g.text n) ≤ 255) × (at + head_size + length (name_as g.text n) ≤ length l))
    asks-head = ((fit.priority, fit.lifetime), (fit.name, omega (arith, given-length)))

    module _ {r : ℕ} {l' : List ℕ} (head : Wrote at (head_part h (name_as g.text n)) l r l') where
      pub writes-bare : h.full ≡ false → Wrote at (record_as g (fields_of h n a q)) l r l'
      writes-bare e = rw (laid-bare e) head

      module _ (full : h.full ≡ true) where
        full-length : length (record_as g (fields_of h n a q)) ≡ head_size + length (name_as g.text n) + (tail_size + length (staying g.width a) + length q)
        full-length = given-length ∙ rw full

        -- what `put_tail` asks
        pub asks-tail : Width g.width
            × ((g.clean ≡ true → staying g.width a ≡ a)
            × (((length (kept_of g.width (list_of g.width a)) ≤ limit.addresses) × (length q ≤ limit.parameters))
            × (r + tail_size + length (staying g.width a) + length q ≤ length l')))
        asks-tail =
            let t = fit.tail full in
            let same : length l' ≡ length l = ap length head.laid ∙ over-length at _ l head.room in
            (fit.width, (t.clean, ((t.few, t.short), omega (arith, head.next, full-length))))

        pub writes-full : {r' : ℕ} {l'' : List ℕ} → Wrote r (tail_part g.width a q) l' r' l'' → Wrote at (record_as g (fields_of h n a q)) l r' l''
        writes-full tail = rw (laid-full fit.width full) (then head tail)
