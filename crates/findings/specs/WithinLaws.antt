-- Where the padding of a body of carrier 3 begins and where it is none, and that every place that is told is within its body. Assumes nothing.
use Rattle.std.specs.Prelude.{◌≡◌, Bool, true, false, cond, ◌&&◌, ◌⊎◌, List, [], ◌∷◌, ltb, eqb, get_or, drop}
use Rattle.std.proofs.Math.Path.{refl, ap, subst⁻¹}
use Rattle.std.proofs.Common.{sym, ◌∙◌, subst, inl, inr, add-zero, arith, length-append, length-drop, drop-drop, drop_at, get_or-drop}
use Prim.Native.Nat.{ℕ, ◌+◌, ◌-◌, ◌^◌, ◌≤◌, ◌<◌}
use Rattle.std.proofs.Math.ListN.{length}
use Rattle.octets.specs.Cases.{by-test, by_equal}
use Rattle.octets.specs.Numbers.{Bytes, at16}
use Rattle.octets.specs.Fields.{put_counted}
use Rattle.numbers.specs.Fault as fault
use Rattle.carriers.specs.declared.Carrier.{Carrier}
use Rattle.carriers.specs.declared.Carrier.TheVariants.{Router}
use Rattle.blocks.specs.Block.{Fields}
use Rattle.blocks.specs.Parse.{Parsed, bad, fields, parse}
use Rattle.blocks.specs.Faults.{parse-fault}
use Rattle.blocks.specs.Holding.{Padding, put_tail, FormBy, HoldsPadded, Holds, Misfilled}
use Rattle.blocks.proofs.HoldingLaws.{misfilled-exactly}
use Rattle.judge.specs.declared.Side.TheVariants.{Reading}
use Rattle.judge.specs.Judge.{fault_of}
use Rattle.records.specs.Yielded.{on_parsed}
use Rattle.reasons.specs.Params.{param_for}
use Rattle.findings.specs.Troubles.{plain, near16, padding_at, past_padding, laid_place, fields_trouble, judged_trouble, trouble_of}
use Rattle.findings.specs.PlacesLaws.{near-there, padding-after-name, padding-after-fields}
use Rattle.findings.specs.SizesLaws.{parse-sized}
use Rattle.findings.specs.PlacedLaws.{param-within, judged-placed, field-within}

-- a number at a place is the one that stands first in what is left there
pub at16-drop : (i : ℕ) (l : List ℕ) → at16 l i ≡ at16 (drop i l) 0
at16-drop i l =
    let p : get_or (drop i l) 0 0 ≡ get_or l i 0 = get_or-drop i l 0 0 ∙ ap (λ (n : ℕ). get_or l n 0) (add-zero i) in
    let q : get_or (drop i l) 1 0 ≡ get_or l (i + 1) 0 = get_or-drop i l 1 0 in
    cc

-- a count that stands at a place, and what follows what is counted
near-counted : (b : List ℕ) (i : ℕ) (x l : List ℕ) → drop i b ≡ put_counted 2 x l → length x < 65536
    → (length x ≡ near16 b i) × (drop (i + 2 + length x) b ≡ l)
near-counted b i x l e h =
    let long : length b - i ≡ 2 + (length x + length l) = sym (length-drop i b) ∙ ap length e ∙ simp length-append (omega arith) in
    let here : at16 (put_counted 2 x l) 0 ≡ length x = omega arith in
    let there : i + (2 + length x) ≡ i + 2 + length x = omega arith in (
      sym (at16-drop i b ∙ ap (λ (l : List ℕ). at16 l 0) e ∙ here) ∙ near-there b i (omega arith),
      ap (λ (n : ℕ). drop n b) (sym there) ∙ sym (drop-drop (2 + length x) i b) ∙ ap (drop (2 + length x)) e
          ∙ sym (drop-drop (length x) 2 (put_counted 2 x l)) ∙ drop_at x l (length x) refl,
    )

-- ---- carrier 3: what stands in the place of the padding

module _ (b : List ℕ) (f : Fields) (rest : List ℕ) (h : HoldsPadded b f rest) where
  name-count : (length f.name ≡ near16 b 6) × (drop (6 + 2 + length f.name) b ≡ put_tail f rest)
  name-count = near-counted b 6 f.name (put_tail f rest) (ap (drop 6) h.laid) h.name

  -- it begins within the body, and is what follows
  padding-at : (padding_at b ≤ length b) × (drop (padding_at b) b ≡ rest)
  padding-at = go f.full refl
    where
      long : length b ≡ 8 + length f.name + length (put_tail f rest)
      long = ap length h.laid ∙ simp length-append (omega arith)

      go : (full : Bool) → f.full ≡ full → (padding_at b ≤ length b) × (drop (padding_at b) b ≡ rest)
      go false u =
          let few : length (put_tail f rest) < 8 = subst (λ (b : Bool). FormBy b (length (put_tail f rest))) u h.form in
          let tail : put_tail f rest ≡ rest = simp u in
          let is = padding-after-name b name-count.0 (omega (arith, long)) in
          (omega (arith, is, long), ap (λ (n : ℕ). drop n b) (sym is) ∙ name-count.1 ∙ tail)
      go true u =
          let many : 8 ≤ length (put_tail f rest) = subst (λ (b : Bool). FormBy b (length (put_tail f rest))) u h.form in
          let room : (length f.addresses < 256 ^ 2) × (length f.parameters < 256 ^ 2) = rw u at h.tail in
          let tail : put_tail f rest ≡ put_counted 2 f.addresses (put_counted 2 f.parameters rest) = simp u in
          let a = near-counted b (8 + length f.name) f.addresses (put_counted 2 f.parameters rest) (name-count.1 ∙ tail) room.0 in
          let p = near-counted b (8 + length f.name + 2 + length f.addresses) f.parameters rest a.1 room.1 in
          let is = padding-after-fields b name-count.0 (omega (arith, long)) a.0 p.0 in
          let size : length (put_tail f rest) ≡ 4 + length f.addresses + length f.parameters + length rest =
          ap length tail ∙ simp length-append (omega arith) in
          (omega (arith, is, long, size), ap (λ (n : ℕ). drop n b) (sym is) ∙ p.1)

  pub padding-most : padding_at b ≤ length b
  padding-most = padding-at.0

  pub padding-there : drop (padding_at b) b ≡ rest
  padding-there = padding-at.1

-- ---- the first octet that is no padding

past-within : (at : ℕ) (l : List ℕ) → past_padding at l ≤ at + length l
unfolding past_padding
past-within at [] = omega arith
past-within at (x ∷ xs) =
    by-test (eqb x 0 && ltb at 7) (λ t. cond t (past_padding (at + 1) xs) at ≤ at + length (x ∷ xs))
    (λ _. omega (arith, past-within (at + 1) xs))
    (λ _. omega arith)

-- ---- every place

drop-within : (i : ℕ) (b : List ℕ) (n : ℕ) → n ≤ length (drop i b) → i ≤ length b → i + n ≤ length b
drop-within i b n h k = omega (arith, length-drop i b)

module _ (b : List ℕ) (h : Bytes b) where
  -- what stands in the place of the padding follows the fields, and is none
  module _ (e : parse Router b ≡ bad fault.padding) where
    misfilled : Misfilled Router b
    misfilled = (misfilled-exactly Router b h).0 e

    there : drop (padding_at b) b ≡ misfilled.1
    there = padding-there b misfilled.0 misfilled.1 misfilled.2

    pub padding-fields : (f : Fields) × Holds Router b f (drop (padding_at b) b)
    padding-fields = (misfilled.0, subst⁻¹ (Holds Router b misfilled.0) there misfilled.2)

    pub padding-none : Padding (drop (padding_at b) b) → ⊥
    padding-none = subst⁻¹ (λ (l : List ℕ). Padding l → ⊥) there misfilled.3

  padding-within : parse Router b ≡ bad fault.padding → padding_at b + past_padding 0 (drop (padding_at b) b) ≤ length b
  padding-within e =
      let m = misfilled e in
      drop-within (padding_at b) b (past_padding 0 (drop (padding_at b) b)) (omega (arith, past-within 0 (drop (padding_at b) b)))
      (padding-most b m.0 m.1 m.2)

  pub laid-within : (c : Carrier) (k : ℕ) → parse c b ≡ bad k → laid_place k b ≤ length b
  unfolding laid_place
  laid-within c k e =
      by_equal (λ (i : ℕ). i ≤ length b) k fault.padding _ _
      (λ q. go q (parse-fault c b k e))
      (λ _. omega arith)
    where
      go : k ≡ fault.padding → (k ≡ fault.field) ⊎ ((c ≡ Router) × (k ≡ fault.padding)) → padding_at b + past_padding 0 (drop (padding_at b) b) ≤ length b
      go q (inl i) = absurd (omega arith)
      go q (inr i) = padding-within (ap (λ (c : Carrier). parse c b) (sym i.0) ∙ e ∙ ap bad q)

  pub trouble-within : (c : Carrier) → (trouble_of c b).at ≤ length b
  unfolding trouble_of judged_trouble
  trouble-within c = go (parse c b) refl
    where
      go : (r : Parsed) → parse c b ≡ r → (on_parsed r (λ k. plain k (laid_place k b)) (fields_trouble c)).at ≤ length b
      go (bad k) e = laid-within c k e
      go (fields f) e =
          let k : ℕ = fault_of Reading c f in
          field-within (parse-sized c b f h e) (param_for k f.parameters).at (judged-placed c f) (param-within k f.parameters)
