-- Each turn of the pass that lays a sheet's records one after another, and that instances joined at the end of the result's place and then
-- cut are the octets defined. Assumes nothing.
use Rattle.std.specs.Prelude.{◌≡◌, refl, Bool, true, false, cond, List, [], ◌∷◌, ◌++◌, ℕ, ◌+◌, ◌-◌, ◌≤◌, length, take, drop}
use Rattle.std.proofs.Common.{sym, ap, ◌∙◌, subst, append_assoc, append-nil, arith, length-append, take_at, drop_at, length-take-le}
use Rattle.std.proofs.Math.Path.{subst⁻¹}
use Rattle.octets.specs.Lists.{All}
use Rattle.octets.specs.Over.{over, Wrote}
use Rattle.octets.specs.OverLaws.{over-length, then, wrote_none}
use Rattle.carriers.specs.declared.Carrier.{Carrier}
use Rattle.carriers.specs.declared.Carrier.TheVariants.{Dhcp4}
use Rattle.carriers.specs.declared.Facts.{Facts}
use Rattle.carriers.specs.Carriers.{facts_of, is_joined, Plain}
use Rattle.carriers.proofs.CarriersLaws.{other-joined}
use Rattle.blocks.specs.Block.{Fields}
use Rattle.blocks.specs.Parts.{fields_in}
use Rattle.frames.specs.WalkLaws.{false-apart}
use Rattle.pieces.specs.Pieces.{cut_of, cut_octets}
use Rattle.pieces.specs.PiecesLaws.{cut-length}
use Rattle.layouts.specs.Layouts.{own_option, instance_of, stream_of}
use Rattle.layouts.specs.Writable.{Writable}
use Rattle.sheets.specs.Sheets.{front_size}
use Rattle.taking.specs.declared.Record.{Record}
use Rattle.taking.specs.Spot.{spot_of}
use Rattle.taking.specs.Shown.{Shown}
use Rattle.taking.specs.Standing.{Step}
use Rattle.taking.specs.StandingLaws.{taken-standing}
use Rattle.taking.specs.TurnsLaws.{standing-done, shown-step, shown-first, shown-standing}
use Rattle.taking.specs.Exactly.{sheet-taken}
use Rattle.vetting.specs.Weighing.{share_of}
use Rattle.vetting.proofs.WeighingLaws.{stream-none, stream-one}
use Rattle.written.specs.Octets.{octets_of}
use Rattle.written.specs.Accepted.{Sound}
use Rattle.written.proofs.AcceptedLaws.{writable}
use Rattle.writing.specs.Laying.{records_of, Ready, Laying, total_of, Measured}

-- ---- by the carrier's row of the table

module _ (c : Carrier) {f : Facts} (row : f ≡ facts_of c) where
  pub row-joined : {b : Bool} → f.joined ≡ b → is_joined c ≡ b
  row-joined e = ap (λ (f : Facts). f.joined) (sym row) ∙ e

  pub total-joined : (n : ℕ) → f.joined ≡ true → cut_octets n ≡ total_of c n
  total-joined n e = rw (row-joined e)

  pub total-other : (n : ℕ) → f.joined ≡ false → n ≡ total_of c n
  total-other n e = rw (row-joined e)

-- ---- carriers 2 to 5

module _ (c : Carrier) (n : c ≡ Dhcp4 → ⊥) where
  other-plain : Plain c
  other-plain = false-apart (other-joined c n)

  other-share : (r : Fields) → own_option c r ≡ share_of c r
  other-share r = rw (other-joined c n)

-- how many octets the result has
pub total-octets : (c : Carrier) (rs : List Fields) → total_of c (length (stream_of c rs)) ≡ length (octets_of c rs)
unfolding octets_of
total-octets c rs = go (is_joined c) (stream_of c rs)
  where
    go : (j : Bool) (l : List ℕ) → cond j (cut_octets (length l)) (length l) ≡ length (cond j (cut_of l) l)
    go true l = sym (cut-length l)
    go false l = refl

-- ---- one record: what its writer asks, and what it lays

module _ (c : Carrier) (r : Fields) where
  -- carrier 1
  module _ (e : c ≡ Dhcp4) where
    pub instance-asked : Writable c r → (at : ℕ) {n : ℕ} → at + length (share_of c r) ≤ n → Writable Dhcp4 r × (at + length (instance_of r) ≤ n)
    instance-asked w at h = (rw e at w, rw e at h)

    pub instance-laid : {at : ℕ} {out out' : List ℕ} {n : ℕ} → Wrote at (instance_of r) out n out' → Wrote at (share_of c r) out n out'
    instance-laid v = rw e v

  -- carriers 2 to 5
  module _ (n : c ≡ Dhcp4 → ⊥) where
    pub option-asked : (at : ℕ) {m : ℕ} → at + length (share_of c r) ≤ m → Plain c × (at + length (own_option c r) ≤ m)
    option-asked at {m} h = (other-plain c n, subst⁻¹ (λ (l : List ℕ). at + length l ≤ m) (other-share c n r) h)

    pub option-laid : {at : ℕ} {out out' : List ℕ} {m : ℕ} → Wrote at (own_option c r) out m out' → Wrote at (share_of c r) out m out'
    option-laid {at} {out} {out'} {m} v = subst (λ (l : List ℕ). Wrote at l out m out') (other-share c n r) v

-- ---- the pass

pub laying-start : {c : Carrier} {s : List ℕ} {from : ℕ} {out : List ℕ} → Ready c s → from + length (stream_of c (records_of s)) ≤ length out
    → Laying c s (records_of s) from out front_size from out
laying-start {c} {s} {from} {out} r h = record {
  done = [];
  rest = records_of s;
  are = refl;
  standing = (taken-standing s (sheet-taken s c (records_of s) r.is)).0;
  sound = r.sound;
  room = h;
  wrote = wrote_none (omega arith);
}

module _ {c : Carrier} {s : List ℕ} {rs : List Fields} {from at o : ℕ} {out out' : List ℕ} (w : Laying c s rs from out at o out') where
  pub laying-length : length out' ≡ length out
  laying-length = ap length w.wrote.laid ∙ over-length from w.done out w.wrote.room

  -- where none is left
  pub laying-end : (spot_of c s at).good ≡ false → Wrote from (stream_of c rs) out o out'
  laying-end h =
      let z : w.rest ≡ [] = standing-done w.standing h in
      let e : stream_of c rs ≡ w.done =
      w.are
      ∙ ap (λ (x : List Fields). w.done ++ stream_of c x) z
      ∙ ap (λ (x : List ℕ). w.done ++ x) (stream-none c)
      ∙ append-nil w.done in
      subst⁻¹ (λ (x : List ℕ). Wrote from x out o out') e w.wrote

  module _ {x : Record} (h : Shown s at (spot_of c s at) x) where
    abbrev laying_step : Step c s at w.rest (spot_of c s at)
    laying_step = shown-step c s at h w.standing

    first-is : fields_in x.parts ≡ laying_step.first
    first-is = shown-first c s at h w.standing

    rest-sound : All (Sound c) (laying_step.first ∷ laying_step.rest)
    rest-sound = subst (All (Sound c)) laying_step.are w.sound

    pub laying-writable : Writable c (fields_in x.parts)
    laying-writable = subst⁻¹ (Writable c) first-is (writable c laying_step.first rest-sound.0)

    -- what is laid, this record and what follows
    laying-parts : stream_of c rs ≡ (w.done ++ share_of c (fields_in x.parts)) ++ stream_of c laying_step.rest
    laying-parts =
        let t = laying_step in
        w.are
        ∙ ap (λ (x : List Fields). w.done ++ stream_of c x) t.are
        ∙ ap (λ (x : List ℕ). w.done ++ x) (stream-one c t.first t.rest)
        ∙ ap (λ (x : Fields). w.done ++ (share_of c x ++ stream_of c t.rest)) (sym first-is)
        ∙ sym (append_assoc w.done (share_of c (fields_in x.parts)) (stream_of c t.rest))

    pub laying-room : o + length (share_of c (fields_in x.parts)) ≤ length out'
    laying-room =
        let d : List ℕ = w.done ++ share_of c (fields_in x.parts) in
        let l = ap length laying-parts ∙ length-append d (stream_of c laying_step.rest) in
        omega (arith, l, length-append w.done (share_of c (fields_in x.parts)), w.room, w.wrote.next, laying-length)

    pub laying-next : {o' : ℕ} {out'' : List ℕ} → Wrote o (share_of c (fields_in x.parts)) out' o' out'' → Laying c s rs from out x.next o' out''
    laying-next v = record {
      done = w.done ++ share_of c (fields_in x.parts);
      rest = laying_step.rest;
      are = laying-parts;
      standing = shown-standing c s at h w.standing;
      sound = rest-sound.1;
      room = w.room;
      wrote = then w.wrote v;
    }

-- ---- carrier 1

-- octets laid over the front cover those that were laid behind them
over-covers : (k : ℕ) (a b l : List ℕ) → k + length b ≡ length a → k + length b ≤ length l → over 0 a (over k b l) ≡ over 0 a l
unfolding over
over-covers k a b l e h =
    let t : length (take k l) ≡ k = length-take-le k l (omega arith) in
    let head : length (take k l ++ b) ≡ 0 + length a = length-append (take k l) b ∙ omega arith in
    let same : k + length b ≡ 0 + length a = omega arith in
    let back : drop (0 + length a) (take k l ++ b ++ drop (k + length b) l) ≡ drop (0 + length a) l =
    drop_at (take k l ++ b) (drop (k + length b) l) (0 + length a) head ∙ ap (λ (m : ℕ). drop m l) same in
    ap (λ (x : List ℕ). a ++ x) back

-- the octets that were laid stand where they were laid
over-there : (k : ℕ) (b l : List ℕ) → k + length b ≤ length l → take (length b) (drop k (over k b l)) ≡ b
unfolding over
over-there k b l h =
    let t : length (take k l) ≡ k = length-take-le k l (omega arith) in
    let rest : List ℕ = drop (k + length b) l in
    ap (λ (x : List ℕ). take (length b) (drop k x)) (append_assoc (take k l) b rest)
    ∙ ap (take (length b)) (drop_at (take k l) (b ++ rest) k t)
    ∙ take_at b rest (length b) refl

octets-joined : (c : Carrier) (rs : List Fields) → is_joined c ≡ true → octets_of c rs ≡ cut_of (stream_of c rs)
unfolding octets_of
octets-joined c rs e = ap (λ (j : Bool). cond j (cut_of (stream_of c rs)) (stream_of c rs)) e

module _ {c : Carrier} (joins : is_joined c ≡ true) {s : List ℕ} {size total room : ℕ} (m : Measured c s size total room) where
  -- where the instances are joined
  pub joined-place : (size ≤ total) × (total - size + size ≡ cut_octets size) × (total - size + length (stream_of c (records_of s)) ≤ room)
  joined-place =
      let t : total ≡ cut_octets size = m.totals ∙ ap (λ (j : Bool). cond j (cut_octets size) size) joins in
      (omega (arith, t), omega (arith, t), omega (arith, t, m.sizes, m.fits))

  pub joined-cut : {out out₁ out₂ : List ℕ} {o r : ℕ} → Wrote (total - size) (stream_of c (records_of s)) out o out₁
      → Wrote 0 (cut_of (take size (drop (total - size) out₁))) out₁ r out₂ → Wrote 0 (octets_of c (records_of s)) out r out₂
  joined-cut {out} {out₁} {out₂} {o} {r} w v =
      let from : ℕ = total - size in
      let joined : List ℕ = stream_of c (records_of s) in
      let there : take size (drop from out₁) ≡ joined =
      ap (λ (l : List ℕ). take size (drop from l)) w.laid
      ∙ ap (λ (n : ℕ). take n (drop from (over from joined out))) m.sizes
      ∙ over-there from joined out w.room in
      let u : Wrote 0 (cut_of joined) out₁ r out₂ = subst (λ (l : List ℕ). Wrote 0 (cut_of l) out₁ r out₂) there v in
      let long : from + length joined ≡ length (cut_of joined) = omega (arith, cut-length joined, joined-place, m.sizes) in
      let all : Wrote 0 (cut_of joined) out r out₂ = record {
        room = omega (arith, u.room, ap length w.laid, over-length from joined out w.room);
        next = u.next;
        laid = u.laid ∙ ap (over 0 (cut_of joined)) w.laid ∙ over-covers from (cut_of joined) joined out long w.room;
      } in
      subst⁻¹ (λ (l : List ℕ). Wrote 0 l out r out₂) (octets-joined c (records_of s) joins) all

-- ---- the other carriers

module _ (c : Carrier) (other : is_joined c ≡ false) where
  pub stream-room : {s : List ℕ} {size total room : ℕ} → Measured c s size total room → 0 + length (stream_of c (records_of s)) ≤ room
  stream-room {s} {size} {total} m =
      let e : total ≡ size = m.totals ∙ ap (λ (j : Bool). cond j (cut_octets size) size) other in
      omega (arith, m.sizes, m.fits, e)

  pub stream-laid : (rs : List Fields) {out out' : List ℕ} {r : ℕ} → Wrote 0 (stream_of c rs) out r out' → Wrote 0 (octets_of c rs) out r out'
  unfolding octets_of
  stream-laid rs {out} {out'} {r} w =
      subst⁻¹ (λ (j : Bool). Wrote 0 (cond j (cut_of (stream_of c rs)) (stream_of c rs)) out r out') other w
