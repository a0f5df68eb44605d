-- A text is read as octets in a style exactly where it is a dump of them in that style, and a text is a dump of at most one list of octets. Assumes
-- nothing.
use Rattle.std.specs.Prelude.{◌≡◌, ◌↔◌, Bool, ℕ, ◌+◌, ◌≤◌, ◌<◌, min, leb, length, take}
use Rattle.std.proofs.Math.Path.{refl, sym, subst}
use Rattle.std.proofs.Common.{ap, ◌∙◌, arith, leb-true, leb-false, length-take}
use Rattle.std.proofs.Math.Bool.{true, false}
use mathlib.Core.List.{List, [], ◌∷◌, ◌++◌}
use Rattle.inputs.specs.Read.{Octets}
use Rattle.dumps.specs.declared.Style.{Style}
use Rattle.dumps.specs.State.{State}
use Rattle.dumps.specs.States.{begun}
use Rattle.dumps.specs.Turn.{Turn}
use Rattle.dumps.specs.Turn as turns
use Rattle.dumps.specs.Dumps.{Ended, end_of, take_of, read_from, read_of}
use Rattle.dumps.specs.DumpsLaws.{Within, take-kept, from-go, from-bad, from-long}
use Rattle.dumps.specs.Shows.{Lines, done, Shows, Told}
use Rattle.dumps.specs.Steps.{Result}
use Rattle.dumps.specs.Places as places
use Rattle.dumps.specs.Places.{FrontOf, Place}
use Rattle.dumps.specs.Onward.{Claim, Next}
use Rattle.dumps.specs.Fronts.{from_start, from-prefix, from-stars, from-offset, from-gap, from-after}
use Rattle.dumps.specs.ReadsLines.{lines-read}
use Rattle.dumps.specs.AfterAlone.{from-ended}
use Rattle.dumps.specs.Inside.{from-high, from_low, from_one, from_more, from-text, from-closed}

-- the end: no star may stand there
star-bad : (s : State) (n size m : ℕ) (out bs : List ℕ) → s.star ≡ true → Result (end_of s n size out) m bs → ⊥
star-bad s n size m out bs e r =
    let q = rw e at r.is in
    let z : ◌≡◌ {A = ℕ} 0 1 = cc in
    absurd (omega arith)

end-octets : (s : State) (n size m : ℕ) (out bs : List ℕ) → s.star ≡ false → Result (end_of s n size out) m bs → take n out ≡ bs
end-octets s n size m out bs e r =
    let q = rw e at r.is in
    let w : n ≡ m = cc in
    let o = rw e at r.octets in
    ap (λ (k : ℕ). take k out) w ∙ o

module _ (f : Style) (size m : ℕ) (bs : List ℕ) where
  at_end : Claim f size m bs []
  unfolding read_from
  at_end stood s n i out pre os last star (places.start v a b) c r = rest star refl
    where
      rest : (g : Bool) → star ≡ g → Lines f stood star os last (pre ++ []) bs
      rest true e = absurd (star-bad s n size m out bs (a.pending ∙ e) r)
      rest false e =
          let w : os ≡ bs = sym a.octets ∙ end-octets s n size m out bs (a.pending ∙ e) r in
          subst (λ (p : List ℕ). Lines f stood star os last (p ++ []) bs) (sym (c refl))
          (subst (λ (g : Bool). Lines f stood g os last [] bs) (sym e) (subst (Lines f stood false os last []) w done))
  at_end stood s n i out pre os last star (places.ended v g u d q l) c r =
      subst (Lines f stood star os last (pre ++ [])) (end-octets s n size m out bs q r) (l [] tt)
  at_end stood s n i out pre os last star (places.prefix _ _ _ _ _ _) c r = absurd (c refl)
  at_end stood s n i out pre os last star (places.offset _ _ _ _ _ _ _ _ _ _) c r = absurd (c refl)
  at_end stood s n i out pre os last star (places.stars _ _ _ _ _ _ _ _ _) c r = absurd (c refl)
  at_end stood s n i out pre os last star (places.gap _ _ _ _ _) c r = absurd (c refl)
  at_end stood s n i out pre os last star (places.after _ _ _ _ _ _) c r = absurd (c refl)
  at_end stood s n i out pre os last star (places.high _ _ _ _ _ _ _ _ _ _ _) c r = absurd (c refl)
  at_end stood s n i out pre os last star (places.low _ _ _ _ _) c r = absurd (c refl)
  at_end stood s n i out pre os last star (places.one _ _ _ _ _ _) c r = absurd (c refl)
  at_end stood s n i out pre os last star (places.more _ _ _ _ _ _ _) c r = absurd (c refl)
  at_end stood s n i out pre os last star (places.text _ _ _ _ _ _ _ _) c r = absurd (c refl)
  at_end stood s n i out pre os last star (places.closed _ _ _ _ _) c r = absurd (c refl)

  -- one character, at any place
  one_on : (x : ℕ) (xs : List ℕ) → Claim f size m bs xs → (xs ≡ [] → x ≡ 10) → (stood : Bool) (s : State) (n i : ℕ) (out pre os last : List ℕ) (star : Bool)
      → Place f stood s n out pre os last star → Result (read_from f s n size i out (x ∷ xs)) m bs → Lines f stood star os last (pre ++ (x ∷ xs)) bs
  one_on x xs on end stood s n i out pre os last star p r = by p
    where
      here : Next f stood size m bs x xs s n i out pre os last star
      here = record { on = on; end = end; result = r }

      by : Place f stood s n out pre os last star → Lines f stood star os last (pre ++ (x ∷ xs)) bs
      by (places.start v a b) = from_start here v a b
      by (places.prefix v a w p b e) = from-prefix here v a w p b e
      by (places.offset v a p u ds b q d z e) = from-offset here v a p u ds b q d z e
      by (places.stars v a w l p q b d e) = from-stars here v a w l p q b d e
      by (places.gap v now a c w) = from-gap here now a c w v
      by (places.after v now a c w j) = from-after here now a c w v j
      by (places.high v now cs h u a c w j l e) = from-high here now cs h u a c w j l e v
      by (places.low v b g c e) = from_low here b v g c e
      by (places.one v b c z g e) = from_one here b v c z g e
      by (places.more v b c q g l e) = from_more here b v c q g l e
      by (places.text v b k w j c l e) = from-text here b v k w j c l e
      by (places.closed v b c l e) = from-closed here b v c l e
      by (places.ended v g u d q l) = from-ended here g u d v q l

  -- a text with a line break after it
  all-on : (t : List ℕ) → Claim f size m bs (t ++ (10 ∷ []))
  all-on [] stood s n i out pre os last star p c r = one_on 10 [] at_end (λ _. refl) stood s n i out pre os last star p r
  all-on (x ∷ t) stood s n i out pre os last star p c r =
      one_on x (t ++ (10 ∷ [])) (all-on t) (more t) stood s n i out pre os last star p r
    where
      more : (t : List ℕ) → t ++ (10 ∷ []) ≡ [] → x ≡ 10
      more [] e = let z : ◌≡◌ {A = ℕ} 0 1 = cc in absurd (omega arith)
      more (y ∷ t) e = let z : ◌≡◌ {A = ℕ} 0 1 = cc in absurd (omega arith)

pub read-shows : (f : Style) (text out : List ℕ) (m : ℕ) → (read_of f text out).read ≡ Octets m → Shows f text (take m (read_of f text out).out)
unfolding read_of
read-shows f text out m e =
    all-on f (length text) m (take m (read_of f text out).out) text false begun 0 0 out [] [] [] false (places.start refl start tt)
    (λ _. refl) (record { is = e; octets = refl })
  where
    start : FrontOf false begun 0 out [] [] false
    start = record {
      good = refl;
      filled = omega arith;
      size = omega arith;
      octets = refl;
      here = refl;
      above = refl;
      pending = refl;
      going = refl;
      column = refl;
    }

-- ---- what is a dump is read

-- reading leaves the buffer as long as it was
kept : (f : Style) (size : ℕ) (xs : List ℕ) (s : State) (n i : ℕ) (out : List ℕ) → n ≤ length out → length (read_from f s n size i out xs).out ≡ length out
unfolding read_from
kept f size [] s n i out h = go s.star refl
  where
    go : (g : Bool) → s.star ≡ g → length (end_of s n size out).out ≡ length out
    go true e = rw e refl
    go false e = rw e refl
kept f size (x ∷ xs) s n i out h = go (take_of f s x n out).turn refl (λ t k. kept f size xs t k (i + 1) (take_of f s x n out).out)
  where
    go : (q : Turn) → (take_of f s x n out).turn ≡ q
        → ((t : State) (k : ℕ) → k ≤ length (take_of f s x n out).out
        → length (read_from f t k size (i + 1) (take_of f s x n out).out xs).out ≡ length (take_of f s x n out).out)
        → length (read_from f s n size i out (x ∷ xs)).out ≡ length out
    go (turns.Go t k) e ih =
        let a = take-kept f s x n out h in
        let b : k ≤ length out = subst (λ (q : Turn). Within q (length out)) e a.few in
        ap (λ (d : Ended). length d.out) (from-go f s x n size i out xs t k e) ∙ ih t k (omega (arith, a.size)) ∙ a.size
    go (turns.Bad w) e ih = ap (λ (d : Ended). length d.out) (from-bad f s x n size i out xs w e) ∙ (take-kept f s x n out h).size
    go turns.Long e ih = ap (λ (d : Ended). length d.out) (from-long f s x n size i out xs e) ∙ (take-kept f s x n out h).size

read_kept : (f : Style) (text out : List ℕ) → length (read_of f text out).out ≡ length out
unfolding read_of
read_kept f text out = kept f (length text) (text ++ (10 ∷ [])) begun 0 0 out (omega arith)

pub shows-read : (f : Style) → Told f → (text out bs : List ℕ) → length out < 65536 → Shows f text bs → length bs ≤ length out
    → ((read_of f text out).read ≡ Octets (length bs)) × (take (length bs) (read_of f text out).out ≡ bs)
unfolding read_of
shows-read f told text out bs h l k =
    let r : Result (read_of f text out) (length bs) bs =
    lines-read f told l false begun 0 out refl start (λ z. z) (λ z. absurd (no z)) k (omega arith) (length text) 0
    in
    (r.is, r.octets)
  where
    no : false ≡ true → ⊥
    no z = let y : ◌≡◌ {A = ℕ} 0 1 = cc in absurd (omega arith)

    start : FrontOf false begun 0 out [] [] false
    start = record {
      good = refl;
      filled = omega arith;
      size = omega arith;
      octets = refl;
      here = refl;
      above = refl;
      pending = refl;
      going = refl;
      column = refl;
    }

-- ---- the theorems

pub dumps-exactly : (f : Style) → Told f → (text out bs : List ℕ) → length out < 65536
    → (((read_of f text out).read ≡ Octets (length bs)) × (take (length bs) (read_of f text out).out ≡ bs)) ↔ (Shows f text bs × (length bs ≤ length out))
dumps-exactly f told text out bs h = (to, from)
  where
    to : ((read_of f text out).read ≡ Octets (length bs)) × (take (length bs) (read_of f text out).out ≡ bs) → Shows f text bs × (length bs ≤ length out)
    to r =
        let a : length bs ≡ min (length bs) (length (read_of f text out).out) = sym (ap length r.1) ∙ length-take (length bs) (read_of f text out).out in
        (subst (Shows f text) r.1 (read-shows f text out (length bs) r.0), omega (arith, read_kept f text out))

    from : Shows f text bs × (length bs ≤ length out) → ((read_of f text out).read ≡ Octets (length bs)) × (take (length bs) (read_of f text out).out ≡ bs)
    from s = shows-read f told text out bs h s.0 s.1

pub shown-once : (f : Style) → Told f → (text bs cs : List ℕ) → length bs < 65536 → length cs < 65536 → Shows f text bs → Shows f text cs → bs ≡ cs
shown-once f told text bs cs h k s t = go (leb (length bs) (length cs)) refl
  where
    same : (out : List ℕ) → length out < 65536 → length bs ≤ length out → length cs ≤ length out → bs ≡ cs
    same out l p q =
        let a = shows-read f told text out bs l s p in
        let b = shows-read f told text out cs l t q in
        let e : Octets (length bs) ≡ Octets (length cs) = sym a.0 ∙ b.0 in
        let n : length bs ≡ length cs = cc in
        sym a.1 ∙ ap (λ (i : ℕ). take i (read_of f text out).out) n ∙ b.1

    go : (g : Bool) → leb (length bs) (length cs) ≡ g → bs ≡ cs
    go true p = same cs k (leb-true (length bs) (length cs) p) (omega arith)
    go false p = let l = leb-false (length bs) (length cs) p in same bs h (omega arith) (omega arith)
