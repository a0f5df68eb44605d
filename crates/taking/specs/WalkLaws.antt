-- The records that `records_from` finds in what is left of a sheet, by the places of `spot_of`. Assumes nothing.
use Rattle.std.specs.Prelude.{◌≡◌, Bool, ltb, take, drop}
use Rattle.std.proofs.Math.Path.{refl, ap}
use Rattle.std.proofs.Common.{sym, ◌∙◌}
use Rattle.std.proofs.Math.Bool.{true, false, cond}
use mathlib.Core.List.{List, [], ◌∷◌}
use Prim.Native.Nat.{ℕ, suc, ◌+◌, ◌-◌, ◌*◌, ◌≤◌, ◌<◌}
use native.Mathlib.Omega.{arith}
use borrow.Author.Tests.{lt-ltb, le-ltb, ltb-false, le-leb, lt-leb, leb-true, eq-eqb, ne_eqb}
use Rattle.std.proofs.Math.Dec.{leb, eqb}
use Rattle.std.proofs.Math.ListN.{length, get_or, length-drop}
use Rattle.std.proofs.Math.Seq.{drop-drop}
use Rattle.octets.specs.Cases.{by_less}
use Rattle.octets.specs.Numbers.{val, at16, at32, number_at}
use Rattle.octets.specs.NumbersLaws.{number-8, number-16, number-32}
use Rattle.octets.specs.Fields.{part, number, counted}
use Rattle.carriers.specs.declared.Carrier.{Carrier}
use Rattle.carriers.specs.Carriers.{address_width}
use Rattle.blocks.specs.Block.{Fields, name_only, whole}
use Rattle.records.specs.Records.{head_size, lifetime_at, mode_at, name_length_at}
use Rattle.taking.specs.Taking.{Records, none, records, onto, misplaced, full_fields, one_record, records_from}
use Rattle.taking.specs.Took.{some}
use Rattle.taking.specs.Spot.{Spot, nowhere, named_at, with_parts, parameters_at, addresses_at, full_at, by_mode, spot_of, fields_at}
use Rattle.taking.specs.SpotLaws.{by-full}

-- ---- fields of what is left of s from an index on

module _ {R : Type 0} (stop : R) where
  part-short : (n : ℕ) (l : List ℕ) (next : List ℕ → List ℕ → R) → length l < n → part stop n l next ≡ stop
  unfolding part
  part-short n l next h = rw (lt-leb n (length l) h)

  number_short : (w : ℕ) (l : List ℕ) (next : ℕ → List ℕ → R) → length l < w → number stop w l next ≡ stop
  unfolding number
  number_short w l next h = part-short w l (λ x l. next (val x) l) h

  -- a number, and then what is too short however it goes on
  number-then-short : (w : ℕ) (l : List ℕ) (next : ℕ → List ℕ → R) → ((v : ℕ) (r : List ℕ) → w + length r ≡ length l → next v r ≡ stop)
      → number stop w l next ≡ stop
  unfolding number part
  number-then-short w l next h = go (leb w (length l)) refl
    where
      go : (b : Bool) → leb w (length l) ≡ b → cond b (next (val (take w l)) (drop w l)) stop ≡ stop
      go true t = h (val (take w l)) (drop w l) (let k : w ≤ length l = leb-true _ _ t in omega (arith, length-drop w l))
      go false t = refl

  module _ (s : List ℕ) (at : ℕ) (inside : at ≤ length s) where
    part_at : (n next-at : ℕ) (next : List ℕ → List ℕ → R) → next-at ≡ at + n → n ≤ length s - at
        → part stop n (drop at s) next ≡ next (take n (drop at s)) (drop next-at s)
    unfolding part
    part_at n b next e h =
        let k : n ≤ length (drop at s) = rw length-drop h in
        rw (le-leb n (length (drop at s)) k, drop-drop n at s, e)

    part-past : (n : ℕ) (next : List ℕ → List ℕ → R) → length s - at < n → part stop n (drop at s) next ≡ stop
    part-past n next h = part-short n (drop at s) next (rw length-drop h)

    number_past : (w : ℕ) (next : ℕ → List ℕ → R) → length s - at < w → number stop w (drop at s) next ≡ stop
    number_past w next h = number_short w (drop at s) next (rw length-drop h)

    number-at : (w v next-at : ℕ) (next : ℕ → List ℕ → R) → v ≡ number_at w at s → next-at ≡ at + w → w ≤ length s - at
        → number stop w (drop at s) next ≡ next v (drop next-at s)
    unfolding number number_at
    number-at w v b next ev e h = part_at w b (λ x l. next (val x) l) e h ∙ ap (λ (n : ℕ). next n (drop b s)) (sym ev)

-- ---- one record

-- what a record at p means for what is read: none, or its fields and what is left after it
abbrev on_spot : List ℕ → Spot → (Fields → List ℕ → Records) → Records
on_spot s p next = cond p.good (next (fields_at s p) (drop p.next s)) none

module _ (s : List ℕ) (p : Spot) (next : Fields → List ℕ → Records) where
  -- the fields, once addresses and parameters are known
  abbrev made : List ℕ → List ℕ → List ℕ → Records
  made addresses parameters l = next (whole p.priority p.lifetime (take p.nlen (drop p.name s)) addresses parameters) l

  parameters-at : (a n b : ℕ) → b ≤ length s
      → counted none 2 (drop b s) (made (take n (drop a s)))
      ≡ on_spot s (cond (ltb (length s - b) 2) nowhere (parameters_at s p a n (b + 2) (at16 s b))) next
  unfolding counted
  parameters-at a n b h =
      let m : ℕ = at16 s b in
      let last : List ℕ → List ℕ → Records = made (take n (drop a s)) in
      let measured : ℕ → List ℕ → Records = λ m l. part none m l last in
      let Is : Spot → Type 0 = λ r. number none 2 (drop b s) measured ≡ on_spot s r next in
      by_less Is (length s - b) 2 nowhere (parameters_at s p a n (b + 2) m) (λ k. number_past none s b h 2 measured k) (λ k.
      let read : number none 2 (drop b s) measured ≡ part none m (drop (b + 2) s) last =
      number-at none s b h 2 m (b + 2) measured (number-16 s b (omega arith)) refl k in
      let inside : b + 2 ≤ length s = omega arith in
      by_less Is (length s - (b + 2)) m nowhere (with_parts p a n (b + 2) m)
      (λ j. read ∙ part-past none s (b + 2) inside m last j)
      (λ j. read ∙ part_at none s (b + 2) inside m (b + 2 + m) last refl j))

  addresses-at : (a n : ℕ) → a ≤ length s
      → part none n (drop a s) (λ addresses l. counted none 2 l (made addresses)) ≡ on_spot s (addresses_at s p a n) next
  addresses-at a n h =
      let last : List ℕ → List ℕ → Records = λ addresses l. counted none 2 l (made addresses) in
      let Is : Spot → Type 0 = λ r. part none n (drop a s) last ≡ on_spot s r next in
      by_less Is (length s - a) n nowhere (cond (ltb (length s - (a + n)) 2) nowhere (parameters_at s p a n (a + n + 2) (at16 s (a + n))))
      (λ k. part-past none s a h n last k)
      (λ k. part_at none s a h n (a + n) last refl k ∙ parameters-at a n (a + n) (omega arith))

  full_at_lem : (c : Carrier) → p.next ≤ length s
      → full_fields c p.priority p.lifetime (take p.nlen (drop p.name s)) (drop p.next s) next ≡ on_spot s (full_at c s p) next
  unfolding full_at
  full_at_lem c h =
      let t : ℕ = p.next in
      let n : ℕ = get_or s t 0 * address_width c in
      let counts : ℕ → List ℕ → Records = λ count l. part none (count * address_width c) l (λ addresses l. counted none 2 l (made addresses)) in
      let Is : Spot → Type 0 = λ r. number none 1 (drop t s) counts ≡ on_spot s r next in
      by_less Is (length s - t) 1 nowhere (addresses_at s p (t + 1) n)
      (λ k. number_past none s t h 1 counts k)
      (λ k. number-at none s t h 1 (get_or s t 0) (t + 1) counts (number-8 s t (omega arith)) refl k ∙ addresses-at (t + 1) n (omega arith))

-- the tests after the name, which leave the fields' places alone
abbrev pub tested : Carrier → ℕ → ℕ → ℕ → Records → Records
tested c least priority lifetime found = cond (ltb priority least) none (cond (misplaced c lifetime) none found)

tested-none : (c : Carrier) (least priority lifetime : ℕ) → tested c least priority lifetime none ≡ none
tested-none c least priority lifetime = go (ltb priority least) (misplaced c lifetime)
  where
    go : (a b : Bool) → cond a none (cond b none none) ≡ none
    go true b = refl
    go false true = refl
    go false false = refl

-- the record at p, tested
abbrev pub on_record : Carrier → ℕ → List ℕ → Spot → (Fields → List ℕ → Records) → Records
on_record c least s p next = cond p.good (tested c least p.priority p.lifetime (next (fields_at s p) (drop p.next s))) none

module _ (c : Carrier) (least : ℕ) (next : Fields → List ℕ → Records) where
  -- what `one_record` does once the name is read
  abbrev pub after_name : ℕ → ℕ → ℕ → List ℕ → List ℕ → Records
  after_name priority lifetime mode name l =
      tested c least priority lifetime
      (cond (eqb mode 0) (next (name_only priority lifetime name) l)
      (cond (eqb mode 1) (full_fields c priority lifetime name l next) none))

  -- fewer than 8 octets are no record
  one-short : (l : List ℕ) → length l < head_size → one_record c least l next ≡ none
  unfolding counted
  one-short l h =
      number-then-short none 2 l _ (λ priority l1 e1.
      number-then-short none 4 l1 _ (λ lifetime l2 e2.
      number-then-short none 1 l2 _ (λ mode l3 e3.
      number_short none 1 l3 _ (omega arith))))

  module _ (s : List ℕ) (at : ℕ) (inside : at ≤ length s) (eight : head_size ≤ length s - at) where
    -- the eight octets before the name
    head_at : one_record c least (drop at s) next
        ≡ part none (get_or s (at + name_length_at) 0) (drop (at + head_size) s) (after_name (at16 s at) (at32 s (at + lifetime_at)) (get_or s (at + mode_at) 0))
    unfolding counted
    head_at =
        let p : ℕ = at16 s at in
        let t : ℕ = at32 s (at + lifetime_at) in
        let m : ℕ = get_or s (at + mode_at) 0 in
        let n : ℕ = get_or s (at + name_length_at) 0 in
        number-at none s at inside 2 p (at + lifetime_at) _ (number-16 s at (omega arith)) refl (omega arith)
        ∙ number-at none s (at + lifetime_at) (omega arith) 4 t (at + mode_at) _ (number-32 s (at + lifetime_at) (omega arith)) (omega arith) (omega arith)
        ∙ number-at none s (at + mode_at) (omega arith) 1 m (at + name_length_at) _ (number-8 s (at + mode_at) (omega arith)) (omega arith) (omega arith)
        ∙ number-at none s (at + name_length_at) (omega arith) 1 n (at + head_size) _ (number-8 s (at + name_length_at) (omega arith)) (omega arith) (omega arith)

    name-at : get_or s (at + name_length_at) 0 ≤ length s - at - head_size
        → after_name (at16 s at) (at32 s (at + lifetime_at)) (get_or s (at + mode_at) 0) (take (get_or s (at + name_length_at) 0) (drop (at + head_size) s)) (drop (at + head_size + get_or s (at + name_length_at) 0) s)
        ≡ on_record c least s (by_mode c s (get_or s (at + mode_at) 0) (named_at s at (get_or s (at + name_length_at) 0))) next
    name-at h = go (eqb (get_or s (at + mode_at) 0) 0) (eqb (get_or s (at + mode_at) 0) 1)
      where
        n : ℕ
        n = get_or s (at + name_length_at) 0

        p : Spot
        p = named_at s at n

        full : Spot
        full = full_at c s p

        Is : Spot → Type 0
        Is r = tested c least p.priority p.lifetime (on_spot s r next) ≡ on_record c least s r next

        go : (z o : Bool) → tested c least p.priority p.lifetime
            (cond z (next (fields_at s p) (drop p.next s))
            (cond o (full_fields c p.priority p.lifetime (take n (drop (at + head_size) s)) (drop p.next s) next) none))
            ≡ on_record c least s (cond z p (cond o full nowhere)) next
        go true o = refl
        go false true =
            let inside : p.next ≤ length s = omega arith in
            ap (tested c least p.priority p.lifetime) (full_at_lem s p next c inside)
            ∙ by-full Is (tested-none c least p.priority p.lifetime) c s p (λ a n q m _ _ _ _ _. refl) inside
        go false false = tested-none c least p.priority p.lifetime

  -- the record at an index of s, by its spot
  pub one_at : (s : List ℕ) (at : ℕ) → at ≤ length s → one_record c least (drop at s) next ≡ on_record c least s (spot_of c s at) next
  unfolding spot_of
  one_at s at h =
      let n : ℕ = get_or s (at + name_length_at) 0 in
      let mode : ℕ = get_or s (at + mode_at) 0 in
      let p : Spot = named_at s at n in
      let after : List ℕ → List ℕ → Records = after_name (at16 s at) (at32 s (at + lifetime_at)) mode in
      let Is : Spot → Type 0 = λ r. one_record c least (drop at s) next ≡ on_record c least s r next in
      by_less Is (length s - at) head_size nowhere (cond (ltb (length s - at - head_size) n) nowhere (by_mode c s mode p))
      (λ k. one-short (drop at s) (rw (length-drop at s) k)) (λ k.
      let head = head_at s at h k in
      let inside : at + head_size ≤ length s = omega arith in
      by_less Is (length s - at - head_size) n nowhere (by_mode c s mode p)
      (λ j. head ∙ part-past none s (at + head_size) inside n after (omega arith))
      (λ j. head ∙ part_at none s (at + head_size) inside n (at + head_size + n) after refl (omega arith) ∙ name-at s at h k j))

-- so many records: the one at an index and those after it
pub records-at : (c : Carrier) (n least : ℕ) (s : List ℕ) (at : ℕ) → at ≤ length s
    → records_from c (suc n) least (drop at s) ≡ on_record c least s (spot_of c s at) (λ r l. onto r (records_from c n r.priority l))
unfolding records_from
records-at c n least s at h = one_at c least (λ r l. onto r (records_from c n r.priority l)) s at h

-- what holds of none, and of what follows a record that passes the tests, holds
pub by-record : (P : Records → Type 0) (c : Carrier) (least : ℕ) (s : List ℕ) (p : Spot) (next : Fields → List ℕ → Records) → P none
    → (p.good ≡ true → least ≤ p.priority → misplaced c p.lifetime ≡ false → P (next (fields_at s p) (drop p.next s)))
    → P (on_record c least s p next)
by-record P c least s p next h k = go p.good (ltb p.priority least) (misplaced c p.lifetime) refl refl refl
  where
    found : Records
    found = next (fields_at s p) (drop p.next s)

    go : (g l m : Bool) → p.good ≡ g → ltb p.priority least ≡ l → misplaced c p.lifetime ≡ m → P (cond g (cond l none (cond m none found)) none)
    go false l m eg el em = h
    go true true m eg el em = h
    go true false true eg el em = h
    go true false false eg el em = k eg (ltb-false _ _ el) em

-- ---- the ways through a turn of the loop over the records: W is whether there are records at all

some-onto : (r : Fields) (x : Records) → some (onto r x) ≡ some x
some-onto r none = refl
some-onto r (records rs) = refl

module _ (c : Carrier) (s : List ℕ) (at least left : ℕ) {W : Bool} (inside : at ≤ length s) (is : some (records_from c left least (drop at s)) ≡ W) where
  stand-turn : 0 < left → some (on_record c least s (spot_of c s at) (λ r l. onto r (records_from c (left - 1) r.priority l))) ≡ W
  stand-turn h =
      let e : left ≡ suc (left - 1) = omega arith in
      sym (ap some (ap (λ (n : ℕ). records_from c n least (drop at s)) e ∙ records-at c (left - 1) least s at inside)) ∙ is

  module _ (h : 0 < left) {p : Spot} (e : p ≡ spot_of c s at) where
    stand-seen : some (on_record c least s p (λ r l. onto r (records_from c (left - 1) r.priority l))) ≡ W
    stand-seen = rw e (stand-turn h)

    pub stand-1 : p.good ≡ false → false ≡ W
    stand-1 g = rw g at stand-seen

    module _ (g : p.good ≡ true) where
      pub stand-2 : p.priority < least → false ≡ W
      stand-2 k = rw (g, lt-ltb p.priority least k) at stand-seen

      module _ (k : least ≤ p.priority) where
        pub stand-3 : misplaced c p.lifetime ≡ true → false ≡ W
        stand-3 m = rw (g, le-ltb p.priority least k, m) at stand-seen

        pub stand-4 : misplaced c p.lifetime ≡ false → some (records_from c (left - 1) p.priority (drop p.next s)) ≡ W
        stand-4 m = sym (some-onto (fields_at s p) (records_from c (left - 1) p.priority (drop p.next s))) ∙ rw (g, le-ltb p.priority least k, m) at stand-seen

  pub stand-5 : left ≤ 0 → eqb at (length s) ≡ W
  unfolding records_from
  stand-5 h =
      let z : left ≡ 0 = omega arith in
      go (drop at s) (length-drop at s) ∙ rw z at is
    where
      go : (l : List ℕ) → length l ≡ length s - at → eqb at (length s) ≡ some (records_from c 0 least l)
      go [] e = eq-eqb at (length s) (omega arith)
      go (x ∷ xs) e = ne_eqb at (length s) (λ i. omega arith)
