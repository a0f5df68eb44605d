-- What the code cuts out of a sheet, part by part, are the parts of `spot_of`. Assumes nothing.
use Rattle.std.specs.Prelude.{◌≡◌, refl, true, false, cond, List, [], ℕ, ◌+◌, ◌-◌, ◌*◌, ◌≤◌, ◌<◌, eqb, Option, None, length, get_or, take, drop}
use Rattle.std.specs.List.{IsFirstAndRest, IsSplitAt}
use Rattle.std.proofs.Common.{sym, ap, ap₂, ◌∙◌, subst, arith, length-drop, le-ltb, ne_eqb}
use Rattle.std.proofs.Math.Path.{subst⁻¹}
use Rattle.std.proofs.Math.Seq.{drop-drop}
use Rattle.std.proofs.lemmas.Bool.{false≢true}
use Rattle.std.proofs.lemmas.List.{get_or-take, get_or-drop}
use Rattle.octets.specs.Cases.{by_equal}
use Rattle.octets.specs.Numbers.{at16, at32, Bytes}
use Rattle.carriers.specs.declared.Carrier.{Carrier}
use Rattle.carriers.specs.Carriers.{address_width}
use Rattle.blocks.specs.Parts.{fields_in}
use Rattle.records.specs.Records.{head_size, lifetime_at, mode_at, name_length_at}
use Rattle.taking.specs.declared.Record.{Record}
use Rattle.taking.specs.declared.Tail.{Tail}
use Rattle.taking.specs.Spot.{Spot, nowhere, named_at, with_parts, full_at, by_mode, spot_of, fields_at, Inside, Sized}
use Rattle.taking.specs.SpotLaws.{by-full, spot-inside, spot-sized, full-1, full-2, full-3, full-4, full-5, spot-1, spot-2}
use Rattle.taking.specs.Shown.{Shown, Shows, Listed, Lists}

-- ---- what is left of s from an index on

pub record Left (s : List ℕ) (a : ℕ) (l : List ℕ) : Type 0 where
  pub within : a ≤ length s
  pub is : l ≡ drop a s

pub left : {s : List ℕ} {a : ℕ} {l : List ℕ} → a ≤ length s → l ≡ drop a s → Left s a l
left h e = record { within = h; is = e }

module _ {s : List ℕ} {a : ℕ} {l : List ℕ} (o : Left s a l) where
  left-length : a + length l ≡ length s
  left-length = omega (arith, ap length o.is ∙ length-drop a s, o.within)

  left-item : {x : ℕ} {m : List ℕ} → IsFirstAndRest l x m → (x ≡ get_or s a 0) × Left s (a + 1) m
  left-item {x} {m} f =
      let e = sym f.0 ∙ o.is in (
        ap (λ (l : List ℕ). get_or l 0 0) e ∙ get_or-drop a s 0 0 ∙ ap (λ (i : ℕ). get_or s i 0) (omega arith),
        record { within = omega (arith, left-length, f.1); is = ap (drop 1) e ∙ drop-drop 1 a s },
      )

  module _ {n : ℕ} {x m : List ℕ} (f : IsSplitAt l n x m) where
    left-part : x ≡ take n (drop a s)
    left-part = f.1 ∙ ap (take n) o.is

    left-rest : Left s (a + n) m
    left-rest = record { within = omega (arith, left-length, f.0); is = f.2 ∙ ap (drop n) o.is ∙ drop-drop n a s }

    -- the octets of a part
    left-at : (i : ℕ) → i < n → get_or x i 0 ≡ get_or s (a + i) 0
    left-at i h = ap (λ (l : List ℕ). get_or l i 0) left-part ∙ get_or-take n (drop a s) i 0 h ∙ get_or-drop a s i 0

    left-16 : (i : ℕ) → i + 1 < n → at16 x i ≡ at16 s (a + i)
    left-16 i h = rw (left-at i (omega arith), left-at (i + 1) h) (ap (λ (j : ℕ). get_or s (a + i) 0 * 256 + get_or s j 0) (omega arith))

    left-32 : (i : ℕ) → i + 3 < n → at32 x i ≡ at32 s (a + i)
    left-32 i h =
        rw (left-16 i (omega arith), left-16 (i + 2) (omega arith)) (ap (λ (j : ℕ). at16 s (a + i) * 65536 + at16 s j) (omega arith))

-- ---- after a name, in mode 1

module _ (c : Carrier) (s : List ℕ) (p : Spot) {l : List ℕ} (o : Left s p.next l) where
  full-none : nowhere ≡ full_at c s p → (full_at c s p).good ≡ false
  full-none e = ap (λ (p : Spot). p.good) (sym e)

  pub lists-1 : length l ≡ 0 → (full_at c s p).good ≡ false
  lists-1 z = full-none (full-1 c s p (omega (arith, left-length o, z)) refl)

  module _ {x : ℕ} {l₁ : List ℕ} (f : IsFirstAndRest l x l₁) {y w : ℕ} (ey : y ≡ x) (ew : w ≡ address_width c) where
    first_item : y ≡ get_or s p.next 0
    first_item = ey ∙ (left-item o f).0

    after-1 : Left s (p.next + 1) l₁
    after-1 = (left-item o f).1

    some : 1 ≤ length s - p.next
    some = omega (arith, left-length o, f.1)

    pub lists-2 : length l₁ < y * w → (full_at c s p).good ≡ false
    lists-2 k = full-none (full-2 c s p some first_item ew (omega (arith, left-length after-1, k)) refl)

    module _ {a l₂ : List ℕ} (g : IsSplitAt l₁ (y * w) a l₂) where
      after-2 : Left s (p.next + 1 + y * w) l₂
      after-2 = left-rest after-1 g

      room-2 : y * w ≤ length s - (p.next + 1)
      room-2 = omega (arith, left-length after-1, g.0)

      pub lists-3 : length l₂ < 2 → (full_at c s p).good ≡ false
      lists-3 k = full-none (full-3 c s p some first_item ew room-2 (omega (arith, left-length after-2, k)) refl)

      module _ {d l₃ : List ℕ} (i : IsSplitAt l₂ 2 d l₃) {m : ℕ} (em : m ≡ at16 d 0) where
        after-3 : Left s (p.next + 1 + y * w + 2) l₃
        after-3 = left-rest after-2 i

        room-3 : 2 ≤ length s - (p.next + 1 + y * w)
        room-3 = omega (arith, left-length after-2, i.0)

        size : m ≡ at16 s (p.next + 1 + y * w)
        size = em ∙ left-16 after-2 i 0 (omega arith) ∙ ap (at16 s) (omega arith)

        pub lists-4 : length l₃ < m → (full_at c s p).good ≡ false
        lists-4 k = full-none (full-4 c s p some first_item ew room-2 room-3 size (omega (arith, left-length after-3, k)) refl)

        pub lists-5 : {q l₄ : List ℕ} → IsSplitAt l₃ m q l₄ → {r : Tail} → r.addresses.now ≡ a → r.parameters.now ≡ q → r.rest.now ≡ l₄
            → Listed s (full_at c s p) r
        lists-5 {q} {l₄} j {r} ea eq er =
            let room : m ≤ length s - (p.next + 1 + y * w + 2) = omega (arith, left-length after-3, j.0) in
            let after = left-rest after-3 j in
            let at : Listed s (with_parts p (p.next + 1) (y * w) (p.next + 1 + y * w + 2) m) r = record {
              good = refl;
              addresses = ea ∙ left-part after-1 g;
              parameters = eq ∙ left-part after-3 j;
              rest = er ∙ after.is;
              next = after.within;
            } in
            subst (λ (p : Spot). Listed s p r) (full-5 c s p some first_item ew room-2 room-3 size room refl) at

-- ---- after a name, by its mode

module _ (c : Carrier) (t : List ℕ) (at n : ℕ) where
  abbrev p : Spot
  p = named_at t at n

  module _ {mode : ℕ} where
    pub lists-bare : {s : List ℕ} {r : Tail} → Left t p.next s → mode ≡ 0 → r.addresses.now ≡ [] → r.parameters.now ≡ [] → r.rest.now ≡ s
        → Listed t (by_mode c t mode p) r
    lists-bare o z ea eq er = rw z record { good = refl; addresses = ea; parameters = eq; rest = er ∙ o.is; next = o.within }

    pub lists-full : {r : Tail} → mode ≡ 1 → Listed t (full_at c t p) r → Listed t (by_mode c t mode p) r
    lists-full z h = rw z h

    pub lists-other : {o : Option Tail} → (mode ≡ 0 → ⊥) → (mode ≡ 1 → ⊥) → o ≡ None → Lists t (by_mode c t mode p) o
    lists-other z u e = rw (ne_eqb mode 0 z, ne_eqb mode 1 u, e) refl

    -- mode 1, where a part is cut short
    pub lists-short : {o : Option Tail} → mode ≡ 1 → (full_at c t p).good ≡ false → o ≡ None → Lists t (by_mode c t mode p) o
    lists-short z h e = rw (z, e) h

-- what the mode leaves as it was
record Kept (s : List ℕ) (at n mode : ℕ) (p : Spot) : Type 0 where
  priority : p.priority ≡ at16 s at
  lifetime : p.lifetime ≡ at32 s (at + lifetime_at)
  full : p.full ≡ eqb mode 1
  name : p.name ≡ at + head_size
  nlen : p.nlen ≡ n

mode-keeps : (c : Carrier) (s : List ℕ) (at n mode : ℕ) → at + head_size + n ≤ length s → (by_mode c s mode (named_at s at n)).good ≡ true
    → Kept s at n mode (by_mode c s mode (named_at s at n))
mode-keeps c s at n mode h =
    let P : Spot → Type 0 = λ p. p.good ≡ true → Kept s at n mode p in
    let none : P nowhere = λ g. absurd (false≢true g) in
    let p : Spot = named_at s at n in
    by_equal P mode 0 p (cond (eqb mode 1) (full_at c s p) nowhere)
    (λ z _. record { priority = refl; lifetime = refl; full = rw z refl; name = refl; nlen = refl })
    (λ _. by_equal P mode 1 (full_at c s p) nowhere
    (λ z. by-full P none c s p (λ a b q m _ _ _ _ _ _. record { priority = refl; lifetime = refl; full = rw z refl; name = refl; nlen = refl }) h)
    (λ _. none))

-- ---- a record from its first octet on

module _ (c : Carrier) (s : List ℕ) (at : ℕ) where
  spot-none : nowhere ≡ spot_of c s at → (spot_of c s at).good ≡ false
  spot-none e = ap (λ (p : Spot). p.good) (sym e)

  pub shows-past : {o : Option Record} → length s < at → o ≡ None → Shows s at (spot_of c s at) o
  shows-past h e = rw e (spot-none (spot-1 c s at (omega arith) refl))

  module _ {x l : List ℕ} (f : IsSplitAt s at x l) where
    first-left : Left s at l
    first-left = record { within = f.0; is = f.2 }

    pub shows-headless : {o : Option Record} → length l < head_size → o ≡ None → Shows s at (spot_of c s at) o
    shows-headless h e = rw e (spot-none (spot-1 c s at (omega (arith, left-length first-left, h)) refl))

    module _ {d l₁ : List ℕ} (g : IsSplitAt l head_size d l₁) {n : ℕ} (en : n ≡ get_or d name_length_at 0) where
      headed : Left s (at + head_size) l₁
      headed = left-rest first-left g

      room-head : head_size ≤ length s - at
      room-head = omega (arith, left-length first-left, g.0)

      name-size : n ≡ get_or s (at + name_length_at) 0
      name-size = en ∙ left-at first-left g name_length_at (omega arith)

      pub shows-nameless : {o : Option Record} → length l₁ < n → o ≡ None → Shows s at (spot_of c s at) o
      shows-nameless h e = rw e (spot-none (spot-2 c s at room-head name-size (omega (arith, left-length headed, h)) refl))

      module _ {name l₂ : List ℕ} (i : IsSplitAt l₁ n name l₂) {mode : ℕ} (em : mode ≡ get_or d mode_at 0) where
        pub name-left : (at + head_size + n ≤ length s) × (l₂ ≡ drop (at + head_size + n) s)
        name-left = let o = left-rest headed i in (o.within, o.is)

        spot-by-mode : by_mode c s mode (named_at s at n) ≡ spot_of c s at
        unfolding spot_of
        spot-by-mode =
            let k : n ≤ length s - at - head_size = omega (arith, left-length headed, i.0) in
            let m : mode ≡ get_or s (at + mode_at) 0 = em ∙ left-at first-left g mode_at (omega arith) in
            rw (le-ltb _ _ room-head, le-ltb _ _ (rw name-size at k), m) (ap (λ (n : ℕ). by_mode c s (get_or s (at + mode_at) 0) (named_at s at n)) name-size)

        pub shows-cut : {o : Option Record} → (by_mode c s mode (named_at s at n)).good ≡ false → o ≡ None → Shows s at (spot_of c s at) o
        shows-cut h e = rw e (ap (λ (p : Spot). p.good) (sym spot-by-mode) ∙ h)

        -- the numbers and the parts of the record are those of the spot
        pub shows-record : {t : Tail} → Listed s (by_mode c s mode (named_at s at n)) t → Bytes s → {r : Record} → r.parts.head.priority ≡ at16 d 0
            → r.parts.head.lifetime ≡ at32 d lifetime_at → r.parts.head.full ≡ eqb mode 1 → r.parts.name.now ≡ name → r.parts.addresses.now ≡ t.addresses.now
            → r.parts.parameters.now ≡ t.parameters.now → r.name ≡ at + head_size → r.next ≡ length s - length t.rest.now → Shown s at (spot_of c s at) r
        shows-record {t} l octets {r} ep el ef en ea eq ei ex =
            let h : at ≤ length s = f.0 in
            let p : Spot = by_mode c s mode (named_at s at n) in
            let k : Kept s at n mode p = mode-keeps c s at n mode (omega (arith, name-left)) l.good in
            let e16 = ep ∙ left-16 first-left g 0 (omega arith) ∙ ap (at16 s) (omega arith) ∙ sym k.priority in
            let e32 = el ∙ left-32 first-left g lifetime_at (omega arith) ∙ sym k.lifetime in
            let e-name = en ∙ left-part headed i ∙ ap₂ (λ (m j : ℕ). take m (drop j s)) (sym k.nlen) (sym k.name) in
            let fields : fields_in r.parts ≡ fields_at s p = rw (e16, e32, ef ∙ sym k.full, e-name, ea ∙ l.addresses, eq ∙ l.parameters) in
            let end : length s - length t.rest.now ≡ p.next = omega (arith, ap length l.rest ∙ length-drop p.next s, l.next) in
            subst (λ (p : Spot). Shown s at p r) spot-by-mode record {
              good = l.good;
              fields = fields;
              name = ei ∙ sym k.name;
              next = ex ∙ end;
              inside = subst⁻¹ (Inside (length s) at) spot-by-mode (spot-inside c s at h);
              sized = subst⁻¹ Sized spot-by-mode (spot-sized s octets c at h);
            }
