-- Where a record's fields stand: they lie within the sheet one after another, and each way out of the code that finds them agrees with `spot_of`.
-- Assumes nothing.
use Rattle.std.specs.Prelude.{◌≡◌, true, cond, List, ltb, eqb, length, take, drop}
use Rattle.std.proofs.Math.Path.{refl, subst⁻¹}
use Rattle.std.proofs.Common.{sym, ap, ◌∙◌, mul-le-mul, arith, length-drop, length-take-le}
use Rattle.std.proofs.lemmas.Bool.{false≢true}
use Prim.Native.Nat.{ℕ, ◌+◌, ◌-◌, ◌*◌, ◌≤◌, ◌<◌}
use borrow.Author.Tests.{lt-ltb, le-ltb}
use Rattle.std.proofs.Math.ListN.{get_or}
use Rattle.octets.specs.Cases.{by_less, by_equal}
use Rattle.octets.specs.Numbers.{at16, at32, Bytes}
use Rattle.octets.specs.NumbersLaws.{bytes-get_or}
use Rattle.carriers.specs.declared.Carrier.{Carrier}
use Rattle.carriers.specs.Carriers.{address_width}
use Rattle.carriers.proofs.CarriersLaws.{address-width}
use Rattle.records.specs.Records.{head_size, lifetime_at, mode_at, name_length_at, tail_size, record_of}
use Rattle.records.specs.RecordsLaws.{length-record}
use Rattle.taking.specs.Spot.{Spot, nowhere, named_at, with_parts, parameters_at, addresses_at, full_at, by_mode, spot_of, fields_at, Inside, Sized}

-- ---- what holds of every spot: of none, of a name, of a name with parts, and so of `spot_of`

module _ (P : Spot → Type 0) (none : P nowhere) (c : Carrier) (s : List ℕ) where
  pub by-full : (p : Spot)
      → ((a n q m : ℕ) → a ≡ p.next + 1 → n ≡ get_or s p.next 0 * address_width c → a + n + 2 ≡ q → m ≡ at16 s (a + n) → q + m ≤ length s
      → P (with_parts p a n q m))
      → p.next ≤ length s → P (full_at c s p)
  unfolding full_at
  by-full p whole h =
      let a : ℕ = p.next + 1 in
      let n : ℕ = get_or s p.next 0 * address_width c in
      let q : ℕ = a + n + 2 in
      let m : ℕ = at16 s (a + n) in
      by_less P (length s - p.next) 1 nowhere (addresses_at s p a n) (λ _. none) (λ k.
      by_less P (length s - a) n nowhere (cond (ltb (length s - (a + n)) 2) nowhere (parameters_at s p a n q m)) (λ _. none) (λ j.
      by_less P (length s - (a + n)) 2 nowhere (parameters_at s p a n q m) (λ _. none) (λ i.
      by_less P (length s - q) m nowhere (with_parts p a n q m) (λ _. none) (λ l.
      whole a n q m refl refl refl refl (omega arith)))))

  pub by-spot : (at : ℕ)
      → ((n : ℕ) → n ≡ get_or s (at + name_length_at) 0 → at + head_size + n ≤ length s → P (named_at s at n))
      → ((n : ℕ) → n ≡ get_or s (at + name_length_at) 0 → at + head_size + n ≤ length s → P (full_at c s (named_at s at n)))
      → at ≤ length s → P (spot_of c s at)
  unfolding spot_of
  by-spot at named full h =
      let n : ℕ = get_or s (at + name_length_at) 0 in
      let mode : ℕ = get_or s (at + mode_at) 0 in
      let p : Spot = named_at s at n in
      by_less P (length s - at) head_size nowhere (cond (ltb (length s - at - head_size) n) nowhere (by_mode c s mode p)) (λ _. none) (λ k.
      by_less P (length s - at - head_size) n nowhere (by_mode c s mode p) (λ _. none) (λ j.
      by_equal P mode 0 p (cond (eqb mode 1) (full_at c s p) nowhere) (λ _. named n refl (omega arith)) (λ _.
      by_equal P mode 1 (full_at c s p) nowhere (λ _. full n refl (omega arith)) (λ _. none))))

-- ---- the parts lie within the sheet

nowhere-inside : (n at : ℕ) → Inside n at nowhere
nowhere-inside n at =
    record { name = omega arith; addresses = omega arith; parameters = omega arith; next = omega arith; further = λ e. absurd (false≢true e) }

pub spot-inside : (c : Carrier) (s : List ℕ) (at : ℕ) → at ≤ length s → Inside (length s) at (spot_of c s at)
spot-inside c s at h =
    let P : Spot → Type 0 = Inside (length s) at in
    let none : P nowhere = nowhere-inside (length s) at in
    by-spot P none c s at
    (λ n e k. record { name = k; addresses = omega arith; parameters = omega arith; next = k; further = λ _. omega arith })
    (λ n e k. by-full P none c s (named_at s at n)
    (λ a b q m i j f g l. record { name = k; addresses = omega arith; parameters = l; next = l; further = λ _. omega arith }) k)
    h

-- the fields are as long as they are said to be
part_length : (s : List ℕ) (a n : ℕ) → a + n ≤ length s → length (take n (drop a s)) ≡ n
part_length s a n h = length-take-le n (drop a s) (rw (length-drop a s) (omega arith))

module _ (s : List ℕ) (p : Spot) {at : ℕ} (i : Inside (length s) at p) where
  pub name-length : length (fields_at s p).name ≡ p.nlen
  name-length = part_length s p.name p.nlen i.name

  pub addresses-length : length (fields_at s p).addresses ≡ p.alen
  addresses-length = part_length s p.addresses p.alen i.addresses

  pub parameters-length : length (fields_at s p).parameters ≡ p.plen
  parameters-length = part_length s p.parameters p.plen i.parameters

-- ---- a record's name stands after its head, and what follows the record after its octets

-- octets of the record, by the lengths of its fields
abbrev size_at : Spot → ℕ
size_at p = head_size + p.nlen + cond p.full (tail_size + p.alen + p.plen) 0

record Placed (at : ℕ) (p : Spot) : Type 0 where
  name : p.name ≡ at + head_size
  next : p.next ≡ at + size_at p

spot-placed : (c : Carrier) (s : List ℕ) (at : ℕ) → at ≤ length s → (spot_of c s at).good ≡ true → Placed at (spot_of c s at)
spot-placed c s at h =
    let P : Spot → Type 0 = λ p. p.good ≡ true → Placed at p in
    let none : P nowhere = λ g. absurd (false≢true g) in
    by-spot P none c s at
    (λ n e k _. record { name = refl; next = omega arith })
    (λ n e k. by-full P none c s (named_at s at n) (λ a b q m i j f g l _. record { name = refl; next = omega arith }) k)
    h

module _ (c : Carrier) (s : List ℕ) (at : ℕ) {p : Spot} (e : p ≡ spot_of c s at) (h : at ≤ length s) (good : p.good ≡ true) where
  placed : Placed at p
  placed = subst⁻¹ (Placed at) e (spot-placed c s at h (ap (λ (p : Spot). p.good) (sym e) ∙ good))

  pub spot-name : p.name ≡ at + head_size
  spot-name = placed.name

  pub spot-next : p.next ≡ at + length (record_of c (fields_at s p))
  spot-next =
      let i : Inside (length s) at p = subst⁻¹ (Inside (length s) at) e (spot-inside c s at h) in
      let size : length (record_of c (fields_at s p)) ≡ size_at p =
      length-record c (fields_at s p) ∙ rw (name-length s p i, addresses-length s p i, parameters-length s p i) in
      placed.next ∙ ap (λ (n : ℕ). at + n) (sym size)

-- ---- the numbers are of their widths

module _ (s : List ℕ) (bytes : Bytes s) where
  at16-small : (i : ℕ) → at16 s i < 65536
  at16-small i = omega (arith, bytes-get_or s i bytes, bytes-get_or s (i + 1) bytes)

  at32-small : (i : ℕ) → at32 s i < 4294967296
  at32-small i = omega (arith, at16-small i, at16-small (i + 2))

  pub spot-sized : (c : Carrier) (at : ℕ) → at ≤ length s → Sized (spot_of c s at)
  spot-sized c at h =
      let none : Sized nowhere = record { priority = omega arith; lifetime = omega arith; nlen = omega arith; alen = omega arith; plen = omega arith } in
      by-spot Sized none c s at
      (λ n e k.
      record {
        priority = at16-small at;
        lifetime = at32-small (at + lifetime_at);
        nlen = rw e (bytes-get_or s (at + name_length_at) bytes);
        alen = omega arith;
        plen = omega arith;
      })
      (λ n e k. by-full Sized none c s (named_at s at n)
      (λ a b q m i j f g l.
      let x : get_or s (at + head_size + n) 0 ≤ 255 = omega (arith, bytes-get_or s (at + head_size + n) bytes) in
      record {
        priority = at16-small at;
        lifetime = at32-small (at + lifetime_at);
        nlen = rw e (bytes-get_or s (at + name_length_at) bytes);
        alen = rw j (mul-le-mul x (address-width c).1);
        plen = rw g (at16-small (a + b));
      }) k)
      h

-- ---- the tests of `full_at`

module _ (c : Carrier) (s : List ℕ) (p : Spot) {r : Spot} where
  pub full-1 : length s - p.next < 1 → r ≡ nowhere → r ≡ full_at c s p
  unfolding full_at
  full-1 h e = rw (lt-ltb _ _ h) e

  module _ (h : 1 ≤ length s - p.next) {x w : ℕ} (ex : x ≡ get_or s p.next 0) (ew : w ≡ address_width c) where
    pub full-2 : length s - (p.next + 1) < x * w → r ≡ nowhere → r ≡ full_at c s p
    unfolding full_at
    full-2 k e = rw (le-ltb _ _ h, lt-ltb _ _ (rw (ex, ew) at k)) e

    module _ (k : x * w ≤ length s - (p.next + 1)) where
      pub full-3 : length s - (p.next + 1 + x * w) < 2 → r ≡ nowhere → r ≡ full_at c s p
      unfolding full_at
      full-3 j e = rw (le-ltb _ _ h, le-ltb _ _ (rw (ex, ew) at k), lt-ltb _ _ (rw (ex, ew) at j)) e

      module _ (j : 2 ≤ length s - (p.next + 1 + x * w)) {m : ℕ} (em : m ≡ at16 s (p.next + 1 + x * w)) where
        pub full-4 : length s - (p.next + 1 + x * w + 2) < m → r ≡ nowhere → r ≡ full_at c s p
        unfolding full_at
        full-4 l e = rw (le-ltb _ _ h, le-ltb _ _ (rw (ex, ew) at k), le-ltb _ _ (rw (ex, ew) at j), lt-ltb _ _ (rw (em, ex, ew) at l)) e

        pub full-5 : m ≤ length s - (p.next + 1 + x * w + 2) → r ≡ with_parts p (p.next + 1) (x * w) (p.next + 1 + x * w + 2) m → r ≡ full_at c s p
        unfolding full_at
        full-5 l e =
            rw (le-ltb _ _ h, le-ltb _ _ (rw (ex, ew) at k), le-ltb _ _ (rw (ex, ew) at j), le-ltb _ _ (rw (em, ex, ew) at l)) (rw (em, ex, ew) at e)

-- ---- the first tests of `spot_of`

module _ (c : Carrier) (s : List ℕ) (at : ℕ) {r : Spot} where
  pub spot-1 : length s - at < head_size → r ≡ nowhere → r ≡ spot_of c s at
  unfolding spot_of
  spot-1 h e = rw (lt-ltb _ _ h) e

  module _ (h : head_size ≤ length s - at) {n : ℕ} (en : n ≡ get_or s (at + name_length_at) 0) where
    pub spot-2 : length s - at - head_size < n → r ≡ nowhere → r ≡ spot_of c s at
    unfolding spot_of
    spot-2 k e = rw (le-ltb _ _ h, lt-ltb _ _ (rw en at k)) e
