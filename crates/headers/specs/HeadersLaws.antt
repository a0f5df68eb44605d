-- The laws of values made options: how many octets these have, that an option can say them, and what each outcome leaves. Assumes nothing.
use Rattle.std.specs.Prelude.{◌≡◌, Bool, true, false, cond, List, ◌∷◌, ◌++◌, ℕ, zero, suc, ◌+◌, ◌-◌, ◌%◌, ◌≤◌, ◌<◌, ltb, eqb, take, drop, Ok, Err}
use Rattle.std.proofs.Math.Path.{refl, ap}
use Rattle.std.proofs.Common.{sym, ◌∙◌, subst, true≢false, append_assoc, append-nil, arith, length-append, length-take, length-drop, take-append-drop, take_at, drop_at, length-take-le}
use Rattle.std.proofs.Math.ListN.{length}
use Rattle.std.proofs.lemmas.List.{length-replicate}
use borrow.Author.Tests.{ltb-false, eqb-true, eqb-false, lt-ltb, le-ltb, eq-eqb, ne_eqb}
use Rattle.octets.specs.Numbers.{zeros}
use Rattle.octets.specs.Over.{over, Wrote}
use Rattle.octets.specs.OverLaws.{then, over-length, over-behind}
use Rattle.numbers.specs.Limit as limit
use Rattle.carriers.specs.declared.Carrier.{Carrier}
use Rattle.carriers.specs.declared.Carrier.TheVariants.{Dhcp4, Dhcp6, Router, Ike4, Ike6}
use Rattle.carriers.specs.declared.Facts.{Facts}
use Rattle.carriers.specs.Carriers.{facts_of, header_of, in_eights, is_joined}
use Rattle.carriers.proofs.CarriersLaws.{headed}
use Rattle.frames.specs.Emit.{head_of, option_of, Fits}
use Rattle.frames.proofs.EmitLaws.{option-length}
use Rattle.pieces.specs.Pieces.{cut_of, cut_octets}
use Rattle.pieces.specs.PiecesLaws.{cut-length}
use Rattle.inputs.specs.Why as why
use Rattle.inputs.specs.Read.{Read, Octets, Bad, Long}
use Rattle.headers.specs.declared.Misfit.TheVariants.{NoRoom, Large}
use Rattle.headers.specs.Headers.{gap_of, padded_of, headed_of, size_of, most_of, Placed, Put, put, put_of, Puts, told, add_of}
use Rattle.headers.specs.Headers.{options_in, Held}

-- ---- by the carrier's row

pub header-few : (c : Carrier) → header_of c ≤ 4
header-few c = omega (arith, (headed c).few)

pub most-few : (c : Carrier) → most_of c ≤ 65535
most-few c = go (in_eights c)
  where
    go : (b : Bool) → cond b (limit.option - header_of c) 65535 ≤ 65535
    go true = omega arith
    go false = omega arith

pub gap-few : (c : Carrier) (n : ℕ) → gap_of c n < 8
gap-few c n = go (in_eights c)
  where
    go : (b : Bool) → cond b ((8 - (header_of c + n) % 8) % 8) 0 < 8
    go true = omega arith
    go false = omega arith

module _ (c : Carrier) {f : Facts} (row : f ≡ facts_of c) where
  in-eights : {b : Bool} → f.eights ≡ b → in_eights c ≡ b
  in-eights e = sym (ap (λ (f : Facts). f.eights) row) ∙ e

  pub is-joined : {b : Bool} → f.joined ≡ b → is_joined c ≡ b
  is-joined e = sym (ap (λ (f : Facts). f.joined) row) ∙ e

  pub most-eights : {h : ℕ} → h ≡ header_of c → f.eights ≡ true → limit.option - h ≡ most_of c
  most-eights q e = ap (λ (h : ℕ). limit.option - h) q ∙ sym (ap (λ (b : Bool). cond b (limit.option - header_of c) 65535) (in-eights e))

  pub most-octets : f.eights ≡ false → 65535 ≡ most_of c
  most-octets e = sym (ap (λ (b : Bool). cond b (limit.option - header_of c) 65535) (in-eights e))

  module _ (n : ℕ) where
    pub gap-eights : {h : ℕ} → h ≡ header_of c → f.eights ≡ true → ((8 - (h + n) % 8) % 8 ≡ gap_of c n) × ((8 - (h + n) % 8) % 8 < 8)
    gap-eights q e =
        (ap (λ (h : ℕ). (8 - (h + n) % 8) % 8) q ∙ sym (ap (λ (b : Bool). cond b ((8 - (header_of c + n) % 8) % 8) 0) (in-eights e)), omega arith)

    pub gap-octets : f.eights ≡ false → (0 ≡ gap_of c n) × (0 < 8)
    gap-octets e = (sym (ap (λ (b : Bool). cond b ((8 - (header_of c + n) % 8) % 8) 0) (in-eights e)), omega arith)

    pub size-cut : f.joined ≡ true → cut_octets n ≡ size_of c n
    size-cut e = sym (ap (λ (b : Bool). cond b (cut_octets n) (header_of c + (n + gap_of c n))) (is-joined e))

    pub size-option : {h g : ℕ} → h ≡ header_of c → g ≡ gap_of c n → f.joined ≡ false → h + (n + g) ≡ size_of c n
    size-option {h} {g} q p e =
        ap (λ (h : ℕ). h + (n + g)) q ∙ ap (λ (g : ℕ). header_of c + (n + g)) p
        ∙ sym (ap (λ (b : Bool). cond b (cut_octets n) (header_of c + (n + gap_of c n))) (is-joined e))

  pub headed-cut : (v : List ℕ) → f.joined ≡ true → headed_of c v ≡ cut_of v
  headed-cut v e = ap (λ (b : Bool). cond b (cut_of v) (option_of c (padded_of c v))) (is-joined e)

  pub headed-option : (v : List ℕ) → f.joined ≡ false → headed_of c v ≡ option_of c (padded_of c v)
  headed-option v e = ap (λ (b : Bool). cond b (cut_of v) (option_of c (padded_of c v))) (is-joined e)

-- ---- octets

pub padded-length : (c : Carrier) (v : List ℕ) → length (padded_of c v) ≡ length v + gap_of c (length v)
padded-length c v = simp (length-append, length-replicate)

pub headed-length : (c : Carrier) (v : List ℕ) → length (headed_of c v) ≡ size_of c (length v)
headed-length c v = go (is_joined c)
  where
    go : (b : Bool) → length (cond b (cut_of v) (option_of c (padded_of c v))) ≡ cond b (cut_octets (length v)) (header_of c + (length v + gap_of c (length v)))
    go true = cut-length v
    go false = option-length c (padded_of c v) ∙ ap (λ (n : ℕ). header_of c + n) (padded-length c v)

-- ---- one option

-- a length can say every value that is not too large
pub padded-fits : (c : Carrier) (v : List ℕ) → is_joined c ≡ false → length v ≤ most_of c → Fits c (padded_of c v)
padded-fits Dhcp4 v j h = absurd (true≢false j)
padded-fits Dhcp6 v j h = omega (arith, padded-length Dhcp6 v)
padded-fits Router v j h = (omega (arith, padded-length Router v), omega (arith, padded-length Router v))
padded-fits Ike4 v j h = omega (arith, padded-length Ike4 v)
padded-fits Ike6 v j h = omega (arith, padded-length Ike6 v)

-- the first of some zeros are zeros
pub take-zeros : (n m : ℕ) → n ≤ m → take n (zeros m) ≡ zeros n
take-zeros zero m h = refl
take-zeros (suc n) zero h = absurd (omega arith)
take-zeros (suc n) (suc m) h = ap (λ (l : List ℕ). 0 ∷ l) (take-zeros n m (omega arith))

-- header, value and zeros are the option
pub option-wrote : (c : Carrier) (v : List ℕ) {g i j r : ℕ} {l l₁ l₂ l₃ : List ℕ} → g ≡ gap_of c (length v) → Wrote 0 (head_of c (length v + g)) l i l₁
    → Wrote i v l₁ j l₂ → Wrote j (zeros g) l₂ r l₃ → Wrote 0 (option_of c (padded_of c v)) l r l₃
option-wrote c v {g} {i} {j} {r} {l} {l₁} {l₂} {l₃} e x y z =
    let size : length v + g ≡ length (padded_of c v) = ap (λ (g : ℕ). length v + g) e ∙ sym (padded-length c v) in
    subst (λ (n : ℕ). Wrote 0 (head_of c n ++ padded_of c v) l r l₃) size
    (subst (λ (m : ℕ). Wrote 0 (head_of c (length v + g) ++ (v ++ zeros m)) l r l₃) e (then x (then y z)))

-- ---- options cut

-- what is laid over the front leaves nothing of what stood there
front-hides : (a l m : List ℕ) → drop (0 + length a) m ≡ drop (0 + length a) l → over 0 a m ≡ over 0 a l
unfolding over
front-hides a l m q = ap (λ (x : List ℕ). a ++ x) q

-- octets laid over the front cover those that were laid behind them, and these stand where they were laid
over-covers : (k : ℕ) (a b l : List ℕ) → k + length b ≡ length a → k + length b ≤ length l → over 0 a (over k b l) ≡ over 0 a l
over-covers k a b l e h = front-hides a l (over k b l) (over-behind k (0 + length a) b l h (omega arith))

over-there : (k : ℕ) (b l : List ℕ) → k + length b ≤ length l → take (length b) (drop k (over k b l)) ≡ b
unfolding over
over-there k b l h =
    let rest : List ℕ = drop (k + length b) l in
    ap (λ (x : List ℕ). take (length b) (drop k x)) (append_assoc (take k l) b rest)
    ∙ ap (take (length b)) (drop_at (take k l) (b ++ rest) k (length-take-le k l (omega arith)))
    ∙ take_at b rest (length b) refl

-- a value that was copied to where its options end, and cut there
pub cut-wrote : (v : List ℕ) {k o r : ℕ} {l l₁ l₂ : List ℕ} → k + length v ≡ cut_octets (length v) → Wrote k v l o l₁
    → Wrote 0 (cut_of (take (length v) (drop k l₁))) l₁ r l₂ → Wrote 0 (cut_of v) l r l₂
cut-wrote v {k} {o} {r} {l} {l₁} {l₂} e w x =
    let there : take (length v) (drop k l₁) ≡ v = ap (λ (m : List ℕ). take (length v) (drop k m)) w.laid ∙ over-there k v l w.room in
    let y : Wrote 0 (cut_of v) l₁ r l₂ = subst (λ (m : List ℕ). Wrote 0 (cut_of m) l₁ r l₂) there x in
    let long : k + length v ≡ length (cut_of v) = e ∙ sym (cut-length v) in
    record {
      room = omega (arith, w.room, long);
      next = y.next;
      laid = y.laid ∙ ap (over 0 (cut_of v)) w.laid ∙ over-covers k (cut_of v) v l long w.room;
    }

-- ---- the outcomes

module _ (out : List ℕ) (c : Carrier) (v : List ℕ) where
  pub put-none : length v ≡ 0 → Puts (put_of out c v) (Ok 0) out
  unfolding put_of
  put-none e = rw (eq-eqb (length v) 0 e) (record { answered = refl; leaves = refl })

  module _ (some : length v ≡ 0 → ⊥) where
    pub put-large : most_of c < length v → Puts (put_of out c v) (Err Large) out
    unfolding put_of
    put-large h = rw (ne_eqb (length v) 0 some, lt-ltb (most_of c) (length v) h) (record { answered = refl; leaves = refl })

    module _ (small : length v ≤ most_of c) {n : ℕ} (size : n ≡ size_of c (length v)) where
      pub put-short : length out < n → Puts (put_of out c v) (Err NoRoom) out
      unfolding put_of
      put-short h =
          let short : length out < length (headed_of c v) = omega (arith, headed-length c v) in
          rw (ne_eqb (length v) 0 some, le-ltb (most_of c) (length v) small, lt-ltb (length out) (length (headed_of c v)) short)
          (record { answered = refl; leaves = refl })

      pub put-laid : {r : ℕ} {out' : List ℕ} → Wrote 0 (headed_of c v) out r out' → Puts (put_of out c v) (Ok r) out'
      unfolding put_of
      put-laid w =
          rw (ne_eqb (length v) 0 some, le-ltb (most_of c) (length v) small, le-ltb (length out) (length (headed_of c v)) (omega (arith, w.room)))
          (record { answered = ap Ok (omega (arith, w.next)); leaves = w.laid })

-- what holds of every outcome: the buffer is as it was, or has room for the options, which are laid over its front
by-outcome : (P : Placed → List ℕ → Type 0) (out : List ℕ) (c : Carrier) (v : List ℕ) → (length v ≡ 0 → P (Ok 0) out) → P (Err Large) out → P (Err NoRoom) out
    → ((length v ≡ 0 → ⊥) → length v ≤ most_of c → length (headed_of c v) ≤ length out → P (Ok (length (headed_of c v))) (over 0 (headed_of c v) out))
    → P (put_of out c v).placed (put_of out c v).out
unfolding put_of
by-outcome P out c v none large short laid =
    go (eqb (length v) 0) refl (ltb (most_of c) (length v)) refl (ltb (length out) (length (headed_of c v))) refl
  where
    answer : Bool → Bool → Bool → Put
    answer x y z =
        cond x (put (Ok 0) out)
        (cond y (put (Err Large) out)
        (cond z (put (Err NoRoom) out) (put (Ok (length (headed_of c v))) (over 0 (headed_of c v) out))))

    go : (x : Bool) → eqb (length v) 0 ≡ x → (y : Bool) → ltb (most_of c) (length v) ≡ y → (z : Bool) → ltb (length out) (length (headed_of c v)) ≡ z
        → P (answer x y z).placed (answer x y z).out
    go true p y q z e = none (eqb-true (length v) 0 p)
    go false p true q z e = large
    go false p false q true e = short
    go false p false q false e =
        laid (eqb-false (length v) 0 p) (ltb-false (most_of c) (length v) q) (ltb-false (length out) (length (headed_of c v)) e)

-- the options that were laid have no more octets than the buffer, which keeps its length
abbrev Within : ℕ → Placed → Type 0
Within m (Ok k) = k ≤ m
Within m (Err NoRoom) = Unit {0}
Within m (Err Large) = Unit {0}

put-within : (out : List ℕ) (c : Carrier) (v : List ℕ) → Within (length out) (put_of out c v).placed
put-within out c v = by-outcome (λ p l. Within (length out) p) out c v (λ e. omega arith) tt tt (λ s m h. h)

pub put-length : (out : List ℕ) (c : Carrier) (v : List ℕ) → length (put_of out c v).out ≡ length out
put-length out c v = by-outcome (λ p l. length l ≡ length out) out c v (λ e. refl) refl refl (λ s m h. over-length 0 (headed_of c v) out (omega arith))

-- ---- a value added

-- there is room for what was added
pub add-room : (out : List ℕ) (n : ℕ) (c : Carrier) (v : List ℕ) {p : Placed} {k : ℕ} {m : List ℕ} → n ≤ length out
    → Puts (put_of (take (length out - n) (drop n out)) c v) p m → p ≡ Ok k → n + k ≤ length out
add-room out n c v {p} {k} {m} h w e =
    let rest : List ℕ = take (length out - n) (drop n out) in
    let f : length rest ≤ length out - n = simp (length-take, length-drop) (omega arith) in
    let q : Within (length rest) (Ok k) = subst (Within (length rest)) (sym w.answered ∙ e) (put-within rest c v) in
    omega (arith, q)

pub add-length : (out : List ℕ) (n : ℕ) (c : Carrier) (v : List ℕ) → length (add_of out n c v).out ≡ length out
add-length out n c v =
    length-append (take n out) (put_of (drop n out) c v).out ∙ ap (λ (k : ℕ). length (take n out) + k) (put-length (drop n out) c v)
    ∙ sym (length-append (take n out) (drop n out)) ∙ ap length (take-append-drop n out)

-- an answer is sound for a buffer of m octets and a text of k characters: its octets are within the one, its place within the other
abbrev pub Sound : ℕ → ℕ → Read → Type 0
Sound m k (Octets n) = n ≤ m
Sound m k (Bad at w) = at ≤ k
Sound m k Long = Unit {0}

pub add-sound : (k : ℕ) (out : List ℕ) (n : ℕ) (c : Carrier) (v : List ℕ) → n ≤ length out → Sound (length out) k (add_of out n c v).read
add-sound k out n c v h = go (put_of (drop n out) c v).placed (put-within (drop n out) c v)
  where
    go : (p : Placed) → Within (length (drop n out)) p → Sound (length out) k (told n p)
    go (Ok m) q = omega (arith, length-drop n out)
    go (Err NoRoom) q = tt
    go (Err Large) q = omega arith

front-taken : (a b l : List ℕ) (m : ℕ) → m ≡ length a + length b → take m (a ++ over 0 b l) ≡ a ++ b
unfolding over
front-taken a b l m e =
    let rest : List ℕ = drop (0 + length b) l in
    ap (take m) (sym (append_assoc a b rest)) ∙ take_at (a ++ b) rest m (length-append a b ∙ sym e)

-- what was added stands behind what stood before it
pub record Lays (c : Carrier) (v before after : List ℕ) : Type 0 where
  pub are : after ≡ before ++ options_in c v
  pub held : (length v ≡ 0 → ⊥) → Held c v

pub add-lays : (out : List ℕ) (n : ℕ) (c : Carrier) (v : List ℕ) {m : ℕ} → n ≤ length out → (add_of out n c v).read ≡ Octets m
    → Lays c v (take n out) (take m (add_of out n c v).out)
add-lays out n c v {m} h = by-outcome (λ p l. told n p ≡ Octets m → Lays c v (take n out) (take m (take n out ++ l))) (drop n out) c v none large short laid
  where
    size : length (take n out) ≡ n
    size = length-take-le n out h

    none : length v ≡ 0 → Octets (n + 0) ≡ Octets m → Lays c v (take n out) (take m (take n out ++ drop n out))
    none z e =
        let k : n ≡ m = let q : n + 0 ≡ m = cc in omega arith in
        record {
          are = take_at (take n out) (drop n out) m (size ∙ k) ∙ rw (eq-eqb (length v) 0 z) (sym (append-nil (take n out)));
          held = λ s. absurd (s z);
        }

    large : Bad 0 why.value ≡ Octets m → Lays c v (take n out) (take m (take n out ++ drop n out))
    large e = let z : ◌≡◌ {A = ℕ} 0 1 = cc in absurd (omega arith)

    short : Long ≡ Octets m → Lays c v (take n out) (take m (take n out ++ drop n out))
    short e = let z : ◌≡◌ {A = ℕ} 0 1 = cc in absurd (omega arith)

    laid : (length v ≡ 0 → ⊥) → length v ≤ most_of c → length (headed_of c v) ≤ length (drop n out) → Octets (n + length (headed_of c v)) ≡ Octets m
        → Lays c v (take n out) (take m (take n out ++ over 0 (headed_of c v) (drop n out)))
    laid s l r e =
        let k : m ≡ length (take n out) + length (headed_of c v) = let q : n + length (headed_of c v) ≡ m = cc in omega (arith, size) in
        record {
          are = front-taken (take n out) (headed_of c v) (drop n out) m k ∙ rw (ne_eqb (length v) 0 s) refl;
          held = λ _. (omega (arith, s), l);
        }
