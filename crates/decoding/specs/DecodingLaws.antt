-- The laws of inputs: what each outcome answers and leaves, and the lines of a text one after another. Assumes nothing.
use Rattle.std.specs.Prelude.{◌≡◌, refl, Bool, true, false, cond, List, [], ◌∷◌, ℕ, suc, ◌+◌, ◌-◌, ◌≤◌, ◌<◌, eqb, length, take, drop}
use Rattle.std.proofs.Common.{sym, ◌∙◌, subst, arith, length-take, length-drop, drop_of_length-le, drop-drop}
use Rattle.std.proofs.Math.Path.{ap}
use borrow.Author.Tests.{lt-ltb, le-ltb}
use Rattle.octets.specs.Over.{Wrote}
use Rattle.carriers.specs.declared.Carrier.{Carrier}
use Rattle.inputs.specs.Why as why
use Rattle.inputs.specs.declared.Unread.{Unread}
use Rattle.inputs.specs.declared.Unread.TheVariants as unread
use Rattle.inputs.specs.Read.{Read, Octets, Bad, Long, unread_in, place_in, back}
use Rattle.forms.specs.Places.{blank, place_of, begin_of}
use Rattle.forms.specs.Forms.{list_of}
use Rattle.decoding.specs.Bounds.{list-within}
use Rattle.headers.specs.HeadersLaws.{Sound, add-sound}
use Rattle.decoding.specs.Decoding.{Answer, Answered, answer, raw_of, read_of, room, added_of, listed_of, at_value, line_of, onto, lines_in}
use Rattle.decoding.specs.Decoding.{after_line, lines_from, lines_of, is_lines, values_of}

-- ---- octets

module _ (s out : List ℕ) where
  pub raw-long : length out < length s → Answered (raw_of s out) Long out
  raw-long h = rw (lt-ltb (length out) (length s) h) (record { answered = refl; leaves = refl })

  pub raw-taken : {r : ℕ} {out' : List ℕ} → length s ≤ length out → Wrote 0 s out r out' → Answered (raw_of s out) (Octets r) out'
  raw-taken h w = rw (le-ltb (length out) (length s) h) (record { answered = ap Octets (omega (arith, w.next)); leaves = w.laid })

-- ---- a value

module _ (c : Carrier) (value out : List ℕ) (n : ℕ) where
  -- by what was read, and how the buffer was left
  pub added-by : {a : Answer} {p r : Read} {out' : List ℕ} → Answered a p value → Answered (added_of c p value out n) r out'
      → Answered (added_of c a.read a.out out n) r out'
  added-by {a} {p} {r} {out'} w u =
      subst (λ (v : List ℕ). Answered (added_of c a.read v out n) r out') w.leaves
      (subst (λ (q : Read). Answered (added_of c q value out n) r out') w.answered u)

-- ---- a line

-- its first character that is no blank stands in it, or there is none
begin-within : (i : ℕ) (l : List ℕ) → begin_of i l ≤ i + length l
unfolding begin_of
begin-within i [] = omega arith
begin-within i (x ∷ xs) = go (blank x) (begin-within (i + 1) xs)
  where
    go : (b : Bool) → begin_of (i + 1) xs ≤ i + 1 + length xs → cond b (begin_of (i + 1) xs) i ≤ i + suc (length xs)
    go true h = omega arith
    go false h = omega arith

pub value-octets : (line : List ℕ) (r : Read) {m : ℕ} → at_value line r ≡ Octets m → r ≡ Octets m
value-octets line (Octets k) e = e
value-octets line (Bad at w) e = let z : ◌≡◌ {A = ℕ} 0 1 = cc in absurd (omega arith)
value-octets line Long e = e

module _ (c : Carrier) (line out : List ℕ) (n : ℕ) where
  pub line-told : {value : List ℕ} {p q r : Read} {out' : List ℕ} → Answered (list_of line room) p value → Answered (added_of c p value out n) q out'
      → r ≡ at_value line q → Answered (line_of c line out n) r out'
  unfolding line_of
  line-told {value} w u e =
      let a : Answered (listed_of c line out n) _ _ = added-by c value out n w u in
      record { answered = e ∙ ap (at_value line) a.answered; leaves = a.leaves }

  listed-sound : n ≤ length out → Sound (length out) (length line) (listed_of c line out n).read
  listed-sound h = go (list_of line room).read refl
    where
      go : (p : Read) → (list_of line room).read ≡ p → Sound (length out) (length line) (added_of c p (list_of line room).out out n).read
      go (Octets k) e = add-sound (length line) out n c (take k (list_of line room).out) h
      go (Bad at w) e = list-within line room e
      go Long e = tt

  pub line-sound : n ≤ length out → Sound (length out) (length line) (line_of c line out n).read
  unfolding line_of
  line-sound h = go (listed_of c line out n).read (listed-sound h)
    where
      go : (r : Read) → Sound (length out) (length line) r → Sound (length out) (length line) (at_value line r)
      go (Octets m) s = s
      go (Bad at w) s = omega (arith, begin-within 0 line)
      go Long s = tt

-- ---- the lines of a text

-- where a character is first, counted from i on
place-from : (x i : ℕ) (l : List ℕ) → place_of x i l ≡ i + place_of x 0 l
unfolding place_of
place-from x i [] = omega arith
place-from x i (y ∷ ys) = go (eqb y x) (place-from x (i + 1) ys) (place-from x 1 ys)
  where
    go : (b : Bool) → place_of x (i + 1) ys ≡ i + 1 + place_of x 0 ys → place_of x 1 ys ≡ 1 + place_of x 0 ys
        → cond b i (place_of x (i + 1) ys) ≡ i + cond b 0 (place_of x 1 ys)
    go true p q = omega arith
    go false p q = omega arith

place-break : (x : ℕ) (xs : List ℕ) → eqb x 10 ≡ true → place_of 10 0 (x ∷ xs) ≡ 0
unfolding place_of
place-break x xs e = rw e

place_after : (x : ℕ) (xs : List ℕ) → eqb x 10 ≡ false → place_of 10 0 (x ∷ xs) ≡ suc (place_of 10 0 xs)
unfolding place_of
place_after x xs e = rw e (place-from 10 1 xs ∙ omega arith)

lines-break : (x : ℕ) (xs : List ℕ) → eqb x 10 ≡ true → lines_in (x ∷ xs) ≡ [] ∷ lines_in xs
unfolding lines_in
lines-break x xs e = rw e

lines_after : (x : ℕ) (xs : List ℕ) → eqb x 10 ≡ false → lines_in (x ∷ xs) ≡ onto x (lines_in xs)
unfolding lines_in
lines_after x xs e = rw e

-- the first line, and those after its break
abbrev cut_at : ℕ → List ℕ → List (List ℕ)
cut_at k l = take k l ∷ lines_in (drop (suc k) l)

onto-cut : (x : ℕ) (xs : List ℕ) → (0 < length xs → lines_in xs ≡ cut_at (place_of 10 0 xs) xs) → onto x (lines_in xs) ≡ cut_at (suc (place_of 10 0 xs)) (x ∷ xs)
unfolding lines_in place_of
onto-cut x [] h = refl
onto-cut x (y ∷ ys) h = ap (onto x) (h (omega arith))

lines_cut : (l : List ℕ) → 0 < length l → lines_in l ≡ cut_at (place_of 10 0 l) l
lines_cut [] h = absurd (omega arith)
lines_cut (x ∷ xs) h = go (eqb x 10) refl (lines_cut xs)
  where
    go : (b : Bool) → eqb x 10 ≡ b → (0 < length xs → lines_in xs ≡ cut_at (place_of 10 0 xs) xs) → lines_in (x ∷ xs) ≡ cut_at (place_of 10 0 (x ∷ xs)) (x ∷ xs)
    go true e q = lines-break x xs e ∙ sym (ap (λ (k : ℕ). cut_at k (x ∷ xs)) (place-break x xs e))
    go false e q = lines_after x xs e ∙ onto-cut x xs q ∙ sym (ap (λ (k : ℕ). cut_at k (x ∷ xs)) (place_after x xs e))

lines_none : lines_in [] ≡ []
unfolding lines_in
lines_none = refl

-- ---- the loop over lines

from-none : (c : Carrier) (i n : ℕ) (out : List ℕ) → lines_from c i n out [] ≡ answer (Octets n) out
unfolding lines_from
from-none c i n out = refl

from-line : (c : Carrier) (i n : ℕ) (out l : List ℕ) (ls : List (List ℕ)) → lines_from c i n out (l ∷ ls)
    ≡ after_line i (line_of c l out n).read (line_of c l out n).out (λ m out'. lines_from c (i + (length l + 1)) m out' ls)
unfolding lines_from
from-line c i n out l ls = refl

-- the lines from the i-th character on are left, with n octets of options so far
pub record Lining (c : Carrier) (text out₀ : List ℕ) (n i : ℕ) (out : List ℕ) : Type 0 where
  pub few : n ≤ length out
  pub left : lines_from c i n out (lines_in (drop i text)) ≡ lines_of c text out₀
  pub size : length out ≡ length out₀

pub lining-start : (c : Carrier) (text out : List ℕ) → Lining c text out 0 0 out
lining-start c text out = record { few = omega arith; left = refl; size = refl }

module _ {c : Carrier} {text out₀ : List ℕ} {n i : ℕ} {out : List ℕ} (w : Lining c text out₀ n i out) where
  pub lining-done : length text ≤ i → Answered (lines_of c text out₀) (Octets n) out
  lining-done h =
      let none : lines_in (drop i text) ≡ [] = ap lines_in (drop_of_length-le text {i = i} h) ∙ lines_none in
      let e : answer (Octets n) out ≡ lines_of c text out₀ = sym (ap (lines_from c i n out) none ∙ from-none c i n out) ∙ w.left in
      subst (λ (a : Answer). Answered a (Octets n) out) e (record { answered = refl; leaves = refl })

  module _ {end : ℕ} (more : i < length text) (stands : (end ≡ place_of 10 i (drop i text)) × (i ≤ end) × (end ≤ length text)) where
    abbrev line : List ℕ
    line = take (end - i) (drop i text)

    line-length : length line ≡ end - i
    line-length = simp (length-take, length-drop) (omega arith)

    next-lines : lines_in (drop i text) ≡ line ∷ lines_in (drop (end + 1) text)
    next-lines =
        let k : place_of 10 0 (drop i text) ≡ end - i = omega (arith, place-from 10 i (drop i text), stands.0) in
        let some : 0 < length (drop i text) = rw (length-drop i text) (omega arith) in
        let past : i + suc (end - i) ≡ end + 1 = omega arith in
        lines_cut (drop i text) some ∙ ap (λ (k : ℕ). cut_at k (drop i text)) k
        ∙ ap (λ (l : List ℕ). line ∷ lines_in l) (drop-drop (suc (end - i)) i text ∙ ap (λ (m : ℕ). drop m text) past)

    turn : (r : Read) (out' : List ℕ) → Answered (line_of c line out n) r out'
        → after_line i r out' (λ m l. lines_from c (end + 1) m l (lines_in (drop (end + 1) text))) ≡ lines_of c text out₀
    turn r out' a =
        let ls : List (List ℕ) = lines_in (drop (end + 1) text) in
        let past : i + (length line + 1) ≡ end + 1 = omega (arith, line-length) in
        ap (λ (r : Read). after_line i r out' (λ m l. lines_from c (end + 1) m l ls)) a.answered
        ∙ ap (λ (o : List ℕ). after_line i (line_of c line out n).read o (λ m l. lines_from c (end + 1) m l ls)) a.leaves
        ∙ ap (λ (j : ℕ). after_line i (line_of c line out n).read (line_of c line out n).out (λ m l. lines_from c j m l ls)) (sym past)
        ∙ sym (ap (lines_from c i n out) next-lines ∙ from-line c i n out line ls) ∙ w.left

    sound : {r : Read} {out' : List ℕ} → Answered (line_of c line out n) r out' → Sound (length out) (length line) r
    sound a = subst (Sound (length out) (length line)) (sym a.answered) (line-sound c line out n w.few)

    module _ {r : Read} {out' : List ℕ} (a : Answered (line_of c line out n) r out') where
      pub lining-next : {m : ℕ} → r ≡ Octets m → length out' ≡ length out → Lining c text out₀ m (end + 1) out'
      lining-next {m} e s =
          let few : m ≤ length out = subst (Sound (length out) (length line)) e (sound a) in
          record {
            few = omega arith;
            left = ap (λ (r : Read). after_line i r out' (λ m l. lines_from c (end + 1) m l (lines_in (drop (end + 1) text)))) (sym e) ∙ turn r out' a;
            size = s ∙ w.size;
          }

      module _ (u : Unread) (e : r ≡ unread_in u) where
        pub lining-room : i + place_in (unread_in u) ≤ length text
        lining-room = go u (subst (Sound (length out) (length line)) e (sound a))
          where
            go : (u : Unread) → Sound (length out) (length line) (unread_in u) → i + place_in (unread_in u) ≤ length text
            go (unread.Bad at w) within = omega (arith, line-length, stands.1)
            go unread.Long within = omega arith

        pub lining-unread : {q : Read} → q ≡ back i (unread_in u) → Answered (lines_of c text out₀) q out'
        lining-unread {q} f = rw f (go u (ap (λ (r : Read). after_line i r out' next) (sym e) ∙ turn r out' a))
          where
            next : ℕ → List ℕ → Answer
            next m l = lines_from c (end + 1) m l (lines_in (drop (end + 1) text))

            go : (u : Unread) → after_line i (unread_in u) out' next ≡ lines_of c text out₀ → Answered (lines_of c text out₀) (back i (unread_in u)) out'
            go (unread.Bad at w) q = subst (λ (a : Answer). Answered a (Bad (i + at) (why.number_of w)) out') q (record { answered = refl; leaves = refl })
            go unread.Long q = subst (λ (a : Answer). Answered a Long out') q (record { answered = refl; leaves = refl })

-- ---- values

module _ (f : ℕ) (c : Carrier) (text out : List ℕ) where
  pub values-lines : is_lines f text ≡ true → values_of f c text out ≡ lines_of c text out
  unfolding values_of
  values-lines e = rw e

  pub values-whole : {value : List ℕ} {p r : Read} {out' : List ℕ} → is_lines f text ≡ false → Answered (read_of f text room) p value
      → Answered (added_of c p value out 0) r out' → Answered (values_of f c text out) r out'
  unfolding values_of
  values-whole {value} e w u = rw e (added-by c value out 0 w u)
