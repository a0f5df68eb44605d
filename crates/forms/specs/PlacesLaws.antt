-- The laws of places in a text: what is found from the i-th character on, by what stands there. Assumes nothing.
use Rattle.std.specs.Prelude.{◌≡◌, refl, Bool, true, false, not, ◌||◌, cond, List, [], ◌∷◌, ◌⊎◌}
use Rattle.std.specs.Prelude.{ℕ, ◌+◌, ◌≤◌, ◌<◌, eqb, length, get_or, drop, Option, Some, None, unwrap_or}
use Rattle.std.specs.Bool.{then_some}
use Rattle.std.specs.List.{list_any, position, position_from}
use Rattle.std.proofs.lemmas.Iterator.Adapters.{position_from-zero}
use Rattle.std.proofs.Math.Path.{sym}
use Rattle.std.proofs.Common.{◌∙◌, inl, inr, arith, drop_of_length-le}
use Rattle.std.proofs.Math.Numerals.{add-one}
use borrow.Author.Tests.{lt-ltb, le-ltb, eq-eqb, ne_eqb}
use Rattle.std.proofs.Math.Seq.{drop-cons}
use Rattle.forms.specs.Places.{blank, control, uncontrolled, place_of, begin_of}
use Rattle.forms.specs.declared.places.Begins.{Begins}
use Rattle.forms.specs.declared.places.Begins.TheVariants as begins
use Rattle.forms.specs.Places.{brace_from, line_from, line_of, begins_in, begins_with, packet_from}

-- ---- characters

break-blank : (x : ℕ) → x ≡ 10 → blank x ≡ true
break-blank x e = rw e refl

-- ---- control characters

pub uncontrolled-none : (t : List ℕ) → not (list_any control t) ≡ uncontrolled t
unfolding uncontrolled
uncontrolled-none [] = refl
uncontrolled-none (x ∷ xs) = go (control x) (uncontrolled-none xs)
  where
    go : (b : Bool) → not (list_any control xs) ≡ uncontrolled xs → not (b || list_any control xs) ≡ cond b false (uncontrolled xs)
    go true h = refl
    go false h = h

-- ---- the first of a kind

module _ (x : ℕ) (t : List ℕ) (i : ℕ) where
  pub place_here : i < length t → get_or t i 0 ≡ x → place_of x i (drop i t) ≡ i
  unfolding place_of
  place_here h e = rw (drop-cons t i 0 h, eq-eqb (get_or t i 0) x e)

  pub place-later : i < length t → (get_or t i 0 ≡ x → ⊥) → place_of x (i + 1) (drop (i + 1) t) ≡ place_of x i (drop i t)
  unfolding place_of
  place-later h n = rw (drop-cons t i 0 h, ne_eqb (get_or t i 0) x n, add-one i)

  pub place_none : length t ≤ i → place_of x i (drop i t) ≡ i
  unfolding place_of
  place_none h = rw (drop_of_length-le t {i = i} h)

begin-from : (i j : ℕ) (t : List ℕ) → j ≡ i + length t
    → (unwrap_or (position_from (λ y. not (blank y)) i t) j ≡ begin_of i t) × (begin_of i t ≤ j)
unfolding begin_of
begin-from i j [] e = (omega arith, omega arith)
begin-from i j (y ∷ ys) e = go (blank y) (begin-from (i + 1) j ys (omega arith))
  where
    go : (b : Bool) → (unwrap_or (position_from (λ y. not (blank y)) (i + 1) ys) j ≡ begin_of (i + 1) ys) × (begin_of (i + 1) ys ≤ j)
        → (unwrap_or (cond (not b) (Some i) (position_from (λ y. not (blank y)) (i + 1) ys)) j ≡ cond b (begin_of (i + 1) ys) i)
        × (cond b (begin_of (i + 1) ys) i ≤ j)
    go true h = h
    go false h = (refl, omega arith)

pub begin-is : (t : List ℕ) → (unwrap_or (position (λ y. not (blank y)) t) (length t) ≡ begin_of 0 t) × (begin_of 0 t ≤ length t)
begin-is t = rw (position_from-zero (λ y. not (blank y)) t) (begin-from 0 (length t) t (omega arith))

module _ (t : List ℕ) (last i : ℕ) where
  pub brace-here : (o : Option ℕ) → i < length t → get_or t i 0 ≡ 123 → o ≡ then_some (eqb last 61) i
      → unwrap_or o (length t) ≡ brace_from (length t) last i (drop i t)
  unfolding brace_from
  brace-here o h e p = rw (p, drop-cons t i 0 h, eq-eqb (get_or t i 0) 123 e) (go (eqb last 61))
    where
      go : (b : Bool) → unwrap_or (then_some b i) (length t) ≡ cond b i (length t)
      go true = refl
      go false = refl

  pub brace-later : (next : ℕ) → i < length t → (get_or t i 0 ≡ 123 → ⊥)
      → ((blank (get_or t i 0) ≡ false) × (next ≡ get_or t i 0)) ⊎ ((blank (get_or t i 0) ≡ true) × (next ≡ last))
      → brace_from (length t) next (i + 1) (drop (i + 1) t) ≡ brace_from (length t) last i (drop i t)
  unfolding brace_from
  brace-later next h n (inl (e, l)) = rw (drop-cons t i 0 h, ne_eqb (get_or t i 0) 123 n, e, l, add-one i)
  brace-later next h n (inr (e, l)) = rw (drop-cons t i 0 h, ne_eqb (get_or t i 0) 123 n, e, l, add-one i)

  pub brace-none : length t ≤ i → brace_from (length t) last i (drop i t) ≡ i
  unfolding brace_from
  brace-none h = rw (drop_of_length-le t {i = i} h)

-- ---- the number of a line

-- the i-th character on decides, where `line` and `breaks` are counted before it
pub record Lined (at : ℕ) (t : List ℕ) (line breaks i : ℕ) : Type 0 where
  pub few : line + breaks ≤ i + 1
  pub left : line_from at line breaks i (drop i t) ≡ line_of at t

pub lined-none : (at : ℕ) (t : List ℕ) → Lined at t 1 0 0
lined-none at t = record { few = omega arith; left = refl }

module _ {at : ℕ} {t : List ℕ} {line breaks i : ℕ} (l : Lined at t line breaks i) where
  pub lined-past : i < length t → at < i → line ≡ line_of at t
  unfolding line_from
  lined-past h p = let e : line ≡ line_from at line breaks i (drop i t) = rw (drop-cons t i 0 h, lt-ltb at i p) in e ∙ l.left

  pub lined-all : length t ≤ i → line ≡ line_of at t
  unfolding line_from
  lined-all h = let e : line ≡ line_from at line breaks i (drop i t) = rw (drop_of_length-le t {i = i} h) in e ∙ l.left

  lined-break : i < length t → i ≤ at → get_or t i 0 ≡ 10 → line_from at line (breaks + 1) (i + 1) (drop (i + 1) t) ≡ line_of at t
  unfolding line_from
  lined-break h p e =
      let q : line_from at line (breaks + 1) (i + 1) (drop (i + 1) t) ≡ line_from at line breaks i (drop i t) =
      rw (drop-cons t i 0 h, le-ltb at i p, eq-eqb (get_or t i 0) 10 e, add-one i) in
      q ∙ l.left

  lined-blank : i < length t → i ≤ at → (get_or t i 0 ≡ 10 → ⊥) → blank (get_or t i 0) ≡ true
      → line_from at line breaks (i + 1) (drop (i + 1) t) ≡ line_of at t
  unfolding line_from
  lined-blank h p n b =
      let q : line_from at line breaks (i + 1) (drop (i + 1) t) ≡ line_from at line breaks i (drop i t) =
      rw (drop-cons t i 0 h, le-ltb at i p, b, ne_eqb (get_or t i 0) 10 n, add-one i) in
      q ∙ l.left

  lined-other : i < length t → i ≤ at → (get_or t i 0 ≡ 10 → ⊥) → blank (get_or t i 0) ≡ false
      → line_from at (line + breaks) 0 (i + 1) (drop (i + 1) t) ≡ line_of at t
  unfolding line_from
  lined-other h p n b =
      let q : line_from at (line + breaks) 0 (i + 1) (drop (i + 1) t) ≡ line_from at line breaks i (drop i t) =
      rw (drop-cons t i 0 h, le-ltb at i p, b, ne_eqb (get_or t i 0) 10 n, add-one i) in
      q ∙ l.left

  -- one character more: a break is counted, and counts where a character follows that is no blank
  pub lined-more : (counted line' breaks' : ℕ) → i < length t → i ≤ at
      → ((get_or t i 0 ≡ 10) × (counted ≡ breaks + 1)) ⊎ ((get_or t i 0 ≡ 10 → ⊥) × (counted ≡ breaks))
      → ((blank (get_or t i 0) ≡ false) × (line' ≡ line + counted) × (breaks' ≡ 0)) ⊎ ((blank (get_or t i 0) ≡ true) × (line' ≡ line) × (breaks' ≡ counted))
      → Lined at t line' breaks' (i + 1)
  lined-more b l' b' h p (inl (e, q)) (inl (n, u, v)) =
      let z : true ≡ false = sym (break-blank (get_or t i 0) e) ∙ n in
      absurd (let y : ◌≡◌ {A = ℕ} 0 1 = cc in omega arith)
  lined-more b l' b' h p (inl (e, q)) (inr (n, u, v)) = record { few = omega (arith, l.few); left = rw (u, v, q) (lined-break h p e) }
  lined-more b l' b' h p (inr (e, q)) (inl (n, u, v)) = record { few = omega (arith, l.few); left = rw (u, v, q) (lined-other h p e n) }
  lined-more b l' b' h p (inr (e, q)) (inr (n, u, v)) = record { few = omega (arith, l.few); left = rw (u, v, q) (lined-blank h p e n) }

-- ---- a packet's head

-- the line may still begin with an offset, or does not
pub begins-on : (b : Begins) → (b ≡ begins.Offset → ⊥) → (b ≡ begins.Nothing → ⊥) → (begins_in b ≡ 3 → ⊥) × (begins_in b ≡ 0 → ⊥)
begins-on begins.Nothing f g = absurd (g refl)
begins-on begins.Zero f g = (λ e. absurd (omega arith), λ e. absurd (omega arith))
begins-on begins.Digits f g = (λ e. absurd (omega arith), λ e. absurd (omega arith))
begins-on begins.Offset f g = absurd (f refl)
begins-on begins.Other f g = (λ e. absurd (omega arith), λ e. absurd (omega arith))

module _ (t : List ℕ) (k line i : ℕ) where
  pub packet-here : (k' : ℕ) → i < length t → k' ≡ begins_with k (get_or t i 0) → k' ≡ 3 → packet_from k line i (drop i t) ≡ line
  unfolding packet_from
  packet-here k' h e f = rw (drop-cons t i 0 h, sym e, eq-eqb k' 3 f)

  pub packet-line : (k' : ℕ) → i < length t → k' ≡ begins_with k (get_or t i 0) → k' ≡ 0
      → packet_from k' (i + 1) (i + 1) (drop (i + 1) t) ≡ packet_from k line i (drop i t)
  unfolding packet_from
  packet-line k' h e f = rw (drop-cons t i 0 h, sym e, f, add-one i)

  pub packet-later : (k' : ℕ) → i < length t → k' ≡ begins_with k (get_or t i 0) → (k' ≡ 3 → ⊥) → (k' ≡ 0 → ⊥)
      → packet_from k' line (i + 1) (drop (i + 1) t) ≡ packet_from k line i (drop i t)
  unfolding packet_from
  packet-later k' h e f g = rw (drop-cons t i 0 h, sym e, ne_eqb k' 3 f, ne_eqb k' 0 g, add-one i)

  pub packet-none : length t ≤ i → packet_from k line i (drop i t) ≡ i
  unfolding packet_from
  packet-none h = rw (drop_of_length-le t {i = i} h)
