-- How a list is read: an octet laid, a character taken, and the turns of the loop over a text. Assumes nothing.
use Rattle.std.specs.Prelude.{◌≡◌, refl, true, false, ℕ, ◌+◌, ◌≤◌, ◌<◌, length, get_or, set}
use Rattle.std.proofs.Math.Path.{sym, ap}
use Rattle.std.proofs.Common.{◌∙◌, arith, eq-eqb, ne_eqb, le-leb}
use mathlib.Core.List.{List, [], ◌∷◌, ◌++◌}
use Rattle.std.proofs.lemmas.Bool.{lt-leb}
use Rattle.std.proofs.Math.ListN.{drop}
use Rattle.inputs.specs.Read.{Read, Octets, Bad, Long}
use Rattle.groups.specs.declared.Kind.{Kind}
use Rattle.groups.specs.Turn.{Turn}
use Rattle.groups.specs.Turn as turns
use Rattle.groups.specs.State.{State}
use Rattle.groups.specs.States.{begun, moved}
use Rattle.groups.specs.Groups.{After, after, lay_of, settled, take_of, Turned, Ended, ended, onward, read_from, read_of, Grouped}
use Rattle.inputs.specs.TextLaws.{closed-cons, closed-end}

turned_as : {a : After} {r : Turn} {out' : List ℕ} → a ≡ after r out' → Turned a r out'
turned_as e = record { answered = sym (ap (λ (b : After). b.turn) e); leaves = sym (ap (λ (b : After). b.out) e) }

-- ---- an octet laid

module _ (s : State) (n : ℕ) (out : List ℕ) where
  pub lay-waiting : s.complete ≡ false → Turned (lay_of s n out) (turns.Go s n) out
  lay-waiting c = turned_as (rw c)

  pub lay-full : s.complete ≡ true → length out ≤ n → Turned (lay_of s n out) turns.Long out
  lay-full c h = turned_as (rw (c, le-leb (length out) n h))

  pub lay-laid : s.complete ≡ true → n < length out → Turned (lay_of s n out) (turns.Go s (n + 1)) (set out n s.octet)
  lay-laid c h = turned_as (rw (c, lt-leb (length out) n h))

-- ---- a character taken

module _ (f : Kind) (s t : State) (x n : ℕ) (out : List ℕ) (e : t ≡ moved f x s) where
  taken_as : {a : After} → settled t n out ≡ a → take_of f s x n out ≡ a
  unfolding take_of
  taken_as g = sym (ap (λ (u : State). settled u n out) e) ∙ g

  pub take-bad : (t.why ≡ 0 → ⊥) → Turned (take_of f s x n out) (turns.Bad t.why) out
  take-bad w = turned_as (taken_as (rw (ne_eqb t.why 0 w)))

  pub take-laid : {r : Turn} {out' : List ℕ} → t.why ≡ 0 → Turned (lay_of t n out) r out' → Turned (take_of f s x n out) r out'
  take-laid {r} {out'} w l =
      let g : take_of f s x n out ≡ lay_of t n out = taken_as (rw (eq-eqb t.why 0 w)) in
      record { answered = l.answered ∙ sym (ap (λ (b : After). b.turn) g); leaves = l.leaves ∙ sym (ap (λ (b : After). b.out) g) }

-- ---- a text

module _ (f : Kind) (text out₀ : List ℕ) where
  -- i characters were taken, and with those that are left they decide
  pub record Reading (s : State) (n i : ℕ) (out : List ℕ) : Type 0 where
    pub within : i ≤ length text + 1
    pub rest : read_from f s n i out (drop i (text ++ (10 ∷ []))) ≡ read_of f text out₀

module _ {f : Kind} {text out₀ : List ℕ} where
  grouped-as : {r : Read} {out : List ℕ} → ended r out ≡ read_of f text out₀ → Grouped f text out₀ r out
  grouped-as e = record { answered = ap (λ (b : Ended). b.read) e; leaves = ap (λ (b : Ended). b.out) e }

  pub read-start : {s : State} → s ≡ begun → Reading f text out₀ s 0 0 out₀
  unfolding read_of
  read-start e = record { within = omega arith; rest = ap (λ (u : State). read_from f u 0 0 out₀ (text ++ (10 ∷ []))) e }

  module _ {s : State} {n i : ℕ} {out : List ℕ} (c : Reading f text out₀ s n i out) where
    pub read_done : length text < i → Grouped f text out₀ (Octets n) out
    unfolding read_from
    read_done h = grouped-as (ap (read_from f s n i out) (sym (closed-end text i h)) ∙ c.rest)

    module _ {x : ℕ} {r : Turn} {out' : List ℕ} (h : i ≤ length text) (e : x ≡ get_or text i 10) (d : Turned (take_of f s x n out) r out') where
      step : onward r i out' (λ t m. read_from f t m (i + 1) out' (drop (i + 1) (text ++ (10 ∷ [])))) ≡ read_of f text out₀
      unfolding read_from
      step =
          ap (λ (q : Turn). onward q i out' (λ t m. read_from f t m (i + 1) out' (drop (i + 1) (text ++ (10 ∷ []))))) d.answered
          ∙ ap (λ (l : List ℕ). onward (take_of f s x n out).turn i l (λ t m. read_from f t m (i + 1) l (drop (i + 1) (text ++ (10 ∷ []))))) d.leaves
          ∙ ap (λ (y : ℕ). read_from f s n i out (y ∷ drop (i + 1) (text ++ (10 ∷ [])))) e
          ∙ ap (read_from f s n i out) (sym (closed-cons text i h))
          ∙ c.rest

      turn : {q : Turn} → r ≡ q → onward q i out' (λ t m. read_from f t m (i + 1) out' (drop (i + 1) (text ++ (10 ∷ [])))) ≡ read_of f text out₀
      turn g = sym (ap (λ (q : Turn). onward q i out' (λ t m. read_from f t m (i + 1) out' (drop (i + 1) (text ++ (10 ∷ []))))) g) ∙ step

      pub read-on : {t : State} {m : ℕ} → r ≡ turns.Go t m → Reading f text out₀ t m (i + 1) out'
      read-on g = record { within = omega arith; rest = turn g }

      pub read-bad : {w : ℕ} → r ≡ turns.Bad w → Grouped f text out₀ (Bad i w) out'
      read-bad g = grouped-as (turn g)

      pub read-long : r ≡ turns.Long → Grouped f text out₀ Long out'
      read-long g = grouped-as (turn g)

-- ---- a turn: x is taken, as k, the kind of the state, has it

module _ {f k : Kind} {text out₀ : List ℕ} {s : State} {n i : ℕ} {out : List ℕ} (g : k ≡ f) (c : Reading f text out₀ s n i out) (h : i ≤ length text)
    {x : ℕ} (e : x ≡ get_or text i 10) where
  as-kind : {t : State} → t ≡ moved k x s → t ≡ moved f x s
  as-kind q = q ∙ ap (λ (f : Kind). moved f x s) g

  pub turn-refused : {w : ℕ} → (w ≡ 0 → ⊥) → w ≡ (moved k x s).why → Grouped f text out₀ (Bad i w) out
  turn-refused known q =
      let p = q ∙ ap (λ (f : Kind). (moved f x s).why) g in
      read-bad c h e (take-bad f s (moved f x s) x n out refl (λ z. known (p ∙ z))) (ap turns.Bad (sym p))

  module _ (t : State) (q : t ≡ moved k x s) (z : t.why ≡ 0) where
    pub turn-full : t.complete ≡ true → length out ≤ n → Grouped f text out₀ Long out
    turn-full a b = read-long c h e (take-laid f s t x n out (as-kind q) z (lay-full t n out a b)) refl

    pub turn-laid : t.complete ≡ true → n < length out → Reading f text out₀ t (n + 1) (i + 1) (set out n t.octet)
    turn-laid a b = read-on c h e (take-laid f s t x n out (as-kind q) z (lay-laid t n out a b)) refl

    pub turn-waiting : t.complete ≡ false → Reading f text out₀ t n (i + 1) out
    turn-waiting a = read-on c h e (take-laid f s t x n out (as-kind q) z (lay-waiting t n out a)) refl
