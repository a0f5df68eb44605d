-- The laws of a C array: what its characters from the i-th on come to, and the list between its braces. Assumes nothing.
use Rattle.std.specs.Prelude.{◌≡◌, refl, List, [], ◌∷◌, ◌++◌, ℕ, ◌+◌, ◌-◌, ◌≤◌, ◌<◌, length, get_or, take, drop}
use Rattle.std.proofs.Math.Path.{sym, ap}
use Rattle.std.proofs.Common.{◌∙◌, arith, length-drop, length-take-le}
use borrow.Author.Tests.{ne_eqb}
use Rattle.inputs.specs.declared.Why.{Why}
use Rattle.inputs.specs.declared.Unread.{Unread}
use Rattle.inputs.specs.declared.Unread.TheVariants as unread
use Rattle.inputs.specs.Why as why
use Rattle.inputs.specs.Read.{Read, Bad, unread_in, place_in, back}
use Rattle.groups.specs.declared.Kind.{Kind}
use Rattle.groups.specs.Groups as groups
use Rattle.groups.specs.Groups.{Grouped}
use Rattle.groups.specs.GroupsWithin.{bad-within}
use Rattle.inputs.specs.TextLaws.{closed-cons, closed-end}
use Rattle.dumps.specs.HeldLaws.{reason-known}
use Rattle.forms.specs.declared.array.After as held
use Rattle.forms.specs.Arrays.{After, after_in, elements, begun, after, ended_of, tail_from, tail_of}
use Rattle.forms.specs.Arrays.{answer_of, closing, listed, read_of, left_of, Arrayed}

-- ---- after the closing brace

pub tail-start : (t : List ℕ) (i n : ℕ) → tail_from begun n (length t) i (drop i (t ++ (10 ∷ []))) ≡ tail_of i n t
unfolding tail_of
tail-start t i n = refl

module _ (t : List ℕ) (i n : ℕ) (s : After) {x : ℕ} (e : x ≡ get_or t i 10) (h : i ≤ length t) where
  pub tail-bad : (w : Why) → why.number_of w ≡ (after x n s).why → tail_from s n (length t) i (drop i (t ++ (10 ∷ []))) ≡ Bad i (why.number_of w)
  unfolding tail_from
  tail-bad w p = rw (closed-cons t i h, sym e, ne_eqb (after x n s).why 0 (λ z. reason-known w (p ∙ z)), p) refl

  pub tail-later : (s' : held.After) → after_in s' ≡ after x n s
      → tail_from (after_in s') n (length t) (i + 1) (drop (i + 1) (t ++ (10 ∷ []))) ≡ tail_from s n (length t) i (drop i (t ++ (10 ∷ [])))
  unfolding tail_from
  tail-later s' p = rw (closed-cons t i h, sym e, sym p) refl

pub tail-end : (t : List ℕ) (i n : ℕ) (s : After) → length t < i → tail_from s n (length t) i (drop i (t ++ (10 ∷ []))) ≡ ended_of (length t) n s
unfolding tail_from
tail-end t i n s h = rw (closed-end t i h)

-- ---- an array

module _ (brace : ℕ) (t : List ℕ) {close : ℕ} {k : Kind} {out out' : List ℕ} {r : Read}
    (e : close ≡ closing (brace + 1) t) (g : k ≡ elements) (d : Grouped k (take (close - (brace + 1)) (drop (brace + 1) t)) out r out') where
  listed-as : groups.read_of k (take (close - (brace + 1)) (drop (brace + 1) t)) out ≡ listed (brace + 1) t out
  listed-as =
      ap (λ (k : Kind). groups.read_of k (take (close - (brace + 1)) (drop (brace + 1) t)) out) g
      ∙ ap (λ (c : ℕ). groups.read_of elements (take (c - (brace + 1)) (drop (brace + 1) t)) out) e

  pub arrayed : {a q : Read} → r ≡ q → a ≡ answer_of (brace + 1) close t q → Arrayed brace t out a out'
  unfolding read_of left_of
  arrayed {a} {q} p h = record {
    answered =
        h
        ∙ ap (answer_of (brace + 1) close t) (sym p ∙ d.answered ∙ ap (λ (x : groups.Ended). x.read) listed-as)
        ∙ ap (λ (c : ℕ). answer_of (brace + 1) c t (listed (brace + 1) t out).read) e;
    leaves = d.leaves ∙ ap (λ (x : groups.Ended). x.out) listed-as;
  }

  pub array-stopped : (u v : Unread) → r ≡ unread_in u → unread_in v ≡ back (brace + 1) (unread_in u) → Arrayed brace t out (unread_in v) out'
  array-stopped (unread.Bad at w) v p h = arrayed p h
  array-stopped unread.Long v p h = arrayed p h

  -- the list is left between the braces
  pub array-within : (u : Unread) → brace + 1 ≤ close → close ≤ length t → r ≡ unread_in u → brace + 1 + place_in (unread_in u) ≤ length t
  array-within (unread.Bad at w) h l p =
      let size : length (take (close - (brace + 1)) (drop (brace + 1) t)) ≡ close - (brace + 1) =
      length-take-le (close - (brace + 1)) (drop (brace + 1) t) (rw (length-drop (brace + 1) t) (omega arith)) in
      let q : at ≤ length (take (close - (brace + 1)) (drop (brace + 1) t)) =
      bad-within k (take (close - (brace + 1)) (drop (brace + 1) t)) out (sym d.answered ∙ p) in
      omega arith
  array-within unread.Long h l p = omega arith
