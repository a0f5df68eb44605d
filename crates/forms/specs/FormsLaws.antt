-- The laws of reading a text in its form: an outcome for each way. Assumes nothing.
use Rattle.std.specs.Prelude.{◌≡◌, refl, Bool, true, false, leb, List, ℕ, ◌+◌, ◌-◌, ◌≤◌, ◌<◌, length, take, drop}
use Rattle.std.proofs.Math.Path.{sym, ap}
use Rattle.std.proofs.Common.{◌∙◌, arith, length-drop}
use borrow.Author.Tests.{lt-ltb, le-ltb, le-leb, lt-leb, leb-false, eq-eqb, ne_eqb}
use Rattle.std.proofs.Common.{leb-true}
use Rattle.octets.specs.ListsLaws.{take_rest}
use Rattle.inputs.specs.Why as why
use Rattle.inputs.specs.declared.Unread.{Unread}
use Rattle.inputs.specs.declared.Unread.TheVariants as unread
use Rattle.inputs.specs.Read.{Read, Octets, Bad, Long, unread_in, place_in, back}
use Rattle.groups.specs.declared.Kind.{Kind}
use Rattle.groups.specs.Groups as groups
use Rattle.groups.specs.Groups.{Grouped}
use Rattle.groups.specs.Escapes.{Escaped}
use Rattle.dumps.specs.declared.Style.{Style}
use Rattle.dumps.specs.Dumps as dumps
use Rattle.dumps.specs.Dumps.{Dumped}
use Rattle.dumps.specs.DumpsWithin.{bad-within}
use Rattle.forms.specs.Places.{place_of, begin_of, brace_of, packet_of}
use Rattle.forms.specs.Fronts.{form_of}
use Rattle.forms.specs.Arrays as arrays
use Rattle.forms.specs.Arrays.{Arrayed}
use Rattle.forms.specs.Forms.{style_of, kind_of, Answer, answer, Answered, of_groups, of_dumps, as_of, list_of, braced_of}
use Rattle.forms.specs.Forms.{shifted, after, packed, line_end, headed_of, or_headed, read_of}

-- what is answered of one text is answered of another that is read alike
answered-as : {a b : Answer} {r : Read} {out : List ℕ} → a ≡ b → Answered a r out → Answered b r out
answered-as e h = record { answered = h.answered ∙ ap (λ (x : Answer). x.read) e; leaves = h.leaves ∙ ap (λ (x : Answer). x.out) e }

answered-at : {a : Answer} {r : Read} {out : List ℕ} → answer r out ≡ a → Answered a r out
answered-at e = answered-as e (record { answered = refl; leaves = refl })

-- ---- a text in a form

module _ (f : ℕ) (t out : List ℕ) {r : Read} {out' : List ℕ} where
  pub as-groups : {k : Kind} → f < 6 → k ≡ kind_of f → Grouped k t out r out' → Answered (as_of f t out) r out'
  unfolding as_of
  as-groups {k} h e g =
      let q : of_groups (groups.read_of k t out) ≡ as_of f t out = rw (lt-ltb f 6 h, e) in
      answered-as q (record { answered = g.answered; leaves = g.leaves })

  pub as-escapes : f ≡ 6 → Escaped t out r out' → Answered (as_of f t out) r out'
  unfolding as_of
  as-escapes h g = rw h (record { answered = g.answered; leaves = g.leaves })

  pub as-dumps : {s : Style} → 6 < f → s ≡ style_of f → Dumped s t out r out' → Answered (as_of f t out) r out'
  unfolding as_of
  as-dumps {s} h e g =
      let l : 6 ≤ f = omega arith in
      let n : f ≡ 6 → ⊥ = λ z. absurd (omega arith) in
      let q : of_dumps (dumps.read_of s t out) ≡ as_of f t out = rw (le-ltb f 6 l, ne_eqb f 6 n, e) in
      answered-as q (record { answered = g.answered; leaves = g.leaves })

-- ---- a list

module _ (f : ℕ) (t out : List ℕ) (e : f ≡ form_of t) where
  pub list-dump : 6 < f → Answered (list_of t out) (Bad 0 why.form) out
  unfolding list_of
  list-dump h = answered-at (rw (sym e, lt-ltb 6 f h))

  pub list-as : {r : Read} {out' : List ℕ} → f ≤ 6 → Answered (as_of f t out) r out' → Answered (list_of t out) r out'
  unfolding list_of
  list-as h g = let q : as_of f t out ≡ list_of t out = rw (sym e, le-ltb 6 f h) in answered-as q g

-- ---- an array

module _ (b at w : ℕ) (t out : List ℕ) (e : b ≡ brace_of t) where
  pub braced-array : {r : Read} {out' : List ℕ} → b < length t → Arrayed b t out r out' → Answered (braced_of at w t out) r out'
  unfolding braced_of
  braced-array h g =
      let q : answer (arrays.read_of b t out) (arrays.left_of b t out) ≡ braced_of at w t out = rw (sym e, lt-ltb b (length t) h) in
      answered-as q (record { answered = g.answered; leaves = g.leaves })

  pub braced-none : length t ≤ b → Answered (braced_of at w t out) (Bad at w) out
  unfolding braced_of
  braced-none h = answered-at (rw (sym e, le-ltb b (length t) h))

-- ---- after a packet's head

-- where the first line ends
pub line-end : (first end : ℕ) (t : List ℕ) → first ≡ begin_of 0 t → end ≡ place_of 10 first (drop first t) → end ≡ line_end t
line-end first end t e g = g ∙ ap (λ (i : ℕ). place_of 10 i (drop i t)) e

module _ (at w : ℕ) (t out : List ℕ) (end : ℕ) (e : end ≡ line_end t) where
  pub headed-late : end < at → Answered (headed_of at w t out) (Bad at w) out
  unfolding headed_of
  headed-late h = answered-at (rw (sym e, lt-ltb end at h))

  module _ (k : ℕ) (l : at ≤ end) (p : k ≡ packet_of t) where
    headed-packed : packed k end at w t out ≡ headed_of at w t out
    unfolding headed_of
    headed-packed = rw (sym e, le-ltb end at l, sym p)

    pub headed-first : {r : Read} {out' : List ℕ} → k ≤ end → Answered (braced_of at w t out) r out' → Answered (headed_of at w t out) r out'
    headed-first h g = let q : braced_of at w t out ≡ packed k end at w t out = rw (le-leb k end h) in answered-as (q ∙ headed-packed) g

    module _ (m : end < k) where
      pub headed-none : {r : Read} {out' : List ℕ} → k ≡ length t → Answered (braced_of at w t out) r out' → Answered (headed_of at w t out) r out'
      headed-none h g =
          let q : braced_of at w t out ≡ packed k end at w t out = rw (lt-leb k end m, eq-eqb k (length t) h) in
          answered-as (q ∙ headed-packed) g

      module _ {s : Style} {r : Read} {out' : List ℕ} (n : k ≡ length t → ⊥) (g : s ≡ style_of 11)
          (d : Dumped s (take (length t - k) (drop k t)) out r out') where
        dump-is : dumps.read_of s (take (length t - k) (drop k t)) out ≡ dumps.read_of (style_of 11) (drop k t) out
        dump-is = rw (take_rest k t, g)

        headed-dump : {q : Read} → r ≡ q → Answered (headed_of at w t out) (shifted k q) out'
        headed-dump {q} i =
            let u : after k (dumps.read_of (style_of 11) (drop k t) out) ≡ packed k end at w t out = rw (lt-leb k end m, ne_eqb k (length t) n) in
            let v : Answered (after k (dumps.read_of (style_of 11) (drop k t) out)) (shifted k q) out' = record {
              answered = ap (shifted k) (sym i ∙ d.answered ∙ ap (λ (x : dumps.Ended). x.read) dump-is);
              leaves = d.leaves ∙ ap (λ (x : dumps.Ended). x.out) dump-is;
            } in
            answered-as (u ∙ headed-packed) v

        pub headed-octets : {n : ℕ} → r ≡ Octets n → Answered (headed_of at w t out) (Octets n) out'
        headed-octets i = headed-dump i

        pub headed-stopped : (u v : Unread) → r ≡ unread_in u → unread_in v ≡ back k (unread_in u) → Answered (headed_of at w t out) (unread_in v) out'
        headed-stopped (unread.Bad i w) v e b = rw b (headed-dump e)
        headed-stopped unread.Long v e b = rw b (headed-dump e)

  -- no line begins with an offset
  pub headed-missing : length t ≡ packet_of t → at ≤ end → {r : Read} {out' : List ℕ} → Answered (braced_of at w t out) r out'
      → Answered (headed_of at w t out) r out'
  headed-missing p l {r} {out'} g = go (leb (length t) end) refl
    where
      go : (b : Bool) → leb (length t) end ≡ b → Answered (headed_of at w t out) r out'
      go true q = headed-first (length t) l p (leb-true (length t) end q) g
      go false q = headed-none (length t) l p (leb-false (length t) end q) refl g

-- the dump is left within the text
pub dump-within : (k : ℕ) (t : List ℕ) {s : Style} {out out' : List ℕ} {r : Read} (u : Unread) → k ≤ length t
    → Dumped s (take (length t - k) (drop k t)) out r out' → r ≡ unread_in u → k + place_in (unread_in u) ≤ length t
dump-within k t {s} {out} (unread.Bad at w) h d e =
    let size : length (take (length t - k) (drop k t)) ≡ length t - k = rw (take_rest k t) (length-drop k t) in
    let q : at ≤ length (take (length t - k) (drop k t)) = bad-within s (take (length t - k) (drop k t)) out (sym d.answered ∙ e) in
    omega arith
dump-within k t unread.Long h d e = omega arith

-- ---- a text

module _ (f : ℕ) (t out : List ℕ) (e : f ≡ form_of t) {r : Read} {out' : List ℕ} (g : Answered (as_of f t out) r out') where
  read_as : or_headed f r t out' ≡ read_of t out
  unfolding read_of
  read_as =
      ap (λ (q : Read). or_headed f q t out') g.answered
      ∙ ap (or_headed f (as_of f t out).read t) g.leaves
      ∙ ap (λ (h : ℕ). or_headed h (as_of h t out).read t (as_of h t out).out) e

  read_by : {q : Read} → r ≡ q → or_headed f q t out' ≡ read_of t out
  read_by h = sym (ap (λ (q : Read). or_headed f q t out') h) ∙ read_as

  pub read-octets : {n : ℕ} → r ≡ Octets n → Answered (read_of t out) (Octets n) out'
  read-octets h = answered-at (read_by h)

  -- of a dump nothing else is tried
  pub read-dump : 6 < f → Answered (read_of t out) r out'
  read-dump l = answered-at (dump r ∙ read_as)
    where
      dump : (r : Read) → answer r out' ≡ or_headed f r t out'
      dump (Octets n) = refl
      dump (Bad at w) = rw (lt-ltb 6 f l)
      dump Long = refl

  pub read-other : {at w : ℕ} {q : Read} {out'' : List ℕ} → f ≤ 6 → r ≡ Bad at w → Answered (headed_of at w t out') q out'' → Answered (read_of t out) q out''
  read-other {at} {w} l h u =
      let q : headed_of at w t out' ≡ or_headed f (Bad at w) t out' = rw (le-ltb 6 f l) in
      answered-as (q ∙ read_by h) u

  pub read-long : r ≡ Long → Answered (read_of t out) Long out'
  read-long h = answered-at (read_by h)
