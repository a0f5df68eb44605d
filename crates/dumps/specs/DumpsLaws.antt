-- The laws of reading a dump: the octets that stars stand for, a character, and the text that is left. Assumes nothing.
use Rattle.std.specs.Prelude.{◌≡◌, refl, Bool, true, false, List, [], ◌∷◌, ◌++◌, ℕ, zero, suc, ◌+◌, ◌-◌, ◌%◌, ◌≤◌, ◌<◌, ltb, leb, eqb, length, get_or, set, drop}
use Rattle.std.proofs.Common.{sym, subst, ◌∙◌, arith, length-set}
use Rattle.std.proofs.Math.Path.{ap}
use borrow.Author.Tests.{lt-ltb, le-ltb, le-leb, lt-leb, eq-eqb, ne_eqb, ltb-false, leb-false}
use Rattle.inputs.specs.Why as why
use Rattle.inputs.specs.TextLaws.{closed-cons, closed-end}
use Rattle.inputs.specs.Read.{Read, Octets, Bad, Long}
use Rattle.dumps.specs.declared.Style.{Style}
use Rattle.dumps.specs.Reach.{Reach}
use Rattle.dumps.specs.Reach as reach
use Rattle.dumps.specs.Turn.{Turn}
use Rattle.dumps.specs.Turn as turns
use Rattle.dumps.specs.State.{State}
use Rattle.dumps.specs.Mode as mode
use Rattle.dumps.specs.States.{begun, moved}
use Rattle.dumps.specs.Dumps.{repeated_of, After, lay_of, fill_of, Filled, lay_by, settled, take_of, Turned}
use Rattle.dumps.specs.Dumps.{Ended, ended, read_from, read_of, Dumped}

-- ---- octets that are repeated

repeated-turn : (from n upto : ℕ) (out : List ℕ) → n < upto
    → repeated_of (upto - (n + 1)) (from + 1) (n + 1) (set out n (get_or out from 0)) ≡ repeated_of (upto - n) from n out
unfolding repeated_of
repeated-turn from n upto out h =
    let e : upto - n ≡ suc (upto - (n + 1)) = omega arith in
    sym (ap (λ (k : ℕ). repeated_of k from n out) e)

repeated-end : (from n upto : ℕ) (out : List ℕ) → upto ≤ n → repeated_of (upto - n) from n out ≡ out
unfolding repeated_of
repeated-end from n upto out h =
    let e : upto - n ≡ zero = omega arith in
    ap (λ (k : ℕ). repeated_of k from n out) e

pub repeated-length : (k from n : ℕ) (out : List ℕ) → length (repeated_of k from n out) ≡ length out
unfolding repeated_of
repeated-length zero from n out = refl
repeated-length (suc k) from n out = repeated-length k (from + 1) (n + 1) (set out n (get_or out from 0)) ∙ length-set out n (get_or out from 0)

-- octets from `from` on are laid up to i, and those that are left from `source` on
pub record Repeating (before : List ℕ) (from n upto : ℕ) (out : List ℕ) (source i : ℕ) : Type 0 where
  pub apart : source < i
  pub size : length out ≡ length before
  pub rest : repeated_of (upto - i) source i out ≡ repeated_of (upto - n) from n before

module _ {before out : List ℕ} {from n upto source i : ℕ} (r : Repeating before from n upto out source i) where
  pub repeat-turn : i < upto → Repeating before from n upto (set out i (get_or out source 0)) (source + 1) (i + 1)
  repeat-turn h = record {
    apart = omega (arith, r.apart);
    size = length-set out i (get_or out source 0) ∙ r.size;
    rest = repeated-turn source i upto out h ∙ r.rest;
  }

  pub repeat-done : upto ≤ i → out ≡ repeated_of (upto - n) from n before
  repeat-done h = sym (repeated-end source i upto out h) ∙ r.rest

-- ---- what stars stand for

module _ (from n upto : ℕ) (out : List ℕ) where
  pub fill_none : upto ≤ n → Filled from n upto out (reach.To n) out
  unfolding fill_of
  fill_none h = let e = le-leb upto n h in record { answered = rw e; leaves = rw e }

  module _ (h : n < upto) where
    pub fill-early : n ≤ from → Filled from n upto out (reach.Bad why.offset) out
    unfolding fill_of
    fill-early l = let e = lt-leb upto n h in let g = le-leb n from l in record { answered = rw (e, g); leaves = rw (e, g) }

    module _ (l : from < n) where
      pub fill-part : ((upto - n) % (n - from) ≡ 0 → ⊥) → Filled from n upto out (reach.Bad why.offset) out
      unfolding fill_of
      fill-part d =
          let e = lt-leb upto n h in
          let g = lt-leb n from l in
          let k = ne_eqb ((upto - n) % (n - from)) 0 d in
          record { answered = rw (e, g, k); leaves = rw (e, g, k) }

      module _ (d : (upto - n) % (n - from) ≡ 0) where
        pub fill-long : length out < upto → Filled from n upto out reach.Long out
        unfolding fill_of
        fill-long m =
            let e = lt-leb upto n h in
            let g = lt-leb n from l in
            let k = eq-eqb ((upto - n) % (n - from)) 0 d in
            let j = lt-ltb (length out) upto m in
            record { answered = rw (e, g, k, j); leaves = rw (e, g, k, j) }

        pub fill-whole : {out' : List ℕ} → upto ≤ length out → out' ≡ repeated_of (upto - n) from n out → Filled from n upto out (reach.To upto) out'
        unfolding fill_of
        fill-whole m p =
            let e = lt-leb upto n h in
            let g = lt-leb n from l in
            let k = eq-eqb ((upto - n) % (n - from)) 0 d in
            let j = le-ltb (length out) upto m in
            record { answered = rw (e, g, k, j); leaves = rw (e, g, k, j) p }

-- ---- an octet that is complete

module _ (s : State) (n : ℕ) (out : List ℕ) where
  pub lay-none : (s.mode ≡ mode.low → ⊥) → Turned (lay_of s n out) (turns.Go s n) out
  unfolding lay_of
  lay-none h = let e = ne_eqb s.mode mode.low h in record { answered = rw e; leaves = rw e }

  module _ (h : s.mode ≡ mode.low) where
    pub lay-long : length out ≤ n → Turned (lay_of s n out) turns.Long out
    unfolding lay_of
    lay-long l = let e = eq-eqb s.mode mode.low h in let g = le-leb (length out) n l in record { answered = rw (e, g); leaves = rw (e, g) }

    pub lay-one : n < length out → Turned (lay_of s n out) (turns.Go s (n + 1)) (set out n s.octet)
    unfolding lay_of
    lay-one l = let e = eq-eqb s.mode mode.low h in let g = lt-leb (length out) n l in record { answered = rw (e, g); leaves = rw (e, g) }

-- ---- a character

turned_as : {a a' : After} {r : Turn} {out : List ℕ} → a ≡ a' → Turned a r out → Turned a' r out
turned_as e t = record { answered = t.answered ∙ ap (λ (a : After). a.turn) e; leaves = t.leaves ∙ ap (λ (a : After). a.out) e }

settled-bad : (t : State) (n : ℕ) (out : List ℕ) → (t.why ≡ 0 → ⊥) → Turned (settled t n out) (turns.Bad t.why) out
unfolding settled
settled-bad t n out h = let e = ne_eqb t.why 0 h in record { answered = rw e; leaves = rw e }

settled-filled : (t : State) (n : ℕ) (out : List ℕ) {r : Reach} {out' : List ℕ} → t.why ≡ 0 → Filled t.before n t.upto out r out'
    → lay_by r t out' ≡ settled t n out
unfolding settled
settled-filled t n out {r} {out'} h p =
    rw (eq-eqb t.why 0 h) (ap (λ (q : Reach). lay_by q t out') p.answered ∙ ap (lay_by (fill_of t.before n t.upto out).fill t) p.leaves)

module _ (f : Style) (s : State) (x n : ℕ) (out : List ℕ) {t : State} {b : ℕ} (e : t ≡ moved f x n b s) (g : b ≡ get_or out s.beside 0) where
  take-is : settled t n out ≡ take_of f s x n out
  unfolding take_of
  take-is = ap (λ (u : State). settled u n out) (e ∙ ap (λ (c : ℕ). moved f x n c s) g)

  pub take-bad : (t.why ≡ 0 → ⊥) → Turned (take_of f s x n out) (turns.Bad t.why) out
  take-bad h = turned_as take-is (settled-bad t n out h)

  module _ {r : Reach} {out' : List ℕ} (h : t.why ≡ 0) (p : Filled t.before n t.upto out r out') where
    pub take-laid : {m : ℕ} {q : Turn} {out'' : List ℕ} → r ≡ reach.To m → Turned (lay_of t m out') q out'' → Turned (take_of f s x n out) q out''
    take-laid {m} k l = turned_as (sym (ap (λ (r : Reach). lay_by r t out') k) ∙ settled-filled t n out h p ∙ take-is) l

    pub take_no : {w : ℕ} → r ≡ reach.Bad w → Turned (take_of f s x n out) (turns.Bad w) out'
    take_no k =
        turned_as (sym (ap (λ (r : Reach). lay_by r t out') k) ∙ settled-filled t n out h p ∙ take-is) (record { answered = refl; leaves = refl })

    pub take_long : r ≡ reach.Long → Turned (take_of f s x n out) turns.Long out'
    take_long k =
        turned_as (sym (ap (λ (r : Reach). lay_by r t out') k) ∙ settled-filled t n out h p ∙ take-is) (record { answered = refl; leaves = refl })

-- ---- there are no more octets than the buffer holds

abbrev pub Within : Turn → ℕ → Type 0
Within (turns.Go s m) k = m ≤ k
Within (turns.Bad w) k = Unit
Within turns.Long k = Unit

abbrev Reaches : Reach → ℕ → Type 0
Reaches (reach.To m) k = m ≤ k
Reaches (reach.Bad w) k = Unit
Reaches reach.Long k = Unit

pub record Kept (a : After) (k : ℕ) : Type 0 where
  pub size : length a.out ≡ k
  pub few : Within a.turn k

lay-kept : (s : State) (n : ℕ) (out : List ℕ) → n ≤ length out → Kept (lay_of s n out) (length out)
unfolding lay_of
lay-kept s n out h = go (eqb s.mode mode.low) refl (leb (length out) n) refl
  where
    go : (a : Bool) → eqb s.mode mode.low ≡ a → (b : Bool) → leb (length out) n ≡ b → Kept (lay_of s n out) (length out)
    go false p b q = rw p (record { size = refl; few = h })
    go true p true q = rw (p, q) (record { size = refl; few = tt })
    go true p false q =
        let l : n < length out = leb-false (length out) n q in
        let m : n + 1 ≤ length out = omega arith in
        rw (p, q) (record { size = length-set out n s.octet; few = m })

fill-kept : (from n upto : ℕ) (out : List ℕ) → n ≤ length out
    → (length (fill_of from n upto out).out ≡ length out) × Reaches (fill_of from n upto out).fill (length out)
unfolding fill_of
fill-kept from n upto out h = go (leb upto n) refl (leb n from) refl (eqb ((upto - n) % (n - from)) 0) refl (ltb (length out) upto) refl
  where
    go : (a : Bool) → leb upto n ≡ a → (b : Bool) → leb n from ≡ b → (c : Bool) → eqb ((upto - n) % (n - from)) 0 ≡ c
        → (d : Bool) → ltb (length out) upto ≡ d
        → (length (fill_of from n upto out).out ≡ length out) × Reaches (fill_of from n upto out).fill (length out)
    go true p b q c r d u = rw p (refl, h)
    go false p true q c r d u = rw (p, q) (refl, tt)
    go false p false q false r d u = rw (p, q, r) (refl, tt)
    go false p false q true r true u = rw (p, q, r, u) (refl, tt)
    go false p false q true r false u = rw (p, q, r, u) (repeated-length (upto - n) from n out, ltb-false (length out) upto u)

by-kept : (r : Reach) (t : State) (out : List ℕ) (k : ℕ) → length out ≡ k → Reaches r k → Kept (lay_by r t out) k
by-kept (reach.To m) t out k e h = subst (Kept (lay_of t m out)) e (lay-kept t m out (subst (λ (j : ℕ). m ≤ j) (sym e) h))
by-kept (reach.Bad w) t out k e h = record { size = e; few = tt }
by-kept reach.Long t out k e h = record { size = e; few = tt }

settled-kept : (t : State) (n : ℕ) (out : List ℕ) → n ≤ length out → Kept (settled t n out) (length out)
unfolding settled
settled-kept t n out h = go (eqb t.why 0) refl
  where
    go : (a : Bool) → eqb t.why 0 ≡ a → Kept (settled t n out) (length out)
    go false p = rw p (record { size = refl; few = tt })
    go true p =
        let k = fill-kept t.before n t.upto out h in
        rw p (by-kept (fill_of t.before n t.upto out).fill t (fill_of t.before n t.upto out).out (length out) k.0 k.1)

pub take-kept : (f : Style) (s : State) (x n : ℕ) (out : List ℕ) → n ≤ length out → Kept (take_of f s x n out) (length out)
unfolding take_of
take-kept f s x n out h = settled-kept (moved f x n (get_or out s.beside 0) s) n out h

-- ---- the text that is left

module _ (f : Style) (s : State) (x n size i : ℕ) (out xs : List ℕ) where
  pub from-go : (t : State) (m : ℕ) → (take_of f s x n out).turn ≡ turns.Go t m
      → read_from f s n size i out (x ∷ xs) ≡ read_from f t m size (i + 1) (take_of f s x n out).out xs
  unfolding read_from
  from-go t m e = rw e

  pub from-bad : (w : ℕ) → (take_of f s x n out).turn ≡ turns.Bad w → read_from f s n size i out (x ∷ xs) ≡ ended (Bad i w) (take_of f s x n out).out
  unfolding read_from
  from-bad w e = rw e

  pub from-long : (take_of f s x n out).turn ≡ turns.Long → read_from f s n size i out (x ∷ xs) ≡ ended Long (take_of f s x n out).out
  unfolding read_from
  from-long e = rw e

-- i characters are read, and with what is left they decide
pub record Reading (f : Style) (text before out : List ℕ) (s : State) (n i : ℕ) : Type 0 where
  pub within : i ≤ length text + 1
  pub few : n ≤ length out
  pub size : length out ≡ length before
  pub rest : read_from f s n (length text) i out (drop i (text ++ (10 ∷ []))) ≡ read_of f text before

pub read-start : {f : Style} {text out : List ℕ} {s : State} → s ≡ begun → Reading f text out out s 0 0
unfolding read_of
read-start {f} {text} {out} {s} e = record {
  within = omega arith;
  few = omega arith;
  size = refl;
  rest = ap (λ (t : State). read_from f t 0 (length text) 0 out (text ++ (10 ∷ []))) e;
}

dumped : {f : Style} {text before out : List ℕ} {r : Read} → ended r out ≡ read_of f text before → Dumped f text before r out
dumped e = record { answered = ap (λ (d : Ended). d.read) e; leaves = ap (λ (d : Ended). d.out) e }

module _ {f : Style} {text before out : List ℕ} {s : State} {n i : ℕ} (r : Reading f text before out s n i) where
  module _ (h : i ≤ length text) {x : ℕ} (e : x ≡ get_or text i 10) {q : Turn} {out' : List ℕ} (t : Turned (take_of f s x n out) q out') where
    next : read_from f s n (length text) i out (x ∷ drop (i + 1) (text ++ (10 ∷ []))) ≡ read_of f text before
    next =
        ap (λ (y : ℕ). read_from f s n (length text) i out (y ∷ drop (i + 1) (text ++ (10 ∷ [])))) e
        ∙ sym (ap (read_from f s n (length text) i out) (closed-cons text i h))
        ∙ r.rest

    pub read_kept : length out' ≡ length before
    read_kept = ap length t.leaves ∙ (take-kept f s x n out r.few).size ∙ r.size

    pub read-go : {u : State} {m : ℕ} → q ≡ turns.Go u m → Reading f text before out' u m (i + 1)
    read-go {u} {m} g =
        let k = take-kept f s x n out r.few in
        let a : (take_of f s x n out).turn ≡ turns.Go u m = sym t.answered ∙ g in
        let w : m ≤ length out = subst (λ (v : Turn). Within v (length out)) a k.few in
        record {
          within = omega arith;
          few = omega (arith, read_kept, r.size, w);
          size = read_kept;
          rest = ap (λ (o : List ℕ). read_from f u m (length text) (i + 1) o (drop (i + 1) (text ++ (10 ∷ [])))) t.leaves
              ∙ sym (from-go f s x n (length text) i out (drop (i + 1) (text ++ (10 ∷ []))) u m a)
              ∙ next;
        }

    pub read-bad : {w : ℕ} → q ≡ turns.Bad w → Dumped f text before (Bad i w) out'
    read-bad {w} g =
        dumped
        (ap (ended (Bad i w)) t.leaves
        ∙ sym (from-bad f s x n (length text) i out (drop (i + 1) (text ++ (10 ∷ []))) w (sym t.answered ∙ g))
        ∙ next)

    pub read-long : q ≡ turns.Long → Dumped f text before Long out'
    read-long g =
        dumped
        (ap (ended Long) t.leaves
        ∙ sym (from-long f s x n (length text) i out (drop (i + 1) (text ++ (10 ∷ []))) (sym t.answered ∙ g))
        ∙ next)

  module _ (h : length text < i) where
    last : read_from f s n (length text) i out [] ≡ read_of f text before
    last = sym (ap (read_from f s n (length text) i out) (closed-end text i h)) ∙ r.rest

    pub read-star : s.star ≡ true → Dumped f text before (Bad (length text) why.form) out
    unfolding read_from
    read-star p = dumped (sym (rw p at (sym last)))

    pub read_done : s.star ≡ false → Dumped f text before (Octets n) out
    unfolding read_from
    read_done p = dumped (sym (rw p at (sym last)))
