-- A C array is read as octets only where nothing else follows its closing brace than `Follows` says: nothing that stands there is passed over. Assumes nothing.
use Rattle.std.proofs.Math.Path.{◌≡◌, refl}
use Rattle.std.proofs.Common.{sym, arith, eqb-true, leb-false}
use Rattle.std.specs.Prelude.{Bool, ℕ, ◌+◌, ◌-◌, ◌*◌, ◌<◌, ltb, leb, length, drop}
use Rattle.std.proofs.Math.Bool.{true, false, cond}
use mathlib.Core.List.{List, [], ◌∷◌, ◌++◌}
use Rattle.std.proofs.Math.Dec.{eqb}
use Rattle.std.proofs.lemmas.List.{drop-append-le}
use Rattle.inputs.specs.Why as why
use Rattle.inputs.specs.Read.{Read, Octets, Bad, Long}
use Rattle.forms.specs.Arrays.{After}
use Rattle.forms.specs.Places.{blank}
use Rattle.forms.specs.Arrays.{decimal, word, tail, begun, but, awaited, digit_on, digits, early, late, after, ended_of, tail_from, tail_of, closed_of}
use Rattle.forms.specs.Arrays.{answer_of, closing, listed, read_of}
use Rattle.forms.specs.Follows.{Spaced, here, blanks, Ended, end, Closed, close, Digits, all, digit, Counted, number}
use Rattle.forms.specs.Follows.{Words, space, letter, equals, Declared, none, declaration, nothing, semicolon, Follows, Alone}

-- a text that is refused is not read as octets
refused : {A : Type 0} {at w m : ℕ} → Bad at w ≡ Octets m → A
refused e = absurd (let z : ◌≡◌ {A = ℕ} 0 1 = cc in omega arith)

module _ (n size m : ℕ) where
  -- the characters t, and the line break after them, are read as octets from a phase on
  abbrev ReadOn : After → ℕ → List ℕ → Type 0
  ReadOn s i t = tail_from s n size i (t ++ (10 ∷ [])) ≡ Octets m

  -- the same after a character that led to s: of all that is left, and of the characters before the line break
  abbrev Arrived : ℕ → List ℕ → After → Type 0
  Arrived i t s = cond (eqb s.why 0) (tail_from s n size (i + 1) t) (Bad i s.why) ≡ Octets m

  abbrev Stepped : ℕ → List ℕ → After → Type 0
  Stepped i t s = Arrived i (t ++ (10 ∷ [])) s

  ends : (t : List ℕ) (l i : ℕ) → ReadOn (tail 6 l 0) i t → Spaced Ended t
  unfolding tail_from after late
  ends [] l i e = here end
  ends (x ∷ t) l i e = go (ends t l (i + 1)) (blank x) refl e
    where
      go : (ReadOn (tail 6 l 0) (i + 1) t → Spaced Ended t) → (b : Bool) → blank x ≡ b
          → Stepped i t (cond b (tail 6 l 0) (but why.form (tail 6 l 0))) → Spaced Ended (x ∷ t)
      go more true p r = blanks p (more r)
      go more false p r = refused r

  closes : (t : List ℕ) (l i : ℕ) → ReadOn (tail 5 l 0) i t → Spaced Closed t
  unfolding tail_from after late ended_of
  closes [] l i e = refused e
  closes (x ∷ t) l i e = go (closes t l (i + 1)) (blank x) refl (eqb x 59) refl e
    where
      go : (ReadOn (tail 5 l 0) (i + 1) t → Spaced Closed t) → (b : Bool) → blank x ≡ b → (c : Bool) → eqb x 59 ≡ c
          → Stepped i t (cond b (tail 5 l 0) (awaited c 6 (tail 5 l 0))) → Spaced Closed (x ∷ t)
      go more true p c q r = blanks p (more r)
      go more false p true q r = here (close (eqb-true x 59 q) (ends t l (i + 1) r))
      go more false p false q r = refused r

  counts : (t : List ℕ) (l i : ℕ) → ReadOn (tail 4 l 0) i t → Digits n l t
  unfolding tail_from after digits decimal ended_of
  counts [] l i e = go (eqb l n) e
    where
      go : (k : Bool) → Arrived i [] (cond k (tail 5 l 0) (but why.count (tail 4 l 0))) → Digits n l []
      go true r = refused r
      go false r = refused r
  counts (x ∷ t) l i e = go (counts t (10 * l + (x - 48)) (i + 1)) (decimal x) refl (ltb 65535 l) (eqb l n) refl (blank x) refl (eqb x 59) refl e
    where
      go : (ReadOn (tail 4 (10 * l + (x - 48)) 0) (i + 1) t → Digits n (10 * l + (x - 48)) t)
          → (d : Bool) → decimal x ≡ d → (o : Bool) → (k : Bool) → eqb l n ≡ k → (b : Bool) → blank x ≡ b → (c : Bool) → eqb x 59 ≡ c
          → Stepped i t
          (cond d (cond o (but why.count (tail 4 l 0)) (tail 4 (10 * l + (x - 48)) 0))
          (cond k (cond b (tail 5 l 0) (awaited c 6 (tail 4 l 0))) (but why.count (tail 4 l 0))))
          → Digits n l (x ∷ t)
      go more true p true k q b u c v r = refused r
      go more true p false k q b u c v r = digit p (more r)
      go more false p o true q true u c v r = all (eqb-true l n q) (blanks u (closes t l (i + 1) r))
      go more false p o true q false u true v r = all (eqb-true l n q) (here (close (eqb-true x 59 v) (ends t l (i + 1) r)))
      go more false p o true q false u false v r = refused r
      go more false p o false q b u c v r = refused r

  numbers : (t : List ℕ) (i : ℕ) → ReadOn (tail 3 0 0) i t → Spaced (Counted n) t
  unfolding tail_from after late ended_of
  numbers [] i e = refused e
  numbers (x ∷ t) i e = go (numbers t (i + 1)) (blank x) refl (decimal x) refl e
    where
      go : (ReadOn (tail 3 0 0) (i + 1) t → Spaced (Counted n) t) → (b : Bool) → blank x ≡ b → (d : Bool) → decimal x ≡ d
          → Stepped i t (cond b (tail 3 0 0) (cond d (tail 4 (10 * 0 + (x - 48)) 0) (but why.form (tail 3 0 0)))) → Spaced (Counted n) (x ∷ t)
      go more true p d q r = blanks p (more r)
      go more false p true q r = here (number q (digit q (counts t (10 * 0 + (x - 48)) (i + 1) r)))
      go more false p false q r = refused r

  words : (t : List ℕ) (i : ℕ) → ReadOn (tail 2 0 0) i t → Words n t
  unfolding tail_from after early ended_of
  words [] i e = refused e
  words (x ∷ t) i e = go (words t (i + 1)) (blank x) refl (word x) refl (eqb x 61) refl e
    where
      go : (ReadOn (tail 2 0 0) (i + 1) t → Words n t) → (b : Bool) → blank x ≡ b → (d : Bool) → word x ≡ d → (c : Bool) → eqb x 61 ≡ c
          → Stepped i t (cond b (tail 2 0 0) (cond d (tail 2 0 0) (awaited c 3 (tail 2 0 0)))) → Words n (x ∷ t)
      go more true p d q c u r = space p (more r)
      go more false p true q c u r = letter q (more r)
      go more false p false q true u r = equals (eqb-true x 61 u) (numbers t (i + 1) r)
      go more false p false q false u r = refused r

  declares : (t : List ℕ) (i : ℕ) → ReadOn (tail 1 0 0) i t → Spaced (Declared n) t
  unfolding tail_from after early
  declares [] i e = here none
  declares (x ∷ t) i e = go (declares t (i + 1)) (blank x) refl (word x) refl e
    where
      go : (ReadOn (tail 1 0 0) (i + 1) t → Spaced (Declared n) t) → (b : Bool) → blank x ≡ b → (d : Bool) → word x ≡ d
          → Stepped i t (cond b (tail 1 0 0) (awaited d 2 (tail 1 0 0))) → Spaced (Declared n) (x ∷ t)
      go more true p d q r = blanks p (more r)
      go more false p true q r = here (declaration q (words t (i + 1) r))
      go more false p false q r = refused r

  follows : (t : List ℕ) (i : ℕ) → ReadOn begun i t → Follows n t
  unfolding tail_from after early
  follows [] i e = here nothing
  follows (x ∷ t) i e = go (follows t (i + 1)) (blank x) refl (eqb x 59) refl e
    where
      go : (ReadOn begun (i + 1) t → Follows n t) → (b : Bool) → blank x ≡ b → (c : Bool) → eqb x 59 ≡ c
          → Stepped i t (cond b begun (awaited c 1 begun)) → Follows n (x ∷ t)
      go more true p c q r = blanks p (more r)
      go more false p true q r = here (semicolon (eqb-true x 59 q) (declares t (i + 1) r))
      go more false p false q r = refused r

  -- the octets are those of the list
  counted : (t : List ℕ) (s : After) (i : ℕ) → tail_from s n size i t ≡ Octets m → n ≡ m
  unfolding tail_from ended_of
  counted [] s i e = go (ltb s.phase 2) (eqb s.phase 6) e
    where
      go : (a b : Bool) → cond a (Octets n) (cond b (Octets n) (Bad size why.form)) ≡ Octets m → n ≡ m
      go true b r = cc
      go false true r = cc
      go false false r = refused r
  counted (x ∷ t) s i e = go (counted t (after x n s) (i + 1)) (eqb (after x n s).why 0) e
    where
      go : (tail_from (after x n s) n size (i + 1) t ≡ Octets m → n ≡ m)
          → (a : Bool) → cond a (tail_from (after x n s) n size (i + 1) t) (Bad i (after x n s).why) ≡ Octets m → n ≡ m
      go more true r = more r
      go more false r = refused r

closed-alone : (k n : ℕ) (t : List ℕ) {m : ℕ} → closed_of k n t ≡ Octets m → (n ≡ m) × Alone k n t
unfolding closed_of tail_of
closed-alone k n t {m} e = go (leb (length t) k) refl e
  where
    go : (b : Bool) → leb (length t) k ≡ b
        → cond b (Bad (length t) why.form) (tail_from begun n (length t) (k + 1) (drop (k + 1) (t ++ (10 ∷ [])))) ≡ Octets m
        → (n ≡ m) × Alone k n t
    go true p r = refused r
    go false p r =
        let h : k < length t = leb-false (length t) k p in
        let q : drop (k + 1) (t ++ (10 ∷ [])) ≡ drop (k + 1) t ++ (10 ∷ []) = drop-append-le (k + 1) t (10 ∷ []) (omega arith) in (
          counted n (length t) m (drop (k + 1) (t ++ (10 ∷ []))) begun (k + 1) r,
          record { closed = h; rest = follows n (length t) m (drop (k + 1) t) (k + 1) (rw (sym q) r) },
        )

module _ (brace : ℕ) (t out : List ℕ) {m : ℕ} where
  -- an array that is read as m octets: its list is, and it stands alone
  pub array-alone : read_of brace t out ≡ Octets m → ((listed (brace + 1) t out).read ≡ Octets m) × Alone (closing (brace + 1) t) m t
  unfolding read_of
  array-alone e = go (listed (brace + 1) t out).read refl e
    where
      go : (r : Read) → (listed (brace + 1) t out).read ≡ r → answer_of (brace + 1) (closing (brace + 1) t) t r ≡ Octets m
          → ((listed (brace + 1) t out).read ≡ Octets m) × Alone (closing (brace + 1) t) m t
      go (Octets n) p r = let q = closed-alone (closing (brace + 1) t) n t r in rw (sym q.0) (p, q.1)
      go (Bad at w) p r = refused r
      go Long p r = absurd (let z : ◌≡◌ {A = ℕ} 0 1 = cc in omega arith)
