-- Fields one after another, behind one test of the length for all of them. Assumes nothing.
use Rattle.std.specs.Prelude.{◌≡◌, refl, Bool, true, false, cond, List, ℕ, ◌+◌, ◌-◌, ◌≤◌, ◌<◌, ltb, leb, length, take, drop}
use Rattle.std.proofs.Common.{arith, le-leb, le-ltb, lt-ltb, ltb-true, ltb-false, length-drop, drop-drop}
use Rattle.std.proofs.lemmas.Bool.{lt-leb}
use Rattle.octets.specs.Fields.{part}

module _ {R : Type 0} (s : R) where
  -- a test turned round
  round : (n m : ℕ) (x : R) → cond (leb n m) x s ≡ cond (ltb m n) s x
  round n m x = go (ltb m n) refl
    where
      go : (b : Bool) → ltb m n ≡ b → cond (leb n m) x s ≡ cond b s x
      go true t = rw (lt-leb n m (ltb-true _ _ t))
      go false t = rw (le-leb n m (ltb-false _ _ t))

  -- two tests with one answer
  join : (l m n : ℕ) (x : R) → cond (ltb l m) s (cond (ltb (l - m) n) s x) ≡ cond (ltb l (m + n)) s x
  join l m n x = go (ltb l m) (ltb (l - m) n) refl refl
    where
      go : (b d : Bool) → ltb l m ≡ b → ltb (l - m) n ≡ d → cond b s (cond d s x) ≡ cond (ltb l (m + n)) s x
      go true d t u = let i : l < m = ltb-true _ _ t in let k : l < m + n = omega arith in rw (lt-ltb l (m + n) k)
      go false true t u =
          let i : m ≤ l = ltb-false _ _ t in
          let j : l - m < n = ltb-true _ _ u in
          let k : l < m + n = omega arith in
          rw (lt-ltb l (m + n) k)
      go false false t u =
          let i : m ≤ l = ltb-false _ _ t in
          let j : n ≤ l - m = ltb-false _ _ u in
          let k : m + n ≤ l = omega arith in
          rw (le-ltb l (m + n) k)

  pub part-is : (n : ℕ) (l : List ℕ) (next : List ℕ → List ℕ → R) → part s n l next ≡ cond (ltb (length l) n) s (next (take n l) (drop n l))
  unfolding part
  part-is n l next = round n (length l) (next (take n l) (drop n l))

  pub part-two : (m n : ℕ) (l : List ℕ) (next : List ℕ → List ℕ → List ℕ → R)
      → part s m l (λ x l. part s n l (λ y l. next x y l)) ≡ cond (ltb (length l) (m + n)) s (next (take m l) (take n (drop m l)) (drop (m + n) l))
  part-two m n l next = simp (part-is, length-drop, drop-drop) (join (length l) m n _)

  pub part-three : (k m n : ℕ) (l : List ℕ) (next : List ℕ → List ℕ → List ℕ → List ℕ → R)
      → part s k l (λ x l. part s m l (λ y l. part s n l (λ z l. next x y z l)))
      ≡ cond (ltb (length l) (k + (m + n))) s (next (take k l) (take m (drop k l)) (take n (drop (k + m) l)) (drop (k + (m + n)) l))
  part-three k m n l next = simp (part-is k l, part-two, length-drop, drop-drop) (join (length l) k (m + n) _)
