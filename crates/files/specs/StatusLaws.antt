-- A status that is one of fewer is one of more, and what a call's number says of it. Assumes nothing.
use Rattle.std.specs.Prelude.{◌≡◌, refl, Bool, true, false, cond, [], ◌∷◌, ℕ, eqb, ℤ, pos, negsuc, Result, Ok, Err}
use Rattle.std.proofs.Common.{ap, eqb-true, eq-eqb}
use Rattle.std.proofs.lemmas.Bool.{false≢true, eqb-false}
use Rattle.files.specs.declared.status.Stop.{Stop}
use Rattle.files.specs.declared.status.Stop.TheVariants.{Refused, Failed, No}
use Rattle.files.specs.Status.{among, one_of, Delivered, Denied, Exited, Answers, number_of, status_of}
use Rattle.files.specs.Status as status

pub among_first : (r a b : ℕ) → r ≡ a → among r (a ∷ b ∷ []) ≡ true
among_first r a b e = ap (λ (t : Bool). cond t true (cond (eqb r b) true false)) (eq-eqb r a e)

pub among_second : (r a b : ℕ) → r ≡ b → among r (a ∷ b ∷ []) ≡ true
among_second r a b e = go (eqb r a)
  where
    go : (t : Bool) → cond t true (cond (eqb r b) true false) ≡ true
    go true = refl
    go false = ap (λ (t : Bool). cond t true false) (eq-eqb r b e)

pub failed-delivered : (r : ℤ) → r ≡ pos status.failed → Delivered r
failed-delivered r e = ap (one_of (status.done ∷ status.failed ∷ [])) e

pub failed-exited : (r : ℤ) → r ≡ pos status.failed → Exited r
failed-exited r e = ap (one_of (status.done ∷ status.refused ∷ status.failed ∷ status.no ∷ [])) e

pub refused-exited : (r : ℤ) → r ≡ pos status.refused → Exited r
refused-exited r e = ap (one_of (status.done ∷ status.refused ∷ status.failed ∷ status.no ∷ [])) e

pub delivered-exited : (r : ℤ) → Delivered r → Exited r
delivered-exited (pos k) h = go (eqb k 0) (eqb k 1) (eqb k 2) (eqb k 3) h
  where
    go : (a b c d : Bool) → cond a true (cond c true false) ≡ true → cond a true (cond b true (cond c true (cond d true false))) ≡ true
    go true b c d h = h
    go false true c d h = refl
    go false false true d h = h
    go false false false d h = absurd (false≢true h)
delivered-exited (negsuc k) h = h

pub denied-exited : (r : ℤ) → Denied r → Exited r
denied-exited (pos k) h = go (eqb k 0) (eqb k 1) (eqb k 2) (eqb k 3) h
  where
    go : (a b c d : Bool) → cond c true (cond d true false) ≡ true → cond a true (cond b true (cond c true (cond d true false))) ≡ true
    go true b c d h = refl
    go false true c d h = refl
    go false false c d h = h
denied-exited (negsuc k) h = h

pub answers-done : (n : ℕ) (r : ℤ) → n ≡ 0 → Delivered r → Answers n r
answers-done n r e w = record { done = λ _. w; refuses = λ z. absurd (z e) }

pub answers-refused : (n : ℕ) (r : ℤ) → (n ≡ 0 → ⊥) → r ≡ pos status.refused → Answers n r
answers-refused n r z e = record { done = λ i. absurd (z i); refuses = λ _. e }

pub answers-exited : (n : ℕ) (r : ℤ) → Answers n r → Exited r
answers-exited n r a = go (eqb n 0) refl
  where
    go : (b : Bool) → eqb n 0 ≡ b → Exited r
    go true t = delivered-exited r (a.done (eqb-true n 0 t))
    go false t = refused-exited r (a.refuses (eqb-false n 0 t))

-- however a command ends, it is with one of the four
pub ends-exited : {T : Type 0} (r : Result T Stop) → Exited (status_of r)
ends-exited (Ok x) = refl
ends-exited (Err Refused) = refl
ends-exited (Err Failed) = refl
ends-exited (Err No) = refl

-- what stops a delivery denies it too
pub stopped-denied : (s : Stop) → Delivered (pos (number_of s)) → Denied (pos (number_of s))
stopped-denied Refused h = absurd (false≢true h)
stopped-denied Failed h = refl
stopped-denied No h = absurd (false≢true h)
