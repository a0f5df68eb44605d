-- A text that is no list is refused within itself: at one of its characters, or at its end. Assumes nothing.
use Rattle.std.specs.Prelude.{◌≡◌, refl, Bool, true, false, cond, List, [], ◌∷◌, ◌++◌, ℕ, ◌+◌, ◌≤◌, leb, ltb, eqb, length, set}
use Rattle.std.proofs.Common.{subst, arith, length-append, ltb-false, eq-eqb}
use Rattle.inputs.specs.Why as why
use Rattle.inputs.specs.Read.{Read, Octets, Bad, Long}
use Rattle.groups.specs.Groups as groups
use Rattle.groups.specs.GroupsWithin.{bad-within}
use Rattle.groups.specs.Escapes as escapes
use Rattle.forms.specs.Fronts.{form_of}
use Rattle.forms.specs.Forms.{kind_of, as_of, list_of}

abbrev Inside : ℕ → Read → Type 0
Inside k (Octets n) = Unit {0}
Inside k (Bad at w) = at ≤ k
Inside k Long = Unit {0}

-- ---- escapes

escapes-from : (k at high n i : ℕ) (out l : List ℕ) → i + length l ≤ k + 1 → Inside k (escapes.read_from at high n i out l).read
unfolding escapes.read_from
escapes-from k at high n i out [] h = tt
escapes-from k at high n i out (x ∷ xs) h =
    go (eqb (escapes.next at x) 5) (eqb (escapes.next at x) 4) (leb (length out) n)
    (λ m out'. escapes-from k (escapes.next at x) x m (i + 1) out' xs (omega arith))
  where
    rest : ℕ → List ℕ → escapes.Ended
    rest m out' = escapes.read_from (escapes.next at x) x m (i + 1) out' xs

    go : (a b d : Bool) → ((m : ℕ) (out' : List ℕ) → Inside k (rest m out').read)
        → Inside k (cond a (escapes.ended (Bad i why.form) out)
        (cond b (cond d (escapes.ended Long out) (rest (n + 1) (set out n (escapes.octet_of high x)))) (rest n out))).read
    go true b d q = omega arith
    go false true true q = tt
    go false true false q = q (n + 1) (set out n (escapes.octet_of high x))
    go false false d q = q n out

escapes-within : (t out : List ℕ) → Inside (length t) (escapes.read_of t out).read
unfolding escapes.read_of
escapes-within t out = escapes-from (length t) 0 48 0 0 out (t ++ (10 ∷ [])) (rw (length-append t (10 ∷ [])) (omega arith))

-- ---- lists

groups-within : (f : ℕ) (t out : List ℕ) → Inside (length t) (groups.read_of (kind_of f) t out).read
groups-within f t out = go (groups.read_of (kind_of f) t out).read refl
  where
    go : (r : Read) → (groups.read_of (kind_of f) t out).read ≡ r → Inside (length t) r
    go (Octets n) e = tt
    go (Bad at w) e = bad-within (kind_of f) t out e
    go Long e = tt

list_inside : (t out : List ℕ) → Inside (length t) (list_of t out).read
unfolding list_of as_of
list_inside t out = go (ltb 6 (form_of t)) refl (ltb (form_of t) 6) refl
  where
    go : (a : Bool) → ltb 6 (form_of t) ≡ a → (b : Bool) → ltb (form_of t) 6 ≡ b → Inside (length t) (list_of t out).read
    go true p b q = rw p (omega arith)
    go false p true q = rw (p, q) (groups-within (form_of t) t out)
    go false p false q =
        let e : form_of t ≡ 6 = omega (arith, ltb-false 6 (form_of t) p, ltb-false (form_of t) 6 q) in
        rw (p, q, eq-eqb (form_of t) 6 e) (escapes-within t out)

pub list-within : (t out : List ℕ) {at w : ℕ} → (list_of t out).read ≡ Bad at w → at ≤ length t
list-within t out e = subst (Inside (length t)) e (list_inside t out)
