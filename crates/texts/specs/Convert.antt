-- A name's text and its wire form are one-to-one: each of the two conversions undoes the other, takes acceptable names to acceptable
-- names, and changes the length by two. Assumes nothing.
use Rattle.std.specs.Prelude.{◌≡◌, refl, Bool, true, false, cond, List, [], ◌∷◌, ◌++◌, ℕ, zero, suc, ◌+◌, ◌-◌, ◌≤◌, eqb, length, take}
use Rattle.std.proofs.Common.{sym, ap, ◌∙◌, inl, inr, append-nil, arith, length-append, length-take, length-drop, eqb-true, ne_eqb}
use Rattle.std.proofs.Math.Seq.{take-append-add}
use Rattle.octets.specs.Lists.{All}
use Rattle.names.specs.Names.{alnum, Ldh, Label, wire, IsName}
use Rattle.names.specs.Complete.{wire-some}
use Rattle.texts.specs.Texts.{dotted, text, IsText, run, wire_from, wire_of, dots_from, text_of}

-- ---- text to wire form

-- a label has no dot
ldh-not-dot : (x : ℕ) → Ldh x → eqb x 46 ≡ false
unfolding alnum
ldh-not-dot x (inl a) = ne_eqb x 46 (λ q. let h : alnum 46 ≡ true = rw q at a in let z : ◌≡◌ {A = ℕ} 0 1 = cc in omega arith)
ldh-not-dot x (inr q) = rw q

run-label : (l t : List ℕ) → All Ldh l → run t ≡ 0 → run (l ++ t) ≡ length l
unfolding run
run-label [] t o e = e
run-label (x ∷ l) t o e = rw (ldh-not-dot x o.0) (ap suc (run-label l t o.1 e))

wire-label : (l t : List ℕ) → All Ldh l → wire_from (l ++ t) ≡ l ++ wire_from t
unfolding wire_from
wire-label [] t o = refl
wire-label (x ∷ l) t o = rw (ldh-not-dot x o.0) (ap (λ (r : List ℕ). x ∷ r) (wire-label l t o.1))

one_label : (l t : List ℕ) → All Ldh l → run t ≡ 0 → wire_of (l ++ t) ≡ length l ∷ (l ++ wire_from t)
unfolding wire_of
one_label l t o e = let r = run-label l t o e in let w = wire-label l t o in cc

wire-dotted : (ms : List (List ℕ)) (l : List ℕ) → Label l → All Label ms → wire_of (dotted l ms) ≡ wire (l ∷ ms)
unfolding wire_from run wire_of
wire-dotted [] l o p = ap wire_of (sym (append-nil l)) ∙ one_label l [] o.octets refl
wire-dotted (m ∷ ms) l o p =
    one_label l (46 ∷ dotted m ms) o.octets refl
    ∙ ap (λ (w : List ℕ). length l ∷ (l ++ w)) (wire-dotted ms m p.0 p.1)

-- the wire form of the text of labels
pub wire-of-labels : (ls : List (List ℕ)) → All Label ls → 1 ≤ length ls → wire_of (text ls) ≡ wire ls
wire-of-labels [] o n = absurd (omega arith)
wire-of-labels (l ∷ ls) o n = wire-dotted ls l o.0 o.1

-- ---- wire form to text

dots-label : (l t : List ℕ) → dots_from (length l) (l ++ t) ≡ l ++ dots_from 0 t
unfolding dots_from
dots-label [] t = refl
dots-label (x ∷ l) t = ap (λ (r : List ℕ). x ∷ r) (dots-label l t)

-- all but the root octet of a label and what follows it
before_root : (l : List ℕ) (ms : List (List ℕ)) → take (length (l ++ wire ms) - 1) (l ++ wire ms) ≡ l ++ take (length (wire ms) - 1) (wire ms)
before_root l ms =
    let s = wire-some ms in
    let e : length (l ++ wire ms) - 1 ≡ length l + (length (wire ms) - 1) = simp length-append (omega arith) in
    rw e (take-append-add l (wire ms) (length (wire ms) - 1))

dots-wire : (ms : List (List ℕ)) (l : List ℕ) → dots_from (length l) (take (length (l ++ wire ms) - 1) (l ++ wire ms)) ≡ dotted l ms
unfolding dots_from
dots-wire [] l = rw (before_root l []) (dots-label l [] ∙ append-nil l)
dots-wire (m ∷ ms) l =
    let a = length-append m (wire ms) in
    let s = wire-some ms in
    let e : suc (length (m ++ wire ms)) - 1 ≡ suc (length (m ++ wire ms) - 1) = omega arith in
    rw (before_root l (m ∷ ms), e) (dots-label l _ ∙ ap (λ (r : List ℕ). l ++ (46 ∷ r)) (dots-wire ms m))

-- the text of the wire form of labels
pub text-of-labels : (ls : List (List ℕ)) → 1 ≤ length ls → text_of (wire ls) ≡ text ls
unfolding text_of
text-of-labels [] n = absurd (omega arith)
text-of-labels (l ∷ ls) n =
    let e : suc (length (l ++ wire ls)) - 2 ≡ length (l ++ wire ls) - 1 = omega arith in
    rw e (dots-wire ls l)

-- ---- lengths

pub from-length : (t : List ℕ) → length (wire_from t) ≡ length t + 1
unfolding wire_from
from-length [] = refl
from-length (x ∷ xs) = let h = from-length xs in omega arith

pub wire-length : (t : List ℕ) → length (wire_of t) ≡ length t + 2
unfolding wire_of
wire-length t = let h = from-length t in omega arith

dots-length : (k : ℕ) (w : List ℕ) → length (dots_from k w) ≡ length w
unfolding dots_from
dots-length k [] = refl
dots-length zero (x ∷ xs) = ap suc (dots-length x xs)
dots-length (suc k) (x ∷ xs) = ap suc (dots-length k xs)

pub text-length : (w : List ℕ) → length (text_of w) ≡ length w - 2
unfolding text_of
text-length w = dots-length _ _ ∙ simp (length-take, length-drop) (omega arith)

-- ---- one-to-one

-- one octet more of a text and of its wire form
dots-back : (x : ℕ) (xs w : List ℕ) → dots_from (run xs) w ≡ xs → dots_from (run (x ∷ xs)) (cond (eqb x 46) (run xs) x ∷ w) ≡ x ∷ xs
unfolding run dots_from
dots-back x xs w h = go (eqb x 46) refl
  where
    go : (b : Bool) → eqb x 46 ≡ b → dots_from (cond b 0 (suc (run xs))) (cond b (run xs) x ∷ w) ≡ x ∷ xs
    go true e = let q : x ≡ 46 = eqb-true x 46 e in cc
    go false e = ap (λ (r : List ℕ). x ∷ r) h

back : (t : List ℕ) → dots_from (run t) (take (length t) (wire_from t)) ≡ t
unfolding run dots_from wire_from
back [] = refl
back (x ∷ xs) = dots-back x xs (take (length xs) (wire_from xs)) (back xs)

-- a text comes back from its wire form, acceptable or not
pub text-wire : (t : List ℕ) → text_of (wire_of t) ≡ t
unfolding text_of wire_of
text-wire t =
    let h = from-length t in
    let e : suc (length (wire_from t)) - 2 ≡ length t = omega arith in
    rw e (back t)

-- so no two texts have one wire form
pub wire-injective : (t u : List ℕ) → wire_of t ≡ wire_of u → t ≡ u
wire-injective t u e = sym (text-wire t) ∙ ap text_of e ∙ text-wire u

-- an acceptable name comes back from its text
pub wire-text : (w : List ℕ) → IsName w → wire_of (text_of w) ≡ w
wire-text w o = rw o.is (ap wire_of (text-of-labels o.labels o.some) ∙ wire-of-labels o.labels o.each o.some)

-- ---- acceptable names

pub wire-of-text : (t : List ℕ) → IsText t → IsName (wire_of t)
wire-of-text t o = record {
  labels = o.labels;
  some = o.some;
  each = o.each;
  is = ap wire_of o.is ∙ wire-of-labels o.labels o.each o.some;
  short = (let h = o.short in let l = wire-length t in omega arith);
}

pub text-of-wire : (w : List ℕ) → IsName w → IsText (text_of w)
text-of-wire w o = record {
  labels = o.labels;
  some = o.some;
  each = o.each;
  is = ap text_of o.is ∙ text-of-labels o.labels o.some;
  short = (let h = o.short in let l = text-length w in omega arith);
}

-- ---- labels of a text are short

pub run_short : (t : List ℕ) → run t ≤ length t
unfolding run
run_short [] = omega arith
run_short (x ∷ xs) = go (eqb x 46) (run_short xs)
  where
    go : (b : Bool) → run xs ≤ length xs → cond b 0 (suc (run xs)) ≤ suc (length xs)
    go true h = omega arith
    go false h = omega arith
