-- What holds of every body of a framed area: its length, its units in carrier 3, and that it is octets; and what the blocks are.
-- Assumes nothing.
use Rattle.std.specs.Prelude.{◌≡◌, Bool, true, false, length, take, drop, ltb, Result, Ok, Err}
use Rattle.std.proofs.Math.Path.{refl}
use Rattle.std.proofs.Common.{ap, ◌∙◌, subst, arith, length-drop, length-take-le, ltb-true, ltb-false}
use mathlib.Core.List.{List, [], ◌∷◌}
use Prim.Native.Nat.{ℕ, zero, suc, ◌+◌, ◌-◌, ◌%◌, ◌≤◌}
use Rattle.octets.specs.Numbers.{Octet, Bytes}
use Rattle.numbers.specs.declared.Refusal.{Refusal}
use Rattle.carriers.specs.declared.Carrier.{Carrier}
use Rattle.carriers.specs.declared.Carrier.TheVariants.{Router}
use Rattle.carriers.specs.Carriers.{header_of, is_joined, octets, Plain}
use Rattle.frames.specs.declared.Head.{Head}
use Rattle.frames.specs.Frame.{first_of, Framed, fault, framed, onto, after, frame_from, frame}
use Rattle.frames.specs.Area.{blocks_of}
use Rattle.octets.specs.Lists.{All}
use Rattle.octets.specs.ListsLaws.{all_take, all_drop}
use Rattle.frames.specs.HeadLaws.{first-own}
use Rattle.frames.specs.Laws.{past}
use Rattle.frames.specs.WalkLaws.{apart-false}

-- P of each body, where the area is framed
abbrev EachIn : (List ℕ → Type 0) → Framed → Type 0
EachIn P fault = Unit {0}
EachIn P (framed bs) = All P bs

each-onto : (P : List ℕ → Type 0) (own : Bool) (b : List ℕ) (f : Framed) → (own ≡ true → P b) → EachIn P f → EachIn P (onto own b f)
each-onto P own b fault p h = tt
each-onto P true b (framed bs) p h = (p refl, h)
each-onto P false b (framed bs) p h = h

-- S holds of an area and of what is left of it as the walk goes on, and gives P of the body that stands first
module _ (c : Carrier) (S P : List ℕ → Type 0)
    (rest : (x : ℕ) (xs : List ℕ) → S (x ∷ xs) → S xs)
    (body : (s : List ℕ) (n : ℕ) → S s → first_of c s ≡ Ok (Head.Option true (octets n)) → n ≤ length s → P (drop (header_of c) (take n s))) where
  each-option : (x : ℕ) (xs : List ℕ) (own : Bool) (n : ℕ) (b : Bool) → ltb (length xs) (n - 1) ≡ b → S (x ∷ xs)
      → first_of c (x ∷ xs) ≡ Ok (Head.Option own (octets n)) → EachIn P (frame_from c (n - 1) xs)
      → EachIn P (onto own (drop (header_of c) (take n (x ∷ xs))) (frame_from c (n - 1) xs))
  each-option x xs own n true t h e ih = rw (past c (n - 1) xs (ltb-true _ _ t)) tt
  each-option x xs own n false t h e ih =
      let le : n - 1 ≤ length xs = ltb-false _ _ t in
      each-onto P own (drop (header_of c) (take n (x ∷ xs))) (frame_from c (n - 1) xs)
      (λ q. body (x ∷ xs) n h (e ∙ ap (λ (own : Bool). Ok (Head.Option own (octets n))) q) (omega arith)) ih

  each-head : (x : ℕ) (xs : List ℕ) (z : Result Head Refusal) → S (x ∷ xs) → first_of c (x ∷ xs) ≡ z → ((k : ℕ) → EachIn P (frame_from c k xs))
      → EachIn P (after c (x ∷ xs) z (λ k. frame_from c k xs))
  each-head x xs (Err r) h e ih = tt
  each-head x xs (Ok Head.End) h e ih = tt
  each-head x xs (Ok (Head.Option own size)) h e ih =
      each-option x xs own size.0 (ltb (length xs) (size.0 - 1)) refl h e (ih (size.0 - 1))

  each_from : (k : ℕ) (s : List ℕ) → S s → EachIn P (frame_from c k s)
  unfolding frame_from
  each_from zero [] h = tt
  each_from (suc k) [] h = tt
  each_from zero (x ∷ xs) h = each-head x xs (first_of c (x ∷ xs)) h refl (λ k. each_from k xs (rest x xs h))
  each_from (suc k) (x ∷ xs) h = each_from k xs (rest x xs h)

  each-body : (area : List ℕ) (bs : List (List ℕ)) → S area → frame c area ≡ framed bs → All P bs
  each-body area bs h e = subst (EachIn P) e (each_from 0 area h)

body-length : (s : List ℕ) (h n : ℕ) → n ≤ length s → length (drop h (take n s)) ≡ n - h
body-length s h n le = length-drop h (take n s) ∙ ap (λ (k : ℕ). k - h) (length-take-le n s le)

-- the bodies of octets are octets
pub bodies-bytes : (c : Carrier) (area : List ℕ) (bs : List (List ℕ)) → Bytes area → frame c area ≡ framed bs → All Bytes bs
bodies-bytes c area bs h e =
    each-body c Bytes Bytes
    (λ x xs h. h.1)
    (λ s n h e le. all_drop Octet (header_of c) (take n s) (all_take Octet n s h))
    area bs h e

-- in carrier 3 a body and the two octets of its header are whole units of eight
pub bodies-units : (area : List ℕ) (bs : List (List ℕ)) → frame Router area ≡ framed bs → All (λ b. (length b + 2) % 8 ≡ 0) bs
bodies-units area bs e =
    each-body Router (λ s. Unit {0}) (λ b. (length b + 2) % 8 ≡ 0)
    (λ x xs h. tt)
    (λ s n h e le. let r = first-own Router s e in omega (arith, body-length s 2 n le, r.size, r.body))
    area bs tt e

-- ---- blocks

-- in carriers 2 to 5 each body is a block
pub blocks-plain : (c : Carrier) (bs : List (List ℕ)) → Plain c → blocks_of c bs ≡ bs
blocks-plain c bs p = rw (apart-false (is_joined c) p)
