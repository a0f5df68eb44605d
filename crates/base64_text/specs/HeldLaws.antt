-- What a text is decoded as depends on the place of the quantum and on its last character, and not on its octet: so what src/ holds decides as
-- the quantum does that it stands as. Assumes nothing.
use Rattle.std.specs.Prelude.{◌≡◌, refl, Bool, true, false, cond, List, [], ◌∷◌, ℕ, ◌+◌, ◌%◌, leb, eqb, drop, Some, None}
use Rattle.std.proofs.Common.{sym, ap, ◌∙◌, arith}
use Rattle.std.proofs.lemmas.Bool.{false≢true}
use Rattle.base64_text.specs.declared.Place.{Place}
use Rattle.base64_text.specs.declared.Place.TheVariants as places
use Rattle.base64_text.specs.declared.Quantum as held
use Rattle.base64_text.specs.Quantum.{Quantum}
use Rattle.base64_text.specs.Base64.{blank, value, quantum, octet_of, padded, filled, moved, fault, Decoded, none, arrive, decode_from}
use Rattle.base64_text.specs.Held.{number_of, octet_or0, completed, quantum_in, Stands}
use Rattle.base64_text.specs.Turns.{after, Laying}

module _ (l o o' i : ℕ) (t : List ℕ) (f : (k : ℕ) → decode_from (quantum k l o false) (i + 1) t ≡ decode_from (quantum k l o' false) (i + 1) t) where
  abbrev On : Quantum → Decoded
  On m = arrive m i (decode_from m (i + 1) t)

  alike : (k : ℕ) → On (quantum k l o false) ≡ On (quantum k l o' false)
  alike k = ap (λ (d : Decoded). cond (eqb k 6) (none (fault i)) d) (f k)

  abbrev after-padding : ℕ → Bool → Bool → Bool → Bool → Bool → Quantum
  after-padding n a b d e g =
      cond a (cond b (quantum 4 l n false) (quantum 6 l n false))
      (cond d (cond e (quantum 5 l n false) (quantum 6 l n false)) (cond g (quantum 5 l n false) (quantum 6 l n false)))

  padded-alike : (p : ℕ) (c c' : Bool) → On (padded (quantum p l o c)) ≡ On (padded (quantum p l o' c'))
  unfolding padded
  padded-alike p c c' = go (eqb p 2) (eqb (l % 16) 0) (eqb p 3) (eqb (l % 4) 0) (eqb p 4)
    where
      go : (a b d e g : Bool) → On (after-padding o a b d e g) ≡ On (after-padding o' a b d e g)
      go true true d e g = alike 4
      go true false d e g = alike 6
      go false b true true g = alike 5
      go false b true false g = alike 6
      go false b false e true = alike 5
      go false b false e false = alike 6

  abbrev after-value : ℕ → ℕ → ℕ → Bool → Bool → Quantum
  after-value v p n a b = cond a (quantum 6 l n false) (cond b (quantum 6 l n false) (quantum ((p + 1) % 4) v (octet_of p l v) (leb 1 p)))

  filled-alike : (v p : ℕ) (c c' : Bool) → On (filled v (quantum p l o c)) ≡ On (filled v (quantum p l o' c'))
  unfolding filled
  filled-alike v p c c' = go (leb 64 v) (leb 4 p)
    where
      go : (a b : Bool) → On (after-value v p o a b) ≡ On (after-value v p o' a b)
      go true b = alike 6
      go false true = alike 6
      go false false = refl

  abbrev after-character : ℕ → ℕ → ℕ → Bool → Bool → Bool → Quantum
  after-character x p n c a b = cond a (quantum p l n false) (cond b (padded (quantum p l n c)) (filled (value x) (quantum p l n c)))

  moved-alike : (x p : ℕ) (c c' : Bool) → On (moved x (quantum p l o c)) ≡ On (moved x (quantum p l o' c'))
  unfolding moved
  moved-alike x p c c' = go (blank x) (eqb x 61)
    where
      go : (a b : Bool) → On (after-character x p o c a b) ≡ On (after-character x p o' c' a b)
      go true b = alike p
      go false true = padded-alike p c c'
      go false false = filled-alike (value x) p c c'

octet-free : (p l o o' : ℕ) (c c' : Bool) (i : ℕ) (t : List ℕ) → decode_from (quantum p l o c) i t ≡ decode_from (quantum p l o' c') i t
unfolding decode_from
octet-free p l o o' c c' i [] = refl
octet-free p l o o' c c' i (x ∷ t) = moved-alike l o o' i t (λ k. octet-free k l o o' false false (i + 1) t) x p c c'

place-known : (p : Place) → number_of p ≡ 6 → ⊥
place-known places.Start e = absurd (omega arith)
place-known places.One e = absurd (omega arith)
place-known places.Two e = absurd (omega arith)
place-known places.Three e = absurd (omega arith)
place-known places.Padded e = absurd (omega arith)
place-known places.Ended e = absurd (omega arith)

module _ {q : held.Quantum} {m : Quantum} (h : Stands q m) where
  stands-decode : (i : ℕ) (t : List ℕ) → decode_from (quantum_in q) i t ≡ decode_from m i t
  stands-decode i t =
      octet-free (number_of q.place) q.last (octet_or0 q.octet) m.octet (completed q.octet) m.complete i t
      ∙ rw (h.place, h.last) refl

  pub stands-laying : {t before out : List ℕ} {n i : ℕ} → Laying t before out m n i → Laying t before out (quantum_in q) n i
  stands-laying {t} {before} {out} {n} {i} l = record {
    front = l.front;
    size = l.size;
    room = l.room;
    within = l.within;
    rest = l.rest ∙ ap (after l.front) (sym (stands-decode i (drop i t)));
    laid = l.laid;
  }

  pub stands-somewhere : m.place ≡ 6 → ⊥
  stands-somewhere e = place-known q.place (h.place ∙ e)

  -- an octet that src/ has is completed, and is that of the quantum
  pub octet-completed : {o : ℕ} → q.octet ≡ Some o → (m.complete ≡ true) × (m.octet ≡ o)
  octet-completed {o} e = go m.complete refl (sym e ∙ h.octet)
    where
      go : (c : Bool) → m.complete ≡ c → Some o ≡ cond c (Some m.octet) None → (m.complete ≡ true) × (m.octet ≡ o)
      go true p r = (p, sym (ap octet_or0 r))
      go false p r = absurd (false≢true (sym (ap completed r)))

  pub none-completed : ((o : ℕ) → q.octet ≡ Some o → ⊥) → m.complete ≡ false
  none-completed n = go m.complete refl h.octet
    where
      go : (c : Bool) → m.complete ≡ c → q.octet ≡ cond c (Some m.octet) None → m.complete ≡ false
      go true p r = absurd (n m.octet r)
      go false p r = p
