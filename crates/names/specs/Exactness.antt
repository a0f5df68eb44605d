-- An automaton that takes the acceptable lists and no others, and stops only where something else could follow, says `Err p` exactly where
-- p is the first bad place; and what comes after the longest acceptable list changes nothing. Assumes nothing.
use Rattle.std.specs.Prelude.{◌≡◌, refl, ◌↔◌, Bool, true, false, List, [], ◌∷◌, ◌++◌, ℕ, ◌+◌, ◌≤◌, ◌<◌, leb, length, take, Ok, Err}
use Rattle.std.proofs.Common.{sym, ap, ◌∙◌, append_assoc, arith, length-append, take_at, take_all, take-take, length-take-le, leb-true, leb-false}
use Rattle.names.specs.Names.{FirstBad}
use Rattle.names.specs.Automaton.{Automaton, walk, Checked}
use Rattle.names.specs.AutomatonLaws.{not_good, StopsAt}
use Rattle.names.specs.Unique.{one_place}

module _ {S : Type 0} (a : Automaton S) (st : S) (Acceptable : List ℕ → Type 0)
    (sound : (s : List ℕ) → walk a st 0 s ≡ Ok tt → Acceptable s)
    (complete : (s : List ℕ) → Acceptable s → walk a st 0 s ≡ Ok tt)
    (stopped : (s : List ℕ) (p : ℕ) → walk a st 0 s ≡ Err p → StopsAt a st 0 s p) where
  no-halt : (s back : List ℕ) (p : ℕ) (r : StopsAt a st 0 s p) → r.back ≡ back → p < length s → (t : List ℕ) → Acceptable (take (p + 1) s ++ t) → ⊥
  no-halt s [] p r b h t o =
      let q = r.place in
      let e = length-append r.front r.back in
      let f = ap length b in
      let g = ap length r.is in
      omega arith
  no-halt s (z ∷ zs) p r b h t o =
      let q = r.place in
      let e = length-append r.front (z ∷ []) in
      let i : s ≡ (r.front ++ (z ∷ [])) ++ zs = r.is ∙ rw b (sym (append_assoc r.front (z ∷ []) zs)) in
      let k : take (p + 1) s ≡ r.front ++ (z ∷ []) = rw i (take_at (r.front ++ (z ∷ [])) zs (p + 1) (omega arith)) in
      let j : take (p + 1) s ++ t ≡ r.front ++ (z ∷ t) = rw k (append_assoc r.front (z ∷ []) t) in
      not_good (sym (r.halts z zs t b) ∙ (rw j at (complete (take (p + 1) s ++ t) o)))

  bad-first : (s : List ℕ) (p : ℕ) → walk a st 0 s ≡ Err p → FirstBad Acceptable s p
  bad-first s p e =
      let r = stopped s p e in
      let q = r.place in
      let l = length-append r.front r.back in
      let g = ap length r.is in
      let f : take p s ≡ r.front = ap (λ (l : List ℕ). take p l) r.is ∙ take_at r.front r.back p (omega arith) in
      record {
        not_acceptable = λ o. not_good (sym e ∙ complete s o);
        within = omega arith;
        goes_on = (r.end, sound (take p s ++ r.end) (rw f r.goes_on));
        halts = no-halt s r.back p r refl;
      }

  from-result : (s : List ℕ) (p : ℕ) (r : Checked) → walk a st 0 s ≡ r → FirstBad Acceptable s p → walk a st 0 s ≡ Err p
  from-result s p (Ok tt) e b = absurd (b.not_acceptable (sound s e))
  from-result s p (Err q) e b = e ∙ ap Err (one_place s q p (bad-first s q e) b)

  pub bad : (s : List ℕ) (p : ℕ) → (walk a st 0 s ≡ Err p) ↔ FirstBad Acceptable s p
  bad s p = (bad-first s p, from-result s p (walk a st 0 s) refl)

  -- where an acceptable list has at most so many octets
  module _ (most : ℕ) (short : (s : List ℕ) → Acceptable s → length s ≤ most) where
    -- the acceptable list that goes on from a first bad place is no longer, so that the place is no later
    place_of : (s : List ℕ) (p : ℕ) → FirstBad Acceptable s p → p ≤ most
    place_of s p b =
        let t = b.goes_on.0 in
        let w = b.within in
        let h = short (take p s ++ t) b.goes_on.1 in
        let l = length-append (take p s) t in
        let k = length-take-le p s w in
        omega arith

    pub place-small : (s : List ℕ) (p : ℕ) → walk a st 0 s ≡ Err p → p ≤ most
    place-small s p e = place_of s p (bad-first s p e)

    -- what comes later changes nothing
    longer : (s : List ℕ) (n : ℕ) (r : Checked) → walk a st 0 s ≡ r → most < n → n < length s → walk a st 0 (take n s) ≡ r
    longer s n (Ok tt) e h k = let o = short s (sound s e) in absurd (omega arith)
    longer s n (Err p) e h k =
        let b = bad-first s p e in
        let q = place_of s p b in
        let f = length-take-le n s (omega arith) in
        (bad (take n s) p).1 record {
          not_acceptable = λ o. (let i = short (take n s) o in omega arith);
          within = omega arith;
          goes_on = (b.goes_on.0, rw (take-take p n s (omega arith)) b.goes_on.1);
          halts = λ l t o. b.halts (omega arith) t (rw (take-take (p + 1) n s (omega arith)) at o);
        }

    by_length : (s : List ℕ) (n : ℕ) (b : Bool) → leb (length s) n ≡ b → most < n → walk a st 0 (take n s) ≡ walk a st 0 s
    by_length s n true t h = ap (walk a st 0) (take_all n s (leb-true _ _ t))
    by_length s n false t h = longer s n (walk a st 0 s) refl h (leb-false _ _ t)

    pub first-enough : (s : List ℕ) (n : ℕ) → most < n → walk a st 0 (take n s) ≡ walk a st 0 s
    first-enough s n h = by_length s n (leb (length s) n) refl h
