-- The turns of the code's walk over a mandatory list and a field are the machine's steps: each return and each turn has a law. Assumes nothing.
use Rattle.std.specs.Prelude.{◌≡◌, refl, Bool, true, false, cond, ℕ, ◌+◌, ◌-◌, ◌≤◌, ◌<◌, ltb, leb, eqb, length, drop, Option, Some, None}
use Rattle.std.proofs.Common.{sym, ap, ap₂, ◌∙◌, subst, arith, lt-ltb, le-ltb, eq-eqb, ne_eqb, ltb-true, ltb-false, leb-true, leb-false}
use mathlib.Core.List.{List, [], ◌∷◌, tail}
use Rattle.octets.specs.Cases.{by-test}
use Rattle.octets.specs.ListsLaws.{take_rest}
use Rattle.octets.specs.Numbers.{at16, words}
use Rattle.octets.specs.NumbersLaws.{words-cons, words-end, words-length}
use Rattle.svcparams.specs.declared.walk.Decision.{Decision}
use Rattle.svcparams.specs.declared.walk.Decision.TheVariants.{AllFound, Refused, Found, Passed}
use Rattle.svcparams.specs.Params.{size_of}
use Rattle.svcparams.specs.Entries.{keys_in}
use Rattle.svcparams.specs.TilingLaws.{size_room, rest, left-end, left_keys, stop-keys, next_keys, next-room}
use Rattle.svcparams.specs.Merge.{decided, done, going, look, carried, step, steps, Ran}
use Rattle.svcparams.proofs.MergeLaws.{answered, steps-more, steps_next}

-- ---- a decision on two keys

module _ {l r : Option ℕ} {w k : ℕ} (el : l ≡ Some w) (er : r ≡ Some k) where
  decided-both : decided l r ≡ decided (Some w) (Some k)
  decided-both = ap₂ decided el er

  pub decided-zero : w ≡ 0 → Refused ≡ decided l r
  decided-zero z = sym (decided-both ∙ simp (eq-eqb _ _ z))

  pub decided-low : w < k → Refused ≡ decided l r
  decided-low h =
      sym
      (decided-both
      ∙ by-test (eqb w 0) (λ b. cond b Refused (cond (ltb w k) Refused (cond (eqb w k) Found Passed)) ≡ Refused)
      (λ _. refl)
      (λ _. simp (lt-ltb _ _ h)))

  module _ (some : w ≡ 0 → ⊥) (h : k ≤ w) where
    pub decided-found : w ≡ k → Found ≡ decided l r
    decided-found e = sym (decided-both ∙ simp (ne_eqb _ _ some, le-ltb _ _ h, eq-eqb _ _ e))

    pub decided-passed : (w ≡ k → ⊥) → Passed ≡ decided l r
    decided-passed n = sym (decided-both ∙ simp (ne_eqb _ _ some, le-ltb _ _ h, ne_eqb _ _ n))

-- ---- the next key of each list

pub listed-key : (m : List ℕ) (i : ℕ) {k : ℕ} → i ≤ length m → 2 ≤ length m - i → k ≡ at16 m i → Some k ≡ look (words (drop i m))
listed-key m i h g q = ap Some q ∙ sym (ap look (words-cons m i (omega arith)))

pub listed-none : (m : List ℕ) (i : ℕ) → i ≤ length m → length m - i < 2 → None ≡ look (words (drop i m))
listed-none m i h g = sym (ap look (words-end m i (omega arith)))

module _ (s : List ℕ) where
  pub held_none : 0 ≡ size_of s → None ≡ look (keys_in s)
  held_none e = sym (ap look (left-end s e))

  pub held-room : {n : ℕ} → n ≡ size_of s → 4 ≤ n → 0 + 1 < length s
  held-room e h =
      let r = size_room s in
      omega arith

  pub held-key : {n k : ℕ} → n ≡ size_of s → 4 ≤ n → k ≡ at16 s 0 → Some k ≡ look (keys_in s)
  held-key e h q = ap Some q ∙ sym (ap look (left_keys s e h))

-- ---- the walk

-- after n turns the code stands at octet i of the list m and at octet `at` of the field p: there the machine stands after n steps, and each turn
-- has left a parameter behind
pub record Merging (m p : List ℕ) (i at n : ℕ) : Type 0 where
  pub in_list : i ≤ length m
  pub in_field : at ≤ length p
  pub slow : n ≤ at
  pub ran : steps n (going (words m) (keys_in p)) ≡ going (words (drop i m)) (keys_in (drop at p))
  pub few : n + length (keys_in (drop at p)) ≤ length (keys_in p)

pub merge-start : (m p : List ℕ) → Merging m p 0 0 0
unfolding steps
merge-start m p = record { in_list = omega arith; in_field = omega arith; slow = omega arith; ran = refl; few = omega arith }

-- a decision that is no answer
abbrev Moves : Decision → Type 0
Moves AllFound = ⊥
Moves Refused = ⊥
Moves Found = Unit
Moves Passed = Unit

end-answers : (l : Option ℕ) → Moves (decided l None) → ⊥
end-answers None m = m
end-answers (Some w) m = m

-- a turn of the code: its decision t is on the keys a and b that stand at the two places, b that of a parameter of z octets
module _ (m p : List ℕ) (i at n : ℕ) {z : ℕ} {a b : Option ℕ} {t : Decision} (g : Merging m p i at n) (e : z ≡ size_of (rest p at))
    (ea : a ≡ look (words (drop i m))) (eb : b ≡ look (keys_in (rest p at))) (et : t ≡ decided a b) where
  decision-is : decided (look (words (drop i m))) (look (keys_in (drop at p))) ≡ t
  decision-is = sym (et ∙ ap₂ decided ea (eb ∙ ap (λ (l : List ℕ). look (keys_in l)) (take_rest at p)))

  one_more : {d : Decision} → t ≡ d → steps (n + 1) (going (words m) (keys_in p)) ≡ carried d (words (drop i m)) (keys_in (drop at p))
  one_more q =
      steps_next n (going (words m) (keys_in p)) ∙ ap step g.ran
      ∙ ap (λ (x : Decision). carried x (words (drop i m)) (keys_in (drop at p))) (decision-is ∙ q)

  -- without an answer there is a key of the list and a parameter
  in_list_lem : Moves t → i + 1 < length m
  in_list_lem h =
      by-test (ltb (i + 1) (length m)) (λ _. i + 1 < length m)
      (λ y. ltb-true _ _ y)
      (λ y.
      let d : words (drop i m) ≡ [] = words-end m i (ltb-false _ _ y) in
      absurd (subst Moves (sym decision-is ∙ ap (λ (l : List ℕ). decided (look l) (look (keys_in (drop at p)))) d) h))

  in_field_lem : Moves t → z ≡ 0 → ⊥
  in_field_lem h y =
      end-answers (look (words (drop i m)))
      (subst Moves (sym decision-is ∙ ap (λ (l : List ℕ). decided (look (words (drop i m))) (look l)) (stop-keys p at e y)) h)

  answers : (v : Bool) → 1 < length m → steps (n + 1) (going (words m) (keys_in p)) ≡ done v → Ran (words m) (keys_in p) v (n + 1)
  answers v some q =
      let f = g.few in
      let l = words-length m in
      record {
        ran = q;
        least = λ k c s. by-test (leb k n) (λ _. n + 1 ≤ k)
            (λ y. absurd (answered (sym (steps-more k n (going (words m) (keys_in p)) s (leb-true _ _ y)) ∙ g.ran)))
            (λ y. let d : n < k = leb-false _ _ y in omega arith);
        few = omega arith;
      }

  pub merge-all : 1 < length m → t ≡ AllFound → Ran (words m) (keys_in p) true (n + 1)
  merge-all some q = answers true some (one_more q)

  pub merge-refused : {v : Bool} → v ≡ false → 1 < length m → t ≡ Refused → Ran (words m) (keys_in p) v (n + 1)
  merge-refused {v} none some q = answers v some (one_more q ∙ ap done (sym none))

  module _ (h : Moves t) where
    ahead : keys_in (drop at p) ≡ at16 (rest p at) 0 ∷ keys_in (drop (at + z) p)
    ahead = next_keys p at e (in_field_lem h)

    onward : (j : ℕ) → j ≤ length m → steps (n + 1) (going (words m) (keys_in p)) ≡ going (words (drop j m)) (keys_in (drop (at + z) p))
        → Merging m p j (at + z) (n + 1)
    onward j w q =
        let r = next-room p at e in
        let f = g.few in
        let s = g.slow in
        let v = g.in_field in
        let y = in_field_lem h in
        let c = ap length ahead in
        record { in_list = w; in_field = omega arith; slow = omega (arith, y); ran = q; few = omega arith }

  pub merge-found : t ≡ Found → Merging m p (i + 2) (at + z) (n + 1)
  merge-found q =
      let h : Moves t = subst Moves (sym q) tt in
      let l = in_list_lem h in
      onward h (i + 2) (omega arith)
      (one_more q ∙ ap₂ (λ (ws ks : List ℕ). going (tail ws) (tail ks)) (words-cons m i l) (ahead h))

  pub merge-passed : t ≡ Passed → Merging m p i (at + z) (n + 1)
  merge-passed q =
      let h : Moves t = subst Moves (sym q) tt in
      onward h i g.in_list
      (one_more q ∙ ap (λ (ks : List ℕ). going (words (drop i m)) (tail ks)) (ahead h))
