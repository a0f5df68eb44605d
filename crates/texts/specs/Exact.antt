-- `text_check` says `Ok` of the texts and of nothing else, and `Err p` exactly where p is the first bad place; and it never looks past
-- the first 254 octets. Assumes nothing.
use Rattle.std.specs.Prelude.{◌≡◌, ◌↔◌, List, ℕ, ◌≤◌, ◌<◌, min, leb, length, take, Ok, Err}
use Rattle.std.proofs.Common.{ap, arith, take_all, leb-true, leb-false}
use Rattle.octets.specs.Cases.{by-test}
use Rattle.names.specs.Names.{FirstBad}
use Rattle.names.specs.Exactness as exactness
use Rattle.texts.specs.Texts.{IsText}
use Rattle.texts.specs.TextCheck.{start, text_automaton, text_check}
use Rattle.texts.specs.Sound.{good-sound}
use Rattle.texts.specs.Complete.{good-complete}
use Rattle.texts.specs.Place.{bad-stops}

module _ (s : List ℕ) where
  pub good : (text_check s ≡ Ok tt) ↔ IsText s
  good = (good-sound s, good-complete s)

  pub bad : (p : ℕ) → (text_check s ≡ Err p) ↔ FirstBad IsText s p
  unfolding text_check
  bad = exactness.bad text_automaton start IsText good-sound good-complete bad-stops s

  pub place-small : (p : ℕ) → text_check s ≡ Err p → p ≤ 253
  unfolding text_check
  place-small = exactness.place-small text_automaton start IsText good-sound good-complete bad-stops 253 (λ _ o. o.short) s

  pub first-enough : (n : ℕ) → 253 < n → text_check (take n s) ≡ text_check s
  unfolding text_check
  first-enough = exactness.first-enough text_automaton start IsText good-sound good-complete bad-stops 253 (λ _ o. o.short) s

  -- the octets that decide
  pub decided : (n : ℕ) → n ≡ min 254 (length s) → text_check (take n s) ≡ text_check s
  decided n e =
      by-test (leb (length s) n) (λ _. text_check (take n s) ≡ text_check s)
      (λ t. ap text_check (take_all n s (leb-true (length s) n t)))
      (λ t. let k = leb-false (length s) n t in first-enough n (omega arith))
