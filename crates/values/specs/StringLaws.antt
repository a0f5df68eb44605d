-- The strings of a value, each after its length octet, as a loop meets them at the front of what is left. Assumes nothing.
use Rattle.std.specs.Prelude.{◌≡◌, refl, Bool, get_or}
use Rattle.std.proofs.Math.Path.{ap}
use Rattle.std.proofs.Common.{◌∙◌, arith, drop_of_length-le, drop-cons}
use Rattle.std.proofs.Math.Bool.{cond}
use mathlib.Core.List.{List, [], ◌∷◌}
use Prim.Native.Nat.{ℕ, ◌-◌, ◌≤◌, ◌<◌}
use Rattle.std.proofs.Math.ListN.{length, take, drop}
use borrow.Author.Tests.{lt-ltb, le-ltb}
use Rattle.octets.specs.ListsLaws.{skip-any, take_rest}
use Rattle.values.specs.Values.{strings_from}

pub strings-end : (s : List ℕ) → length s < 1 → strings_from 0 s ≡ []
unfolding strings_from
strings-end s h = ap (strings_from 0) (drop_of_length-le s {i = 0} (omega arith))

-- t is what follows the length octet
module _ (s : List ℕ) {n : ℕ} {t : List ℕ} (h : 1 ≤ length s) (e : n ≡ get_or s 0 0) (r : t ≡ take (length s - 1) (drop 1 s)) where
  here : strings_from 0 s ≡ strings_from 0 (n ∷ t)
  here = ap (strings_from 0) (rw (e, r, take_rest 1 s) (drop-cons s 0 0 h))

  -- the string does not stand whole
  pub strings-short : length t < n → strings_from 0 s ≡ []
  unfolding strings_from
  strings-short k = here ∙ simp (lt-ltb _ _ k)

  pub strings-next : {id others : List ℕ} → n ≤ length t → id ≡ take n t → others ≡ drop n t → strings_from 0 s ≡ id ∷ strings_from 0 others
  unfolding strings_from
  strings-next k p q =
      rw (p, q)
      (here
      ∙ ap (λ (b : Bool). cond b [] (take n t ∷ strings_from n t)) (le-ltb _ _ k)
      ∙ ap (λ (l : List (List ℕ)). take n t ∷ l) (skip-any strings_from (λ k x xs. refl) (λ k. refl) n t))
