-- Whether a mandatory list rises without 0 and each of its keys is among the parameters' keys, by one walk over the two, where the parameters'
-- keys rise (RULES P4, P9). Each step's decision depends only on the next key of each list, or on there being none. That the walk's answer is
-- that of the rule, and how soon: `MergeExactly`. Assumes nothing: these are definitions.
use Rattle.std.specs.Prelude.{◌≡◌, Bool, true, false, cond, ℕ, zero, suc, ◌+◌, ◌≤◌, ◌<◌, ltb, eqb, length, Option, Some, None}
use mathlib.Core.List.{List, [], ◌∷◌, tail}
use Rattle.octets.specs.Lists.{All}
use Rattle.svcparams.specs.Accepted.{Ascending, In}
use Rattle.svcparams.specs.declared.walk.Decision.{Decision}
use Rattle.svcparams.specs.declared.walk.Decision.TheVariants.{AllFound, Refused, Found, Passed}

-- what a list ws is to be, with the parameters' keys ks: strictly rising, without 0, each key one of ks. With that it is not empty and of 16-bit
-- keys, this is all of RULES P4 (`Accepted`: `Mandatory`)
pub record Listed (ks ws : List ℕ) : Type 0 where
  pub rise : Ascending ws
  pub nonzero : All (λ w. 0 < w) ws
  pub present : All (λ w. In w ks) ws

-- ---- a step's decision

-- on the next key w of the list and the next key k of the parameters. No w is left: all were found. w is 0, no k is left, or w is below k:
-- refused, since w is 0, absent, or not above the list's key before it. w is k: found, both lists go on. w is above k: the parameters go on
abbrev pub decided : Option ℕ → Option ℕ → Decision
decided None k = AllFound
decided (Some w) None = Refused
decided (Some w) (Some k) = cond (eqb w 0) Refused (cond (ltb w k) Refused (cond (eqb w k) Found Passed))

-- ---- the walk

-- where it stands: it has its answer, or these keys of the list and of the parameters are still ahead
pub data State : Type 0 where
  done : Bool → State
  going : (ws ks : List ℕ) → State

-- the next key of a list, or that there is none
abbrev pub look : List ℕ → Option ℕ
look [] = None
look (x ∷ xs) = Some x

-- a decision carried out: neither list goes on by more than one key
abbrev pub carried : Decision → List ℕ → List ℕ → State
carried AllFound ws ks = done true
carried Refused ws ks = done false
carried Found ws ks = going (tail ws) (tail ks)
carried Passed ws ks = going ws (tail ks)

abbrev pub step : State → State
step (done b) = done b
step (going ws ks) = carried (decided (look ws) (look ks)) ws ks

unfoldable pub steps : ℕ → State → State
steps zero w = w
steps (suc n) w = steps n (step w)

-- ---- what the code's walk promises

-- b is the answer after n steps and not after fewer, and n is at most the number of keys of both lists (RULES P9)
pub record Ran (ws ks : List ℕ) (b : Bool) (n : ℕ) : Type 0 where
  pub ran : steps n (going ws ks) ≡ done b
  pub least : (k : ℕ) (a : Bool) → steps k (going ws ks) ≡ done a → n ≤ k
  pub few : n ≤ length ws + length ks
