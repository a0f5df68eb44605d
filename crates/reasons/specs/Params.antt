-- Which service parameter is at fault, and where in their field it begins (RULES R26 to R28, T3). Assumes nothing: these are definitions.
use Rattle.std.specs.Prelude.{Bool, true, false, cond, not, ◌||◌, List, [], ◌∷◌, ℕ, zero, suc, ◌+◌, ◌-◌, ltb, eqb, take, drop, unwrap_or}
use Rattle.octets.specs.Numbers.{at16}
use Rattle.numbers.specs.Fault as fault
use Rattle.svcparams.specs.Key as key
use Rattle.svcparams.specs.Params.{size_of, is_hint, value_good}
use Rattle.svcparams.specs.Entries.{keys_in}
use Rattle.reasons.specs.declared.Param as code

-- a parameter: where in its field it begins, and its key
pub record Param : Type 0 where
  pub at : ℕ
  pub key : ℕ

-- no key: above every key of 16 bits
abbrev pub none : ℕ
none = 65536

abbrev pub param : ℕ → ℕ → Param
param at k = record { at = at; key = k }

-- a parameter of src/; it has a key below `none`, or no key
abbrev pub param_of : code.Param → Param
param_of r = param r.at (unwrap_or r.key none)

-- no parameter
abbrev pub nothing : Param
nothing = param 0 none

-- the field begins with a parameter of so many octets, or with none that is whole; `go k` looks at what follows its first octet and k more
abbrev pub on : {A : Type 0} → ℕ → A → (ℕ → A) → A
on zero short go = short
on (suc k) short go = go k

-- 26: the first that is not whole, whose key is below `least`, or whose key is the invalid one; k octets are still to be skipped
unfoldable pub unordered_from : ℕ → ℕ → ℕ → List ℕ → Param
unordered_from k at least [] = nothing
unordered_from zero at least (x ∷ xs) =
    on (size_of (x ∷ xs)) (param at none) (λ k.
    cond (ltb (at16 (x ∷ xs) 0) least || eqb (at16 (x ∷ xs) 0) key.invalid) (param at (at16 (x ∷ xs) 0))
    (unordered_from k (at + 1) (at16 (x ∷ xs) 0 + 1) xs))
unordered_from (suc k) at least (x ∷ xs) = unordered_from k (at + 1) least xs

-- 27, 28: a hint; or a value that its key does not allow among the keys ks
abbrev pub wrong_of : Bool → List ℕ → ℕ → List ℕ → Bool
wrong_of true ks k v = is_hint k
wrong_of false ks k v = not (value_good k v ks)

-- the first that is wrong
unfoldable pub wrong_from : Bool → List ℕ → ℕ → ℕ → List ℕ → Param
wrong_from hints ks k at [] = nothing
wrong_from hints ks zero at (x ∷ xs) =
    on (size_of (x ∷ xs)) nothing (λ k.
    cond (wrong_of hints ks (at16 (x ∷ xs) 0) (take (size_of (x ∷ xs) - 4) (drop 4 (x ∷ xs)))) (param at (at16 (x ∷ xs) 0))
    (wrong_from hints ks k (at + 1) xs))
wrong_from hints ks (suc k) at (x ∷ xs) = wrong_from hints ks k (at + 1) xs

-- by the field's fault
unfoldable pub param_for : ℕ → List ℕ → Param
param_for k p =
    cond (eqb k fault.parameters) (unordered_from 0 0 0 p)
    (cond (eqb k fault.hint) (wrong_from true (keys_in p) 0 0 p)
    (cond (eqb k fault.value) (wrong_from false (keys_in p) 0 0 p)
    nothing))
