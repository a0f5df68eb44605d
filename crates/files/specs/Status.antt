-- Exit statuses (docs/COMMAND.md: 0 done, 1 refused, 2 wrong use or a file, 3 done and the answer is no). Assumes nothing: these are definitions.
use Rattle.std.specs.Prelude.{◌≡◌, Bool, true, false, cond, List, [], ◌∷◌, ℕ, eqb, ℤ, pos, negsuc, Result, Ok, Err}
use Rattle.files.specs.declared.status.Stop.{Stop}
use Rattle.files.specs.declared.status.Stop.TheVariants.{Refused, Failed, No}

abbrev pub done : ℕ
done = 0

abbrev pub refused : ℕ
refused = 1

abbrev pub failed : ℕ
failed = 2

abbrev pub no : ℕ
no = 3

-- the status of what stops a command, and of how it ends
abbrev pub number_of : Stop → ℕ
number_of Refused = refused
number_of Failed = failed
number_of No = no

abbrev pub status_of : {T : Type 0} → Result T Stop → ℤ
status_of (Ok _) = pos done
status_of (Err s) = pos (number_of s)

abbrev pub among : ℕ → List ℕ → Bool
among k [] = false
among k (x ∷ xs) = cond (eqb k x) true (among k xs)

abbrev pub one_of : List ℕ → ℤ → Bool
one_of ks (pos k) = among k ks
one_of ks (negsuc k) = false

-- what was to be written is, or it is said why not
abbrev pub Delivered : ℤ → Type 0
Delivered r = one_of (done ∷ failed ∷ []) r ≡ true

-- the same, where the answer is no
abbrev pub Denied : ℤ → Type 0
Denied r = one_of (failed ∷ no ∷ []) r ≡ true

-- one of the four
abbrev pub Exited : ℤ → Type 0
Exited r = one_of (done ∷ refused ∷ failed ∷ no ∷ []) r ≡ true

-- what was asked of a call that answers a number: a refusal, exactly where the number is not 0
pub record Answers (number : ℕ) (r : ℤ) : Type 0 where
  pub done : number ≡ 0 → Delivered r
  pub refuses : (number ≡ 0 → ⊥) → r ≡ pos refused
