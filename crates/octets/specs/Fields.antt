-- Fields read from the front of octets, each handing what is left to the next, over any kind of answer; `stop` is the answer where a
-- field runs past the end (RULES R20). And the same fields written (RULES B1). Assumes nothing: these are definitions.
use Rattle.std.specs.Prelude.{cond, List, ◌++◌, ℕ, leb, length, take, drop}
use Rattle.octets.specs.Numbers.{be, val}

module _ {R : Type 0} where
  -- n octets (RULES R20)
  unfoldable pub part : R → ℕ → List ℕ → (List ℕ → List ℕ → R) → R
  part stop n l next = cond (leb n (length l)) (next (take n l) (drop n l)) stop

  -- a number of w octets (RULES C2)
  unfoldable pub number : R → ℕ → List ℕ → (ℕ → List ℕ → R) → R
  number stop w l next = part stop w l (λ x l. next (val x) l)

  -- octets after their count, a number of w octets (RULES B1)
  unfoldable pub counted : R → ℕ → List ℕ → (List ℕ → List ℕ → R) → R
  counted stop w l next = number stop w l (λ n l. part stop n l next)

-- x after its count in w octets, and then l (RULES B1)
abbrev pub put_counted : ℕ → List ℕ → List ℕ → List ℕ
put_counted w x l = be w (length x) ++ (x ++ l)
