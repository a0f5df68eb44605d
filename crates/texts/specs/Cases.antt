-- To show something of what a step gives, show it of each outcome, with what the tests on the way there say. Assumes nothing.
use Rattle.std.specs.Prelude.{◌≡◌, true, cond, ℕ, ◌-◌, ◌≤◌, ◌<◌, leb, eqb}
use Rattle.std.proofs.Common.{eqb-true, leb-true, leb-false}
use Rattle.std.proofs.lemmas.Bool.{eqb-false}
use Rattle.octets.specs.Cases.{by-test}
use Rattle.names.specs.Names.{alnum}
use Rattle.names.specs.Automaton.{Move, stop, go}
use Rattle.texts.specs.TextCheck.{State, start, letter, hyphen, step, after, inside, dot}

pub by-start : (at x : ℕ) (P : Move State → Type 0)
    → (alnum x ≡ true → P (go (letter (after at))))
    → P stop
    → P (step start at x)
by-start at x P f h = by-test (alnum x) (λ b. P (cond b (go (letter (after at))) stop)) f (λ _. h)

pub by-dot : (at x : ℕ) (P : Move State → Type 0)
    → (x ≡ 46 → at ≤ 251 → P (go start))
    → P stop
    → P (dot at x)
by-dot at x P f h =
    by-test (eqb x 46) (λ b. P (cond b (cond (leb at 251) (go start) stop) stop))
    (λ e. by-test (leb at 251) (λ b. P (cond b (go start) stop)) (λ l. f (eqb-true x 46 e) (leb-true at 251 l)) (λ _. h))
    (λ _. h)

pub by-inside : (left x : ℕ) (other : Move State) (P : Move State → Type 0)
    → (alnum x ≡ true → (left ≡ 0 → ⊥) → P (go (letter (left - 1))))
    → (x ≡ 45 → 1 < left → P (go (hyphen (left - 1))))
    → P other
    → P stop
    → P (inside left x other)
by-inside left x other P f g o h =
    let H : Move State = cond (leb left 1) stop (go (hyphen (left - 1))) in
    by-test (alnum x) (λ b. P (cond b (cond (eqb left 0) stop (go (letter (left - 1)))) (cond (eqb x 45) H other)))
    (λ a. by-test (eqb left 0) (λ b. P (cond b stop (go (letter (left - 1))))) (λ _. h) (λ n. f a (eqb-false left 0 n)))
    (λ _. by-test (eqb x 45) (λ b. P (cond b H other))
    (λ e. by-test (leb left 1) (λ b. P (cond b stop (go (hyphen (left - 1))))) (λ _. h) (λ l. g (eqb-true x 45 e) (leb-false left 1 l)))
    (λ _. o))
