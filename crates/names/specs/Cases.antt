-- To show something of what a step gives, show it of each outcome, with what the tests on the way there say. Assumes nothing.
use Rattle.std.specs.Prelude.{◌≡◌, Bool, true, false, cond, ◌&&◌, ℕ, ◌+◌, ◌-◌, ◌≤◌, ◌<◌, leb, ltb, eqb}
use Rattle.std.proofs.Common.{eqb-true, leb-true, ltb-true}
use Rattle.std.proofs.lemmas.Bool.{eqb-false}
use Rattle.octets.specs.Cases.{by-test}
use Rattle.names.specs.Names.{alnum}
use Rattle.names.specs.Automaton.{Move, stop, go}
use Rattle.names.specs.Wire.{State, letter, hyphen, first, root, step, inside, length_octet}

-- two tests, both of which hold or one of which fails
pub by_both : (a b : Bool) (P : Bool → Type 0) → (a ≡ true → b ≡ true → P true) → P false → P (a && b)
by_both a b P f g = by-test a (λ c. P (c && b)) (λ e. by-test b P (f e) (λ _. g)) (λ _. g)

pub by-inside : (left x : ℕ) (P : Move State → Type 0)
    → (alnum x ≡ true → P (go (letter (left - 1))))
    → (x ≡ 45 → 1 < left → P (go (hyphen (left - 1))))
    → P stop
    → P (inside left x)
by-inside left x P f g h =
    by-test (alnum x) (λ b. P (cond b (go (letter (left - 1))) (cond (eqb x 45 && ltb 1 left) (go (hyphen (left - 1))) stop)))
    f
    (λ _. by_both (eqb x 45) (ltb 1 left) (λ b. P (cond b (go (hyphen (left - 1))) stop)) (λ e l. g (eqb-true x 45 e) (ltb-true 1 left l)) h)

pub by_length : (at x : ℕ) (P : Move State → Type 0)
    → (x ≡ 0 → (at ≡ 0 → ⊥) → P (go root))
    → ((x ≡ 0 → ⊥) → x ≤ 63 → at + x ≤ 253 → P (go (first (x - 1))))
    → P stop
    → P (length_octet at x)
by_length at x P f g h =
    by-test (eqb x 0) (λ b. P (cond b (cond (eqb at 0) stop (go root)) (cond (leb x 63 && leb (at + x) 253) (go (first (x - 1))) stop)))
    (λ e. by-test (eqb at 0) (λ b. P (cond b stop (go root))) (λ _. h) (λ n. f (eqb-true x 0 e) (eqb-false at 0 n)))
    (λ n. by_both (leb x 63) (leb (at + x) 253) (λ b. P (cond b (go (first (x - 1))) stop))
    (λ l m. g (eqb-false x 0 n) (leb-true x 63 l) (leb-true (at + x) 253 m))
    h)

pub by-letter : (left at x : ℕ) (P : Move State → Type 0)
    → (left ≡ 0 → P (length_octet at x))
    → ((left ≡ 0 → ⊥) → P (inside left x))
    → P (step (letter left) at x)
by-letter left at x P f g =
    by-test (eqb left 0) (λ b. P (cond b (length_octet at x) (inside left x))) (λ e. f (eqb-true left 0 e)) (λ n. g (eqb-false left 0 n))

pub by_first : (left at x : ℕ) (P : Move State → Type 0)
    → (alnum x ≡ true → P (go (letter left)))
    → P stop
    → P (step (first left) at x)
by_first left at x P f h = by-test (alnum x) (λ b. P (cond b (go (letter left)) stop)) f (λ _. h)
