-- What `--` does to a command line: no argument after it is an option. Assumes nothing.
use Rattle.std.specs.Prelude.{◌≡◌, Bool, true, false, cond, List, [], ◌∷◌, ℕ, ◌+◌, eqb, Option, Some, None}
use Rattle.std.proofs.Math.Path.{refl, ap}
use Rattle.std.proofs.Common.{sym, ◌∙◌}
use Rattle.octets.specs.Lists.{same}
use Rattle.octets.specs.Cases.{by-test}
use Rattle.words.specs.Words.{number_in}
use Rattle.arguments.specs.declared.asked.Asked.{Asked}
use Rattle.arguments.specs.Tables.{options, carrier_of, is_dash}
use Rattle.carriers.specs.declared.Carrier.{Carrier}
use Rattle.arguments.specs.declared.Wrong.TheVariants as wrong
use Rattle.arguments.specs.Line.{but, from, decided, carried, with_carrier, with_input, with_plain, heard, with_next}
use Rattle.arguments.specs.Line.{Argument, word, long, with_argument, with_rest, end, options_of}
use Rattle.arguments.specs.LineLaws.{word-ended, next-decided, next_word}

-- ---- once it has stood

module _ (a : Asked) where
  either : (b : Bool) (x y : Asked) → options_of x ≡ options_of a → options_of y ≡ options_of a → options_of (cond b x y) ≡ options_of a
  either true x y p q = p
  either false x y p q = q

  carrier-keeps : (i : ℕ) (k : Option Carrier) → options_of (carried i k a) ≡ options_of a
  carrier-keeps i None = refl
  carrier-keeps i (Some k) = refl

  input-keeps : (i : ℕ) (w : List ℕ) → options_of (with_input i w a) ≡ options_of a
  input-keeps i w =
      let file = either (is_dash w) (from a.carrier 2 a.input a) (from a.carrier 2 (Some i) a) refl refl in
      either (eqb a.words 2) (but wrong.File (Some i) a) _ refl file

  plain-keeps : (i : ℕ) (w : List ℕ) → options_of (with_plain i w a) ≡ options_of a
  plain-keeps i w = either (eqb a.words 0) (with_carrier i w a) (with_input i w a) (carrier-keeps i (carrier_of w)) (input-keeps i w)

  module _ (e : a.ended ≡ true) where
    heard-keeps : (w : List ℕ) → options_of (heard w a) ≡ options_of a
    heard-keeps w = rw e refl

    module _ (i : ℕ) (p : a.pending ≡ false) where
      next-keeps : (w : List ℕ) → options_of (with_next i w a) ≡ options_of a
      next-keeps w =
          by-test (decided a) (λ _. options_of (with_next i w a) ≡ options_of a)
          (λ d. ap options_of (sym (next-decided i w a d)) ∙ heard-keeps w)
          (λ d. ap options_of (sym (word-ended i w a e ∙ next_word i w a d p)) ∙ plain-keeps i w)

      argument-keeps : (x : Argument) → options_of (with_argument i x a) ≡ options_of a
      argument-keeps (word w) = next-keeps w
      argument-keeps long = either (decided a) a _ refl (rw p refl)

rest-keeps : (i : ℕ) (xs : List Argument) (a : Asked) → a.ended ≡ true → a.pending ≡ false → options_of (with_rest i xs a) ≡ options_of a
unfolding with_rest
rest-keeps i [] a e p = refl
rest-keeps i (x ∷ xs) a e p =
    let k = argument-keeps a e i p x in
    rest-keeps (i + 1) xs (with_argument i x a) (ap (λ (s : Asked). s.ended) k ∙ e) (ap (λ (s : Asked). s.pending) k ∙ p) ∙ k

-- ---- where it stands

module _ (i : ℕ) (a : Asked) (d : decided a ≡ false) (p : a.pending ≡ false) where
  end-ends : ((with_argument i end a).ended ≡ true) × ((with_argument i end a).pending ≡ false)
  unfolding options number_in same
  end-ends =
      by-test a.ended (λ _. ((with_argument i end a).ended ≡ true) × ((with_argument i end a).pending ≡ false))
      (λ e. let k = argument-keeps a e i p end in (ap (λ (s : Asked). s.ended) k ∙ e, ap (λ (s : Asked). s.pending) k ∙ p))
      (λ e. (rw (d, p, e) refl, rw (d, p, e) refl))

  -- where an argument may be an option, and is `--`, those after it leave the options as they are
  pub after-end : (xs : List Argument) → options_of (with_rest i (end ∷ xs) a) ≡ options_of (with_argument i end a)
  unfolding with_rest
  after-end xs = rest-keeps (i + 1) xs (with_argument i end a) end-ends.0 end-ends.1
