-- The laws of a command line: an argument more, and a line that is taken argument by argument. Assumes nothing.
use Rattle.std.specs.Prelude.{◌≡◌, refl, true, false, List, [], ◌∷◌, ◌++◌, ℕ, suc, ◌+◌, length}
use Rattle.std.proofs.Common.{sym, ap, ◌∙◌, add-zero, arith, length-append}
use Rattle.arguments.specs.declared.asked.Asked.{Asked}
use Rattle.arguments.specs.Tables.{is_option}
use Rattle.arguments.specs.Line.{decided, with_output, with_option, with_plain, with_word, heard, with_next}
use Rattle.arguments.specs.Line.{Argument, with_argument, with_rest, settled_of, asked_of}
use Rattle.arguments.specs.Line.{Argued, Begun, Given}

-- ---- one word more

module _ (i : ℕ) (w : List ℕ) (a : Asked) where
  -- after `--` no word is an option
  pub word-ended : a.ended ≡ true → with_plain i w a ≡ with_word i w a
  word-ended e = rw e

  pub word-option : a.ended ≡ false → is_option w ≡ true → with_option i w a ≡ with_word i w a
  word-option e t = rw (e, t)

  pub word-plain : a.ended ≡ false → is_option w ≡ false → with_plain i w a ≡ with_word i w a
  word-plain e t = rw (e, t)

  -- the next word: where no further one matters, after `-o`, and elsewhere
  pub next-decided : decided a ≡ true → heard w a ≡ with_next i w a
  next-decided d = rw d

  module _ (d : decided a ≡ false) where
    pub next-name : a.pending ≡ true → with_output i w a ≡ with_next i w a
    next-name p = rw (d, p)

    pub next_word : a.pending ≡ false → with_word i w a ≡ with_next i w a
    next_word p = rw (d, p)

-- ---- a line

-- arguments after others
pub rest-append : (i : ℕ) (xs ys : List Argument) (a : Asked) → with_rest i (xs ++ ys) a ≡ with_rest (i + length xs) ys (with_rest i xs a)
unfolding with_rest
rest-append i [] ys a = ap (λ (k : ℕ). with_rest k ys a) (sym (add-zero i))
rest-append i (x ∷ xs) ys a =
    let e : i + 1 + length xs ≡ i + suc (length xs) = omega arith in
    rest-append (i + 1) xs ys (with_argument i x a) ∙ ap (λ (k : ℕ). with_rest k ys (with_rest (i + 1) xs (with_argument i x a))) e

-- a is what b is with the arguments from the second to before i
pub record Taken (b a : Asked) (i : ℕ) : Type 0 where
  pub rest : List Argument
  pub is : a ≡ with_rest 2 rest b
  pub next : i ≡ 2 + length rest

pub taken_none : (a : Asked) → Taken a a 2
unfolding with_rest
taken_none a = record { rest = []; is = refl; next = refl }

pub taken_more : {b a a' : Asked} {i : ℕ} → Taken b a i → Argued i a a' → Taken b a' (i + 1)
unfolding with_rest
taken_more {b} {a} {a'} {i} t x = record {
  rest = t.rest ++ (x.argument ∷ []);
  is = x.is
      ∙ ap (λ (k : ℕ). with_argument k x.argument a) t.next
      ∙ ap (with_argument (2 + length t.rest) x.argument) t.is
      ∙ sym (rest-append 2 t.rest (x.argument ∷ []) b);
  next = omega (arith, t.next, length-append t.rest (x.argument ∷ []));
}

pub taken-all : {b a a' : Asked} {i : ℕ} → Begun b → Taken b a i → a' ≡ settled_of a → Given a'
unfolding asked_of
taken-all {b} {a} {a'} {i} f t e = record {
  first = f.argument;
  rest = t.rest;
  is = e ∙ ap settled_of (t.is ∙ ap (with_rest 2 t.rest) f.is);
}
