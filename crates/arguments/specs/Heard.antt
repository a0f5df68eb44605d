-- What `--json` does to a command line: it is heard wherever it stands as an option, also where something is wrong, and no argument takes it back.
-- Assumes nothing.
use Rattle.std.specs.Prelude.{◌≡◌, Bool, true, false, cond, List, [], ◌∷◌, ◌++◌, ℕ, ◌+◌, leb, eqb, length, Option, Some, None}
use Rattle.std.specs.Option.{is_some}
use Rattle.std.proofs.Math.Path.{refl}
use Rattle.std.proofs.Common.{ap, ◌∙◌}
use Rattle.octets.specs.Lists.{same}
use Rattle.octets.specs.Cases.{by-test}
use Rattle.words.specs.Words.{number_in}
use Rattle.arguments.specs.declared.asked.Asked.{Asked}
use Rattle.arguments.specs.Tables.{options, option_of, carrier_of, is_option, is_dash, front_of}
use Rattle.carriers.specs.declared.Carrier.{Carrier}
use Rattle.arguments.specs.declared.Form.{Form}
use Rattle.arguments.specs.declared.tables.Choice.{Choice}
use Rattle.arguments.specs.declared.Wrong.{Wrong}
use Rattle.arguments.specs.declared.tables.Choice.TheVariants as option
use Rattle.arguments.specs.Form as form
use Rattle.arguments.specs.Line.{decided, formed, with_pending, attached, chosen, optional, listened, carried, with_plain, with_word}
use Rattle.arguments.specs.Line.{Argument, word, long, with_argument, with_rest, json_option, first_of, wrong_of, ending, asked_of}
use Rattle.arguments.specs.LineLaws.{rest-append}

-- ---- no argument takes it back

either : (b : Bool) (x y : Asked) → x.json ≡ true → y.json ≡ true → (cond b x y).json ≡ true
either true x y p q = p
either false x y p q = q

module _ (i : ℕ) (a : Asked) (j : a.json ≡ true) where
  form-keeps : (f : Option Form) (h : Form) → (formed f i h a).json ≡ true
  form-keeps None h = j
  form-keeps (Some f) h = either (form.same f h) _ _ j j

  pending-keeps : (with_pending i a).json ≡ true
  pending-keeps = either (is_some a.output) _ _ j j

  attached-keeps : (w : List ℕ) (f : Option ℕ) → (attached i w f a).json ≡ true
  attached-keeps w None = j
  attached-keeps w (Some f) = either (is_some a.output) _ _ j (either (leb (length w) f) _ _ j j)

  chosen-keeps : (k : Choice) → (chosen i k a).json ≡ true
  chosen-keeps (option.Form h) = form-keeps a.form h
  chosen-keeps option.Output = pending-keeps
  chosen-keeps option.Json = refl
  chosen-keeps k = j

  option-keeps : (w : List ℕ) (k : Option Choice) → (optional i w k a).json ≡ true
  option-keeps w None = attached-keeps w (front_of w)
  option-keeps w (Some k) = chosen-keeps k

  listened-keeps : (k : Option Choice) → (listened k a).json ≡ true
  listened-keeps (Some option.Json) = refl
  listened-keeps k = j

  carried-keeps : (k : Option Carrier) → (carried i k a).json ≡ true
  carried-keeps None = j
  carried-keeps (Some k) = j

  plain-keeps : (w : List ℕ) → (with_plain i w a).json ≡ true
  plain-keeps w =
      either (eqb a.words 0) _ _ (carried-keeps (carrier_of w)) (either (eqb a.words 2) _ _ j (either (is_dash w) _ _ j j))

  word_keeps : (w : List ℕ) → (with_word i w a).json ≡ true
  word_keeps w =
      either a.ended _ _ (plain-keeps w) (either (is_option w) _ _ (option-keeps w (option_of w)) (plain-keeps w))

  argument-keeps : (x : Argument) → (with_argument i x a).json ≡ true
  argument-keeps (word w) =
      either (decided a) _ _ (either a.ended _ _ j (listened-keeps (option_of w))) (either a.pending _ _ j (word_keeps w))
  argument-keeps long = either (decided a) _ _ j j

ending-keeps : (w : Option Wrong) (a : Asked) → a.json ≡ true → (ending w a).json ≡ true
ending-keeps None a j = j
ending-keeps (Some w) a j = j

-- once it is heard, it is heard at the end of any arguments
pub json-kept : (i : ℕ) (xs : List Argument) (a : Asked) → a.json ≡ true → (with_rest i xs a).json ≡ true
unfolding with_rest
json-kept i [] a j = j
json-kept i (x ∷ xs) a j = json-kept (i + 1) xs (with_argument i x a) (argument-keeps i a j x)

-- ---- where it stands

json-set : (i : ℕ) (a : Asked) → a.ended ≡ false → a.pending ≡ false → (with_argument i json_option a).json ≡ true
unfolding options number_in same
json-set i a e p =
    by-test (decided a) (λ _. (with_argument i json_option a).json ≡ true)
    (λ d. rw (d, e) refl)
    (λ d. rw (d, p, e) refl)

-- where no `--` stands before it and it is not the name after `-o`, whatever else stands before and after it, and whatever is wrong with the line
pub json-heard :
    (x : Argument) (xs ys : List Argument)
    → (with_rest 2 xs (first_of x)).ended ≡ false
    → (with_rest 2 xs (first_of x)).pending ≡ false
    → (asked_of x (xs ++ (json_option ∷ ys))).json ≡ true
unfolding asked_of with_rest
json-heard x xs ys e p =
    let a = with_rest 2 xs (first_of x) in
    let i = 2 + length xs in
    let set = json-kept (i + 1) ys (with_argument i json_option a) (json-set i a e p) in
    let all = ap (λ (s : Asked). s.json) (rest-append 2 xs (json_option ∷ ys) (first_of x)) ∙ set in
    let end = with_rest 2 (xs ++ (json_option ∷ ys)) (first_of x) in
    either (decided end) end (ending (wrong_of end) end) all (ending-keeps (wrong_of end) end all)
