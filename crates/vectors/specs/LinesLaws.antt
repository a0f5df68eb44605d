-- The answers of the input, line by line. Assumes nothing.
use Rattle.std.specs.Prelude.{◌≡◌, refl, List, [], ◌∷◌, ◌++◌, length, get_or, take}
use Rattle.std.proofs.Common.{sym, ◌∙◌, append_assoc, append-nil, drop_of_length-le, drop-drop}
use Rattle.std.proofs.Math.Path.{ap}
use Prim.Native.Nat.{ℕ, zero, suc, ◌+◌, ◌-◌, ◌≤◌, ◌<◌}
use native.Mathlib.Omega.{arith}
use Rattle.std.proofs.Math.ListN.{drop}
use Rattle.std.proofs.Math.Seq.{drop-cons}
use Rattle.chars.specs.Puts.{Puts}
use Rattle.chars.specs.PutsLaws.{puts_none, puts_then, puts-as}
use Rattle.words.specs.Encoded.{break_at}
use Rattle.vectors.specs.Answers.{line_text, answers_from, answers_text}

-- to skip octets is to begin after them
skipped : (j : ℕ) (t : List ℕ) → answers_from j t ≡ answers_text (drop j t)
unfolding answers_from
skipped zero t = refl
skipped (suc j) [] = refl
skipped (suc j) (x ∷ t) = skipped j t

module _ (s : List ℕ) (i : ℕ) where
  -- the line that begins at i, and those after it
  pub answers-line : (end : ℕ) → i < length s → end ≡ i + break_at (drop i s)
      → answers_text (drop i s) ≡ (line_text (take (end - i) (drop i s)) ++ (10 ∷ [])) ++ answers_text (drop (end + 1) s)
  unfolding answers_from
  answers-line end h e =
      let size : end - i ≡ break_at (drop i s) = omega arith in
      let cons = drop-cons s i 0 h in
      let k = break_at (get_or s i 0 ∷ drop (suc i) s) in
      let q : k ≡ break_at (drop i s) = ap break_at (sym cons) in
      let next : suc i + k ≡ end + 1 = omega arith in
      let rest : answers_from k (drop (suc i) s) ≡ answers_text (drop (end + 1) s) =
      skipped k (drop (suc i) s) ∙ ap answers_text (drop-drop k (suc i) s ∙ ap (λ (n : ℕ). drop n s) next) in
      let whole : answers_text (drop i s) ≡ line_text (take (break_at (drop i s)) (drop i s)) ++ (10 ∷ answers_from k (drop (suc i) s)) = rw cons in
      whole ∙ rw (size, rest, append_assoc)

  pub answers-none : length s ≤ i → answers_text (drop i s) ≡ []
  unfolding answers_from
  answers-none h = rw (drop_of_length-le s {i = i} h)

-- ---- the walk over the lines

-- the answers of the lines before `at` are written
pub record Answering (s before out : List ℕ) (at o : ℕ) : Type 0 where
  pub done : List ℕ
  pub whole : answers_text s ≡ done ++ answers_text (drop at s)
  pub puts : Puts 0 done before o out

pub answering-none : (s out : List ℕ) → Answering s out out 0 0
answering-none s out = record { done = []; whole = refl; puts = puts_none 0 out (omega arith) }

pub answering-line : {s before out out' out'' : List ℕ} {at o o' o'' end : ℕ} → Answering s before out at o → at < length s → end ≡ at + break_at (drop at s)
    → Puts o (line_text (take (end - at) (drop at s))) out o' out' → Puts o' (10 ∷ []) out' o'' out'' → Answering s before out'' (end + 1) o''
answering-line {s} {before} {out} {out'} {out''} {at} {o} {o'} {o''} {end} a h e p q =
    let line : List ℕ = line_text (take (end - at) (drop at s)) ++ (10 ∷ []) in
    record {
      done = a.done ++ line;
      whole = a.whole
          ∙ ap (λ (l : List ℕ). a.done ++ l) (answers-line s at end h e)
          ∙ sym (append_assoc a.done line (answers_text (drop (end + 1) s)));
      puts = puts_then a.puts (puts_then p q);
    }

pub answering-all : {s before out : List ℕ} {at o : ℕ} → Answering s before out at o → length s ≤ at → Puts 0 (answers_text s) before o out
answering-all {s} {before} {out} {at} {o} a h =
    puts-as (sym (a.whole ∙ ap (λ (l : List ℕ). a.done ++ l) (answers-none s at h) ∙ append-nil a.done)) a.puts
