-- What a check of a name, and what decoding, say of the answer. Assumes nothing.
use Rattle.std.specs.Prelude.{◌≡◌, refl, List, [], ◌∷◌, ℕ, length, take, Result, Ok, Err}
use Rattle.std.proofs.Common.{sym, ap, ◌∙◌, arith}
use Rattle.octets.specs.Over.{over}
use Rattle.octets.specs.OverLaws.{over-front}
use Rattle.hexes.specs.declared.Undecoded.{Undecoded}
use Rattle.hexes.specs.Decoding.{Answer, written, no_room, other, decode_of, told, left, Decoded}
use Rattle.vectors.specs.Answers.{good_text, bad_text, name_text, case_text, decoded_text}
use Rattle.names.specs.Automaton.{Checked}

module _ (form : List ℕ) {v w : Checked} (e : v ≡ w) where
  pub name-good : v ≡ Ok tt → good_text form ≡ name_text form w
  name-good i = ap (name_text form) (sym i ∙ e)

  pub name-bad : {place : ℕ} → v ≡ Err place → bad_text place ≡ name_text form w
  name-bad i = ap (name_text form) (sym i ∙ e)

-- ---- decoding

module _ (letter : ℕ) (out : List ℕ) where
  octets-in : (a : Answer) (n : ℕ) → told a ≡ Ok n → case_text letter (take n (left a out)) ≡ decoded_text letter a
  octets-in (written bs) n e =
      let k : length bs ≡ n = cc in
      ap (case_text letter) (ap (λ (i : ℕ). take i (over 0 bs out)) (sym k) ∙ over-front bs out)
  octets-in no_room n e = let z : ◌≡◌ {A = ℕ} 0 1 = cc in absurd (omega arith)
  octets-in other n e = let z : ◌≡◌ {A = ℕ} 0 1 = cc in absurd (omega arith)

  none_in : (a : Answer) (u : Undecoded) → told a ≡ Err u → 63 ∷ [] ≡ decoded_text letter a
  none_in (written bs) u e = let z : ◌≡◌ {A = ℕ} 0 1 = cc in absurd (omega arith)
  none_in no_room u e = refl
  none_in other u e = refl

module _ (letter : ℕ) (t : List ℕ) {out out' : List ℕ} {r : Result ℕ Undecoded} (d : Decoded t out r out') (e : length out ≡ 4096) where
  fits : decoded_text letter (decode_of t (length out)) ≡ decoded_text letter (decode_of t 4096)
  fits = ap (λ (n : ℕ). decoded_text letter (decode_of t n)) e

  pub decoded-octets : {n : ℕ} → r ≡ Ok n → case_text letter (take n out') ≡ decoded_text letter (decode_of t 4096)
  decoded-octets {n} i =
      ap (λ (l : List ℕ). case_text letter (take n l)) d.leaves
      ∙ octets-in letter out (decode_of t (length out)) n (sym d.answered ∙ i)
      ∙ fits

  pub decoded-none : {u : Undecoded} → r ≡ Err u → 63 ∷ [] ≡ decoded_text letter (decode_of t 4096)
  decoded-none {u} i = none_in letter out (decode_of t (length out)) u (sym d.answered ∙ i) ∙ fits
