-- The laws of a text's front: what its characters from the i-th on tell. Assumes nothing.
use Rattle.std.specs.Prelude.{◌≡◌, refl, true, false, List, [], ◌∷◌, ◌++◌, ℕ, ◌+◌, ◌≤◌, ◌<◌, ltb, length, get_or, drop}
use Rattle.std.proofs.Math.Path.{sym}
use Rattle.std.proofs.Common.{arith, lit<}
use Rattle.std.proofs.Math.Bool.{true≢false}
use borrow.Author.Tests.{eq-eqb, ne_eqb}
use Rattle.inputs.specs.TextLaws.{closed-cons, closed-end}
use Rattle.forms.specs.declared.front.Form.{Form}
use Rattle.forms.specs.declared.front.Form.TheVariants as form
use Rattle.forms.specs.Fronts.{Front, number_of, begun, is, ex, after, form_from, form_of}

module _ (t : List ℕ) (i : ℕ) (s s' : Front) (e : s' ≡ after (get_or t i 10) s) where
  -- the form is known
  pub form-here : i ≤ length t → (s'.form ≡ 0 → ⊥) → form_from s (drop i (t ++ (10 ∷ []))) ≡ s'.form
  unfolding form_from
  form-here h n = rw (closed-cons t i h, sym e, ne_eqb s'.form 0 n)

  -- it is not
  pub form-later : i ≤ length t → s'.form ≡ 0 → form_from s' (drop (i + 1) (t ++ (10 ∷ []))) ≡ form_from s (drop i (t ++ (10 ∷ [])))
  unfolding form_from
  form-later h n = rw (closed-cons t i h, sym e, eq-eqb s'.form 0 n)

pub form-none : (t : List ℕ) (i : ℕ) (s : Front) → length t < i → form_from s (drop i (t ++ (10 ∷ []))) ≡ 1
unfolding form_from
form-none t i s h = rw (closed-end t i h)

pub form-start : (t : List ℕ) → form_from begun (drop 0 (t ++ (10 ∷ []))) ≡ form_of t
unfolding form_of
form-start t = refl

-- a form is never the number that stands for none
pub form-known : (f : Form) → number_of f ≡ 0 → ⊥
form-known form.Blanks e = absurd (omega arith)
form-known form.Colons e = absurd (omega arith)
form-known form.Commas e = absurd (omega arith)
form-known form.Dashes e = absurd (omega arith)
form-known form.Prefixes e = absurd (omega arith)
form-known form.Escapes e = absurd (omega arith)
form-known form.Wireshark e = absurd (omega arith)
form-known form.Od e = absurd (omega arith)
form-known form.Hexdump e = absurd (omega arith)
form-known form.Xxd e = absurd (omega arith)
form-known form.Tcpdump e = absurd (omega arith)

-- a form that is no dump, and not the one with \x, is a list of groups
pub form-list : (f : Form) → (f ≡ form.Escapes → ⊥) → ltb 6 (number_of f) ≡ false → number_of f < 6
form-list form.Blanks n e = lit< tt
form-list form.Colons n e = lit< tt
form-list form.Commas n e = lit< tt
form-list form.Dashes n e = lit< tt
form-list form.Prefixes n e = lit< tt
form-list form.Escapes n e = absurd (n refl)
form-list form.Wireshark n e = absurd (true≢false e)
form-list form.Od n e = absurd (true≢false e)
form-list form.Hexdump n e = absurd (true≢false e)
form-list form.Xxd n e = absurd (true≢false e)
form-list form.Tcpdump n e = absurd (true≢false e)
