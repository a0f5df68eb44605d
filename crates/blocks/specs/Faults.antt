-- The faults of a layout: a field past the end, and in carrier 3 also what is no padding. Assumes nothing.
use Rattle.std.specs.Prelude.{◌≡◌, refl, Bool, true, false, cond, ◌⊎◌, List, ℕ, ◌*◌, ltb, leb, eqb, length, take, drop}
use Rattle.std.proofs.Common.{inl, inr, arith}
use Rattle.octets.specs.Numbers.{val}
use Rattle.octets.specs.Fields.{part, number, counted}
use Rattle.numbers.specs.Fault as fault
use Rattle.carriers.specs.declared.Carrier.{Carrier}
use Rattle.carriers.specs.declared.Carrier.TheVariants.{Router}
use Rattle.carriers.specs.declared.Form.{Form}
use Rattle.carriers.specs.declared.Form.TheVariants.{Wire, Padded, Text}
use Rattle.carriers.specs.Carriers.{length_width, form_of, lifetime_width, address_width}
use Rattle.carriers.proofs.CarriersLaws.{padded-router}
use Rattle.blocks.specs.Block.{Fields}
use Rattle.blocks.specs.Parse.{Parsed, bad, fields, short, opening, after_name, is_padding, padded, after_name_padded, attribute, parse_by, parse}

-- what holds of `short` and of all fields, and in carrier 3 of the fault of padding, holds of every answer
module _ (Q : Parsed → Type 0) (stop : Q short) (good : (f : Fields) → Q (fields f)) where
  either-all : (b : Bool) (x y : Parsed) → Q x → Q y → Q (cond b x y)
  either-all true x y h k = h
  either-all false x y h k = k

  part-all : (n : ℕ) (l : List ℕ) (next : List ℕ → List ℕ → Parsed) → ((x r : List ℕ) → Q (next x r)) → Q (part short n l next)
  unfolding part
  part-all n l next k = either-all (leb n (length l)) _ _ (k (take n l) (drop n l)) stop

  number-all : (w : ℕ) (l : List ℕ) (next : ℕ → List ℕ → Parsed) → ((v : ℕ) (r : List ℕ) → Q (next v r)) → Q (number short w l next)
  unfolding number
  number-all w l next k = part-all w l (λ x l. next (val x) l) (λ x r. k (val x) r)

  counted-all : (w : ℕ) (l : List ℕ) (next : List ℕ → List ℕ → Parsed) → ((x r : List ℕ) → Q (next x r)) → Q (counted short w l next)
  unfolding counted
  counted-all w l next k = number-all w l (λ n l. part short n l next) (λ n l. part-all n l next k)

  opening-all : (c : Carrier) (l : List ℕ) (next : ℕ → ℕ → List ℕ → List ℕ → Parsed) → ((p t : ℕ) (n r : List ℕ) → Q (next p t n r)) → Q (opening c l next)
  opening-all c l next k = number-all 2 l _ (λ p l. number-all (lifetime_width c) l _ (λ t l. counted-all (length_width c) l _ (λ n l. k p t n l)))

  named-all : (c : Carrier) (l : List ℕ) → Q (opening c l (after_name c))
  named-all c l = opening-all c l (after_name c) (λ p t n l. either-all (eqb (length l) 0) _ _ (good _) (counted-all (length_width c) l _ (λ a q. good _)))

  padded-all : Q (bad fault.padding) → (l : List ℕ) (f : Fields) → Q (padded l f)
  padded-all h l f = either-all (is_padding l) _ _ (good f) h

  router-all : Q (bad fault.padding) → (c : Carrier) (l : List ℕ) → Q (opening c l after_name_padded)
  router-all h c l = opening-all c l after_name_padded (λ p t n l.
      either-all (ltb (length l) 8) _ _ (padded-all h l _) (counted-all 2 l _ (λ a l. counted-all 2 l _ (λ q l. padded-all h l _))))

  attribute-all : (c : Carrier) (l : List ℕ) → Q (attribute c l)
  attribute-all c l =
      number-all 2 l _ (λ p l. number-all 1 l _ (λ i l. number-all (length_width c) l _ (λ m l.
      part-all (i * address_width c) l _ (λ a l. part-all m l _ (λ n q. good _)))))

  form-all : (k : Form) (c : Carrier) (l : List ℕ) → (k ≡ Padded → Q (bad fault.padding)) → Q (parse_by k c l)
  form-all Wire c l h = named-all c l
  form-all Padded c l h = router-all (h refl) c l
  form-all Text c l h = attribute-all c l

  parse-all : (c : Carrier) (l : List ℕ) → (c ≡ Router → Q (bad fault.padding)) → Q (parse c l)
  unfolding parse
  parse-all c l h = form-all (form_of c) c l (λ e. h (padded-router c e))

pub parse-fault : (c : Carrier) (b : List ℕ) (k : ℕ) → parse c b ≡ bad k → (k ≡ fault.field) ⊎ ((c ≡ Router) × (k ≡ fault.padding))
parse-fault c b k =
    parse-all (λ r. r ≡ bad k → (k ≡ fault.field) ⊎ ((c ≡ Router) × (k ≡ fault.padding)))
    (λ e. inl (cc))
    (λ f e. let z : ◌≡◌ {A = ℕ} 0 1 = cc in absurd (omega arith))
    c b
    (λ h e. inr (h, cc))
