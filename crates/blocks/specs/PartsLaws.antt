-- One law for each way out of the code: what the steps hand on is what `parse` reads (a field is `-cut`, the name stands `-alone`, the full form is
-- `-whole`). Assumes nothing.
use Rattle.std.specs.Prelude.{◌≡◌, refl, Bool, true, false, List, ℕ, ◌+◌, ◌*◌, ◌≤◌, ◌<◌, eqb, length, take, drop, get_or}
use Rattle.std.proofs.Common.{sym, ap, ◌∙◌, arith, le-ltb, lt-ltb, take_all}
use Rattle.std.specs.Prelude.{Result, Ok, Err, IsErrAnd}
use Rattle.std.specs.List.{IsSplitAt}
use Rattle.octets.specs.Numbers.{val, at16, at32, number_at, all_zero}
use Rattle.octets.specs.NumbersLaws.{number-none, number-8, number-16, number-32}
use Rattle.octets.specs.Fields.{part, number, counted}
use Rattle.numbers.specs.Fault as fault
use Rattle.numbers.specs.declared.Fault.{Fault}
use Rattle.numbers.specs.declared.Fault.TheVariants.{Field}
use Rattle.carriers.specs.declared.Carrier.{Carrier}
use Rattle.carriers.specs.declared.Carrier.TheVariants.{Router}
use Rattle.carriers.specs.declared.Form.{Form}
use Rattle.carriers.specs.Carriers.{length_width, form_of, lifetime_width, address_width, as_text}
use Rattle.carriers.proofs.CarriersLaws.{text-width, wire-form, text-form}
use Rattle.blocks.specs.declared.Parts.{Parts}
use Rattle.blocks.specs.Block.{name_only, whole}
use Rattle.blocks.specs.Parse.{Parsed, bad, fields, short, opening, after_name, is_padding, padded, after_name_padded, parse_by, parse}
use Rattle.blocks.specs.Together.{part-is, part-three}
use Rattle.blocks.specs.Parts.{parsed_in, Named, Yields, Stops, Takes, Counts}

-- a fault that is handed on
pub handed-on : (r : Result Parts Fault) {k : Fault} → k ≡ Field → IsErrAnd r (λ e. e ≡ k) → parsed_in r ≡ short
handed-on (Ok _) e h = elim h [ ]
handed-on (Err _) e h = rw (h, e)

-- ---- steps

module _ (n : ℕ) (l : List ℕ) where
  pub part-yields : n ≤ length l → Yields (part short n l) (take n l) (drop n l)
  part-yields h next = part-is short n l next ∙ simp (le-ltb _ _ h)

  -- the parts are handed on, or there are too few octets
  pub part-takes : {x rest : List ℕ} → IsSplitAt l n x rest → Takes n l x rest
  part-takes h = (h.3, omega (arith, h.3, h.4), λ next. part-yields h.0 next ∙ rw (h.1, h.2))

  pub part-stops : length l < n → Stops (part short n l)
  part-stops h next = part-is short n l next ∙ simp (lt-ltb _ _ h)

module _ (w : ℕ) (l : List ℕ) where
  pub counted-stops : Stops (part short w l) → Stops (counted short w l)
  unfolding counted number
  counted-stops s next = s _

  module _ {x rest : List ℕ} (y : Takes w l x rest) {n : ℕ} (en : n ≡ number_at w 0 x) where
    counted-is : (next : List ℕ → List ℕ → Parsed) → counted short w l next ≡ part short n rest next
    unfolding counted number number_at
    counted-is next = y.2 _ ∙ ap (λ (n : ℕ). part short n rest next) (sym (en ∙ ap val (take_all w x (omega (arith, y.0)))))

    pub counted-counts : {z r : List ℕ} → Takes n rest z r → Counts w l z r
    counted-counts t = (omega (arith, y.0, y.1, t.0, t.1), λ next. counted-is next ∙ t.2 next)

    pub counted-past : Stops (part short n rest) → Stops (counted short w l)
    counted-past s next = counted-is next ∙ s next

-- ---- carriers 1 to 3: priority, a lifetime of t octets, a length of w and the name

module _ (c : Carrier) (b : List ℕ) (next : ℕ → ℕ → List ℕ → List ℕ → Parsed) (z : parse c b ≡ opening c b next) {t w a : ℕ} (et : t ≡ lifetime_width c)
    (ew : w ≡ length_width c) (ea : a ≡ 2 + (t + w)) where
  opening-is : parse c b ≡ part short a b (λ _ l. part short (number_at w (2 + t) b) l (next (number_at 2 0 b) (number_at t 2 b)))
  unfolding number_at number counted
  opening-is = z ∙ rw (ea, et, ew) (part-three short 2 (lifetime_width c) (length_width c) b _ ∙ sym (part-is short _ b _))

  pub fixed-cut : Stops (part short a b) → short ≡ parse c b
  fixed-cut s = sym (opening-is ∙ s _)

  pub name-next : {x l : List ℕ} → Yields (part short a b) x l → {p u n : ℕ} → p ≡ number_at 2 0 b → u ≡ number_at t 2 b → n ≡ number_at w (2 + t) b
      → parse c b ≡ part short n l (next p u)
  name-next y ep eu en = opening-is ∙ y _ ∙ rw (ep, eu, en)

-- ---- carriers 1 and 2

pub named-opens : (c : Carrier) (b : List ℕ) → Named c → parse c b ≡ opening c b (after_name c)
unfolding parse
named-opens c b h = ap (λ (k : Form). parse_by k c b) (wire-form (form_of c) h.0 h.1)

module _ (c : Carrier) (b : List ℕ) (z : Named c) {w : ℕ} (e : w ≡ length_width c) where
  pub named-cut : Stops (part short (2 + w) b) → short ≡ parse c b
  named-cut = fixed-cut c b (after_name c) (named-opens c b z) (sym z.0) e (omega arith)

  module _ {x l : List ℕ} (y : Takes (2 + w) b x l) {p n : ℕ} (ep : p ≡ at16 b 0) (en : n ≡ number_at w 2 b) where
    named-next : parse c b ≡ part short n l (after_name c p 0)
    named-next = name-next c b (after_name c) (named-opens c b z) (sym z.0) e (omega arith) y.2 (ep ∙ number-16 b 0 (omega (arith, y.0, y.1))) (number-none 2 b) en

    pub named-name-cut : Stops (part short n l) → short ≡ parse c b
    named-name-cut s = sym (named-next ∙ s _)

    module _ {name rest : List ℕ} (there : Takes n l name rest) where
      pub named-alone : true ≡ eqb (length rest) 0 → fields (name_only p 0 name) ≡ parse c b
      named-alone j = sym (named-next ∙ there.2 _ ∙ simp (← j))

      module _ (some : false ≡ eqb (length rest) 0) where
        named-more : parse c b ≡ counted short w rest (λ a q. fields (whole p 0 name a q))
        named-more = named-next ∙ there.2 _ ∙ simp (← some, ← e)

        pub named-addresses-cut : Stops (counted short w rest) → short ≡ parse c b
        named-addresses-cut s = sym (named-more ∙ s _)

        pub named-whole : {a q r : List ℕ} → Counts w rest a q → r ≡ q → fields (whole p 0 name a r) ≡ parse c b
        named-whole {a} s e = ap (λ (r : List ℕ). fields (whole p 0 name a r)) e ∙ sym (named-more ∙ s.1 _)

-- ---- carrier 3

module _ (l : List ℕ) where
  pub padding-few : {x : Bool} → length l < 8 → x ≡ all_zero l → x ≡ is_padding l
  unfolding is_padding
  padding-few h e = rw (lt-ltb (length l) 8 h) e

  pub padding-many : 8 ≤ length l → false ≡ is_padding l
  unfolding is_padding
  padding-many h = rw (le-ltb (length l) 8 h)

pub router-opens : (b : List ℕ) → parse Router b ≡ opening Router b after_name_padded
unfolding parse
router-opens b = refl

module _ (b : List ℕ) where
  pub router-cut : Stops (part short 8 b) → short ≡ parse Router b
  router-cut = fixed-cut Router b after_name_padded (router-opens b) refl refl refl

  module _ {l₀ l : List ℕ} (y : Takes 8 b l₀ l) {p t n : ℕ} (ep : p ≡ at16 b 0) (et : t ≡ at32 b 2) (en : n ≡ at16 b 6) where
    router-next : parse Router b ≡ part short n l (after_name_padded p t)
    router-next =
        name-next Router b after_name_padded (router-opens b) refl refl refl y.2 (ep ∙ number-16 b 0 (omega (arith, y.0, y.1)))
        (et ∙ number-32 b 2 (omega (arith, y.0, y.1))) (en ∙ number-16 b 6 (omega (arith, y.0, y.1)))

    pub router-name-cut : Stops (part short n l) → short ≡ parse Router b
    router-name-cut s = sym (router-next ∙ s _)

    module _ {name rest : List ℕ} (there : Takes n l name rest) where
      module _ (few : length rest < 8) where
        pub router-alone : true ≡ is_padding rest → fields (name_only p t name) ≡ parse Router b
        router-alone k = sym (router-next ∙ there.2 _ ∙ simp (lt-ltb _ _ few, ← k))

        pub router-alone-unpadded : false ≡ is_padding rest → bad fault.padding ≡ parse Router b
        router-alone-unpadded k = sym (router-next ∙ there.2 _ ∙ simp (lt-ltb _ _ few, ← k))

      module _ (many : 8 ≤ length rest) where
        router-more : parse Router b ≡ counted short 2 rest (λ a l. counted short 2 l (λ q l. padded l (whole p t name a q)))
        router-more = router-next ∙ there.2 _ ∙ simp (le-ltb _ _ many)

        pub router-addresses-cut : Stops (counted short 2 rest) → short ≡ parse Router b
        router-addresses-cut s = sym (router-more ∙ s _)

        module _ {a m : List ℕ} (first : Counts 2 rest a m) where
          pub router-parameters-cut : Stops (counted short 2 m) → short ≡ parse Router b
          router-parameters-cut s = sym (router-more ∙ first.1 _ ∙ s _)

          module _ {q left : List ℕ} (second : Counts 2 m q left) where
            router-end : parse Router b ≡ padded left (whole p t name a q)
            router-end = router-more ∙ first.1 _ ∙ second.1 _

            pub router-whole : true ≡ is_padding left → fields (whole p t name a q) ≡ parse Router b
            router-whole k = sym (router-end ∙ simp (← k))

            pub router-unpadded : false ≡ is_padding left → bad fault.padding ≡ parse Router b
            router-unpadded k = sym (router-end ∙ simp (← k))

-- ---- carriers 4 and 5

module _ (c : Carrier) (b : List ℕ) (z : as_text c ≡ true) where
  attribute-is : let k : ℕ = number_at 1 2 b * address_width c in let n : ℕ = number_at 1 3 b in
      parse c b ≡ part short 4 b (λ _ l. part short k l (λ a l. part short n l (λ name q. fields (whole (number_at 2 0 b) 0 name a q))))
  unfolding number_at number parse
  attribute-is =
      ap (λ (k : Form). parse_by k c b) (text-form (form_of c) z) ∙ rw (text-width c z) (part-three short 2 1 1 b _ ∙ sym (part-is short _ b _))

  pub attribute-cut : Stops (part short 4 b) → short ≡ parse c b
  attribute-cut s = sym (attribute-is ∙ s _)

  module _ {x l : List ℕ} (y : Takes 4 b x l) {p k w : ℕ} (ep : p ≡ at16 b 0) (ek : k ≡ get_or b 2 0) (ew : w ≡ address_width c)
    where
      attribute-next : parse c b ≡ part short (k * w) l (λ a l. part short (number_at 1 3 b) l (λ name q. fields (whole p 0 name a q)))
      attribute-next = attribute-is ∙ y.2 _ ∙ rw (ep, number-16 b 0 (omega (arith, y.0, y.1)), ek, number-8 b 2 (omega (arith, y.0, y.1)), ew)

      pub attribute-addresses-cut : Stops (part short (k * w) l) → short ≡ parse c b
      attribute-addresses-cut s = sym (attribute-next ∙ s _)

      module _ {a m : List ℕ} (first : Takes (k * w) l a m) {n : ℕ} (en : n ≡ get_or b 3 0) where
        attribute-name : parse c b ≡ part short n m (λ name q. fields (whole p 0 name a q))
        attribute-name = attribute-next ∙ first.2 _ ∙ rw (en, number-8 b 3 (omega (arith, y.0, y.1)))

        pub attribute-name-cut : Stops (part short n m) → short ≡ parse c b
        attribute-name-cut s = sym (attribute-name ∙ s _)

        pub attribute-whole : {name q : List ℕ} → Takes n m name q → fields (whole p 0 name a q) ≡ parse c b
        attribute-whole s = sym (attribute-name ∙ s.2 _)
