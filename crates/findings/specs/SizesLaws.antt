-- A body that is laid out has its fields within it, and so every place that is told. Assumes nothing.
use Rattle.std.specs.Prelude.{◌≡◌, refl, Bool, true, false, ◌⊎◌, List, [], ℕ, ◌+◌, ◌≤◌, eqb, length}
use Rattle.std.proofs.Common.{sym, ap, ◌∙◌, subst, true≢false, inl, inr, arith, length-append}
use Rattle.std.proofs.Math.Bool.{cond}
use Rattle.std.proofs.lemmas.Bool.{false≢true}
use Rattle.octets.specs.Cases.{by-test}
use Rattle.octets.specs.Numbers.{Bytes}
use Rattle.numbers.specs.Fault as fault
use Rattle.carriers.specs.declared.Carrier.{Carrier}
use Rattle.carriers.specs.declared.Carrier.TheVariants.{Router}
use Rattle.carriers.specs.declared.Form.{Form}
use Rattle.carriers.specs.declared.Form.TheVariants.{Wire, Padded, Text}
use Rattle.carriers.specs.Carriers.{form_of, length_width, lifetime_width, text_in, as_text}
use Rattle.carriers.proofs.CarriersLaws.{padded-router}
use Rattle.blocks.specs.Block.{Fields, size_by, name_at}
use Rattle.blocks.specs.Sizes.{length-layout}
use Rattle.blocks.specs.Parse.{bad, fields, is_padding, padded, parse}
use Rattle.blocks.specs.Holding.{Laid, put_tail, HoldsPadded, HoldsBy, Holds}
use Rattle.blocks.proofs.HoldingLaws.{holds_read, holds-or-short, fields-bad}
use Rattle.findings.specs.Troubles.{address_length_at, addresses_at, parameters_at}
use Rattle.findings.specs.Sizes.{Sized}

-- ---- where fields end

module _ (c : Carrier) where
  -- the address length stands before the addresses
  pub length_before : (n : ℕ) → address_length_at c n ≤ addresses_at c n
  unfolding address_length_at addresses_at
  length_before n =
      by-test (as_text c) (λ t. cond t 2 (name_at c 0 + n) ≤ cond t 4 (cond t 2 (name_at c 0 + n) + length_width c)) (λ _. omega arith) (λ _. omega arith)

  -- these before the parameters
  pub addresses-before : (n m : ℕ) → addresses_at c n + m ≤ parameters_at c n m
  unfolding addresses_at parameters_at
  addresses-before n m =
      by-test (as_text c) (λ t. cond t 4 (address_length_at c n + length_width c) + m
      ≤ cond t (4 + m + n) (cond t 4 (address_length_at c n + length_width c) + m + cond (eqb (lifetime_width c) 0) 0 2)) (λ _. omega arith) (λ _. omega arith)

  -- and both parts before their end
  pub parts-before : (n m : ℕ) → n + m ≤ parameters_at c n m
  unfolding address_length_at addresses_at parameters_at
  parts-before n m =
      by-test (as_text c) (λ t. n + m
      ≤ cond t (4 + m + n) (cond t 4 (cond t 2 (name_at c 0 + n) + length_width c) + m + cond (eqb (lifetime_width c) 0) 0 2))
      (λ _. omega arith) (λ _. omega arith)

-- in carriers 1 and 2
module _ (c : Carrier) (e : form_of c ≡ Wire) where
  wire-name : (m : ℕ) → name_at c m ≡ 2 + length_width c
  wire-name m = simp e

  wire-parameters : (n m : ℕ) → parameters_at c n m ≡ 2 + length_width c + length_width c + n + m
  unfolding address_length_at addresses_at parameters_at
  wire-parameters n m = simp e (omega arith)

module _ (c : Carrier) (e : form_of c ≡ Text) where
  text-name : (m : ℕ) → name_at c m ≡ 4 + m
  text-name m = simp e

  text-parameters : (n m : ℕ) → parameters_at c n m ≡ 4 + m + n
  unfolding addresses_at parameters_at
  text-parameters n m = simp e

router-parameters : (n m : ℕ) → parameters_at Router n m ≡ 12 + n + m
unfolding address_length_at addresses_at parameters_at
router-parameters n m = omega arith

wire-sized : (c : Carrier) (b : List ℕ) (f : Fields) → form_of c ≡ Wire → Laid c b f → Sized c b f
wire-sized c b f e h = go f.full refl
  where
    size : length b ≡ size_by Wire c f.full (length f.name) (length f.addresses) (length f.parameters)
    size =
        ap length h.0 ∙ length-layout c f
        ∙ ap (λ (k : Form). size_by k c f.full (length f.name) (length f.addresses) (length f.parameters)) e

    no_text : as_text c ≡ true → ⊥
    no_text t = false≢true (sym (ap text_in e) ∙ t)

    go : (full : Bool) → f.full ≡ full → Sized c b f
    go true u =
        let s : length b ≡ 2 + length_width c + length_width c + length f.name + length f.addresses + length f.parameters = rw u at size in
        record {
          named = omega (arith, s, wire-name c e (length f.addresses));
          whole = λ _. omega (arith, s, wire-parameters c e (length f.name) (length f.addresses));
          bare = λ v. absurd (true≢false (sym u ∙ v));
          text = λ t. absurd (no_text t);
        }
    go false u =
        let s : length b ≡ 2 + length_width c + length f.name = rw u at size in
        let none : (f.addresses ≡ []) × (f.parameters ≡ []) = rw (e, u) at h.1.tail in
        record {
          named = omega (arith, s, wire-name c e (length f.addresses));
          whole = λ v. absurd (true≢false (sym v ∙ u));
          bare = λ _. (ap length none.0, ap length none.1);
          text = λ t. absurd (no_text t);
        }

text-sized : (c : Carrier) (b : List ℕ) (f : Fields) → form_of c ≡ Text → Laid c b f → Sized c b f
text-sized c b f e h =
    let size : length b ≡ 4 + length f.addresses + length f.name + length f.parameters =
    ap length h.0 ∙ length-layout c f
    ∙ ap (λ (k : Form). size_by k c f.full (length f.name) (length f.addresses) (length f.parameters)) e in
    let full : f.full ≡ true = (rw e at h.1.tail).0 in
    record {
      named = omega (arith, size, text-name c e (length f.addresses));
      whole = λ _. omega (arith, size, text-parameters c e (length f.name) (length f.addresses));
      bare = λ v. absurd (true≢false (sym full ∙ v));
      text = λ _. full;
    }

module _ (b : List ℕ) (f : Fields) (rest : List ℕ) (h : HoldsPadded b f rest) where
  opened : length b ≡ 8 + length f.name + length (put_tail f rest)
  opened = ap length h.laid ∙ simp length-append (omega arith)

  tail-full : f.full ≡ true → length (put_tail f rest) ≡ 4 + length f.addresses + length f.parameters + length rest
  tail-full u = simp (u, length-append) (omega arith)

  padded-sized : Sized Router b f
  padded-sized =
      record {
        named = omega (arith, opened);
        whole = λ u. omega (arith, opened, tail-full u, router-parameters (length f.name) (length f.addresses));
        bare = λ u. let none : (f.addresses ≡ []) × (f.parameters ≡ []) = rw u at h.tail in (ap length none.0, ap length none.1);
        text = λ t. absurd (false≢true t);
      }

holds-sized : (k : Form) (c : Carrier) (b : List ℕ) (f : Fields) (rest : List ℕ) → form_of c ≡ k → HoldsBy k c b f rest → Sized c b f
holds-sized Wire c b f rest e h = wire-sized c b f e h.0
holds-sized Padded c b f rest e h = subst (λ (c : Carrier). Sized c b f) (sym (padded-router c e)) (padded-sized b f rest h)
holds-sized Text c b f rest e h = text-sized c b f e h.0

padded-fields : (rest : List ℕ) (f g : Fields) → padded rest f ≡ fields g → f ≡ g
padded-fields rest f g =
    by-test (is_padding rest) (λ x. cond x (fields f) (bad fault.padding) ≡ fields g → f ≡ g) (λ _ e. cc) (λ _ e. absurd (fields-bad (sym e)))

-- a body that is split into fields holds them
pub parse-holds : (c : Carrier) (b : List ℕ) (f : Fields) → Bytes b → parse c b ≡ fields f → (rest : List ℕ) × Holds c b f rest
parse-holds c b f h e = go (holds-or-short c b h)
  where
    go : (parse c b ≡ bad fault.field) ⊎ ((f : Fields) × (rest : List ℕ) × Holds c b f rest) → (rest : List ℕ) × Holds c b f rest
    go (inl k) = absurd (fields-bad (sym e ∙ k))
    go (inr k) =
        let same = padded-fields k.1 k.0 f (sym (holds_read c b k.0 k.1 k.2) ∙ e) in
        (k.1, subst (λ (f : Fields). Holds c b f k.1) same k.2)

pub parse-sized : (c : Carrier) (b : List ℕ) (f : Fields) → Bytes b → parse c b ≡ fields f → Sized c b f
parse-sized c b f h e = let k = parse-holds c b f h e in holds-sized (form_of c) c b f k.0 refl k.1

pub sized-parts : {c : Carrier} {b : List ℕ} {f : Fields} → Sized c b f → length f.name + length f.addresses + length f.parameters ≤ length b
sized-parts {c} {b} {f} s = go f.full refl
  where
    go : (full : Bool) → f.full ≡ full → length f.name + length f.addresses + length f.parameters ≤ length b
    go true u = omega (arith, s.whole u, parts-before c (length f.name) (length f.addresses))
    go false u = omega (arith, s.named, (s.bare u).0, (s.bare u).1)

-- the addresses of the full form lie within the body
pub addresses-inside : (c : Carrier) (b : List ℕ) (f : Fields) → Bytes b → parse c b ≡ fields f → f.full ≡ true
    → addresses_at c (length f.name) + length f.addresses ≤ length b
addresses-inside c b f h e u = omega (arith, (parse-sized c b f h e).whole u, addresses-before c (length f.name) (length f.addresses))
