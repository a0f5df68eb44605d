-- `parse` and `layout` are inverse to each other, on the fields that fit and on the bodies that a carrier can bring. Assumes nothing.
use Rattle.std.specs.Prelude.{◌≡◌, refl, Bool, true, false, cond, ◌&&◌, ◌↔◌, List, [], ◌∷◌, ◌++◌, ℕ, ◌+◌, ◌*◌, ◌/◌, ◌^◌, ◌≤◌, ◌<◌, ltb, eqb, length}
use Rattle.std.proofs.Common.{sym, ap, ◌∙◌, mul-div_cancel, div-add-mod', arith, le-ltb, lt-ltb, ltb-true, ne_eqb, length-append}
use Rattle.std.proofs.Math.Nat.{mul-mod_left}
use Rattle.std.proofs.lemmas.List.{length-replicate}
use Rattle.octets.specs.Cases.{by_less}
use Rattle.octets.specs.Numbers.{be, Bytes, zeros, all_zero}
use Rattle.octets.specs.NumbersLaws.{length-be, zeros-zero, zero-zeros}
use Rattle.octets.specs.Fields.{counted, put_counted}
use Rattle.octets.specs.FieldsLaws.{part-read, number_read, counted-read, part_says, number-says, counted-says}
use Rattle.numbers.specs.Fault as fault
use Rattle.carriers.specs.declared.Carrier.{Carrier}
use Rattle.carriers.specs.declared.Carrier.TheVariants.{Router}
use Rattle.carriers.specs.declared.Form.{Form}
use Rattle.carriers.specs.declared.Form.TheVariants.{Wire, Padded, Text}
use Rattle.carriers.specs.Carriers.{length_width, form_of, lifetime_in, lifetime_width, address_width}
use Rattle.carriers.proofs.CarriersLaws.{padded-router, length-width, address-width}
use Rattle.blocks.specs.Block.{Fields, name_only, whole, put_opening, put_after_name, padding_after, put_after_name_padded, put_attribute, layout_by, layout, FitsNamed, FitsRouter, FitsAttribute, FitsBy, Fits, PossibleBy, Possible}
use Rattle.blocks.specs.Parse.{Parsed, bad, fields, short, opening, after_name, is_padding, padded, after_name_padded, attribute, parse_by, parse}

-- ---- laid out, then split

pub opening-read : (c : Carrier) (f : Fields) (l : List ℕ) (next : ℕ → ℕ → List ℕ → List ℕ → Parsed) → f.priority < 65536 → f.lifetime < 256 ^ lifetime_width c
    → length f.name < 256 ^ length_width c → opening c (put_opening c f l) next ≡ next f.priority f.lifetime f.name l
opening-read c f l next hp ht hn = simp (number_read, counted-read)

after_name-read : (c : Carrier) (p t : ℕ) (n : List ℕ) (b : Bool) (a q : List ℕ)
    → let f : Fields = record { priority = p; lifetime = t; full = b; name = n; addresses = a; parameters = q } in
    0 < length_width c → FitsNamed c f → after_name c p t n (put_after_name c f) ≡ fields f
after_name-read c p t n true a q k h =
    let l : List ℕ = put_counted (length_width c) a q in
    let e : length l ≡ length_width c + (length a + length q) = simp (length-append, length-be) in
    let z : length l ≡ 0 → ⊥ = λ i. omega arith in
    rw (ne_eqb (length l) 0 z) (counted-read short (length_width c) a q (λ a q. fields (whole p t n a q)) h)
after_name-read c p t n false a q k h = rw (h.0, h.1)

padded-read : (n : ℕ) (f : Fields) → n < 8 → padded (zeros n) f ≡ fields f
unfolding is_padding
padded-read n f h =
    let k : length (zeros n) < 8 = rw length-replicate h in
    rw (lt-ltb (length (zeros n)) 8 k, zeros-zero n)

after_name_padded-read : (p t : ℕ) (n : List ℕ) (b : Bool) (a q : List ℕ)
    → let f : Fields = record { priority = p; lifetime = t; full = b; name = n; addresses = a; parameters = q } in
    FitsRouter f → after_name_padded p t n (put_after_name_padded f) ≡ fields f
after_name_padded-read p t n true a q h =
    let g : ℕ = padding_after (12 + length n + length a + length q) in
    let l : List ℕ = put_counted 2 a (put_counted 2 q (zeros g)) in
    let e : length l ≡ 4 + length a + length q + g = simp (length-append, length-replicate) (omega arith) in
    let k : 8 ≤ length l = omega (arith, h.2) in
    let s : g < 8 = omega arith in
    let ha : length a < 256 ^ 2 = h.0 in
    let hq : length q < 256 ^ 2 = h.1 in
    rw (le-ltb (length l) 8 k) (simp (counted-read, padded-read))
after_name_padded-read p t n false a q h =
    let g : ℕ = padding_after (8 + length n) in
    let s : g < 8 = omega arith in
    let k : length (zeros g) < 8 = rw length-replicate s in
    rw (h.0, h.1, lt-ltb (length (zeros g)) 8 k) (padded-read g (name_only p t n) s)

attribute-read : (c : Carrier) (p t : ℕ) (n : List ℕ) (b : Bool) (a q : List ℕ)
    → let f : Fields = record { priority = p; lifetime = t; full = b; name = n; addresses = a; parameters = q } in
    p < 65536 → t < 1 → length n < 256 ^ length_width c → FitsAttribute c f → attribute c (put_attribute c f) ≡ fields f
attribute-read c p t n b a q hp ht hn h =
    let w : ℕ = address_width c in
    let e : length a ≡ length a / w * w = omega (arith, div-add-mod' (length a) w, h.1) in
    let z : t ≡ 0 = omega arith in
    let ha : length a / w < 256 ^ 1 = h.2 in
    simp (number_read, part-read, z, h.0)

-- what is laid out is split as it was
layout-read : (k : Form) (c : Carrier) (f : Fields) → form_of c ≡ k → f.priority < 65536 → f.lifetime < 256 ^ lifetime_width c
    → length f.name < 256 ^ length_width c → FitsBy k c f → parse_by k c (layout_by k c f) ≡ fields f
layout-read Wire c f e p t n h = opening-read c f _ _ p t n ∙ after_name-read c _ _ _ f.full _ _ (length-width c).0 h
layout-read Padded c f e p t n h = opening-read c f _ _ p t n ∙ after_name_padded-read _ _ _ f.full _ _ h
layout-read Text c f e p t n h = attribute-read c _ _ _ f.full _ _ p (rw e at t) n h

pub parse-layout : (c : Carrier) (f : Fields) → Fits c f → parse c (layout c f) ≡ fields f
unfolding parse layout
parse-layout c f h = layout-read (form_of c) c f refl h.priority h.lifetime h.name h.tail

-- ---- split, so it was laid out

-- P holds of the fields, where there are some
abbrev Says : (Fields → Type 0) → Parsed → Type 0
Says P (bad k) = Unit {0}
Says P (fields f) = P f

-- a condition that is met
given-says : {C : Type 0} (P : Fields → Type 0) (x : Parsed) → C → Says (λ f. C → P f) x → Says P x
given-says P (bad k) c h = tt
given-says P (fields f) c h = h c

empty-says : (P : Fields → Type 0) (l : List ℕ) (x y : Parsed) → (l ≡ [] → Says P x) → Says P y → Says P (cond (eqb (length l) 0) x y)
empty-says P [] x y h k = h refl
empty-says P (z ∷ l) x y h k = rw (ne_eqb (length (z ∷ l)) 0 (λ e. omega arith)) k

padded-says : (P : Fields → Type 0) (l : List ℕ) (f : Fields) → (l ≡ zeros (length l) → length l < 8 → P f) → Says P (padded l f)
unfolding is_padding
padded-says P l f h = go (ltb (length l) 8) (all_zero l) refl refl
  where
    go : (a b : Bool) → ltb (length l) 8 ≡ a → all_zero l ≡ b → Says P (cond (a && b) (fields f) (bad fault.padding))
    go true true s t = h (zero-zeros l t) (ltb-true _ _ s)
    go true false s t = tt
    go false b s t = tt

-- S relates octets and an answer, and holds of every answer 20
pub opening-says : (c : Carrier) (S : List ℕ → Parsed → Type 0) (l : List ℕ) (next : ℕ → ℕ → List ℕ → List ℕ → Parsed) → Bytes l → ((l : List ℕ) → S l short)
    → ((p u : ℕ) (n r : List ℕ) → p < 65536 → u < 256 ^ lifetime_width c → length n < 256 ^ length_width c → Bytes r
    → S (be 2 p ++ (be (lifetime_width c) u ++ put_counted (length_width c) n r)) (next p u n r))
    → S l (opening c l next)
opening-says c S l next h s k =
    let t : ℕ = lifetime_width c in
    number-says short 2 S l _ h (s l) (λ p l hp h.
    number-says short t (λ l. S (be 2 p ++ l)) l _ h (s (be 2 p ++ l)) (λ u l hu h.
    counted-says short (length_width c) (λ l. S (be 2 p ++ (be t u ++ l))) l _ h (λ l. s (be 2 p ++ (be t u ++ l))) (λ n l hn _ h.
    k p u n l hp hu hn h)))

-- what is to be shown of fields that fit
abbrev Shown : Carrier → (Fields → List ℕ) → (Fields → Type 0) → (List ℕ → Fields → Type 0) → Type 0
Shown c put Fit P = (f : Fields) → f.priority < 65536 → f.lifetime < 256 ^ lifetime_width c → length f.name < 256 ^ length_width c → Fit f → P (put f) f

named-says : (c : Carrier) (P : List ℕ → Fields → Type 0) (b : List ℕ) → Bytes b
    → Shown c (λ f. put_opening c f (put_after_name c f)) (FitsNamed c) P → Says (P b) (opening c b (after_name c))
named-says c P b h k =
    opening-says c (λ b. Says (P b)) b (after_name c) h (λ _. tt) (λ p u n l hp hu hn h.
    let Q : List ℕ → Fields → Type 0 = λ l. P (be 2 p ++ (be (lifetime_width c) u ++ put_counted (length_width c) n l)) in
    empty-says (Q l) l _ _
    (λ e. rw e (k (name_only p u n) hp hu hn (refl, refl)))
    (counted-says short (length_width c) (λ l. Says (Q l)) l _ h (λ _. tt) (λ a q ha _ _.
    k (whole p u n a q) hp hu hn ha)))

router-says : (P : List ℕ → Fields → Type 0) (b : List ℕ) → Bytes b → Shown Router (λ f. put_opening Router f (put_after_name_padded f)) FitsRouter P
    → Says (λ f. Possible Router b → P b f) (opening Router b after_name_padded)
router-says P b h k =
    opening-says Router (λ b. Says (λ f. Possible Router b → P b f)) b after_name_padded h (λ _. tt) (λ p u n l hp hu hn h.
    let Q : List ℕ → Fields → Type 0 = λ l f. let b : List ℕ = be 2 p ++ (be 4 u ++ put_counted 2 n l) in Possible Router b → P b f in
    by_less (Says (Q l)) (length l) 8 _ _
    (λ _. padded-says (Q l) l (name_only p u n) (λ z few m.
    let g : length l ≡ padding_after (8 + length n) = omega (arith, length-append n l) in
    rw (z ∙ ap zeros g) (k (name_only p u n) hp hu hn (refl, refl))))
    (λ big. given-says (Q l) (counted short 2 l (λ a l. counted short 2 l (λ q l. padded l (whole p u n a q)))) big
    (counted-says short 2 (λ l. Says (λ f. 8 ≤ length l → Q l f)) l _ h (λ _. tt) (λ a l ha _ h.
    counted-says short 2 (λ l. Says (λ f. 8 ≤ length (put_counted 2 a l) → Q (put_counted 2 a l) f)) l _ h (λ _. tt) (λ q l hq _ h.
    padded-says (λ f. 8 ≤ length (put_counted 2 a (put_counted 2 q l)) → Q (put_counted 2 a (put_counted 2 q l)) f) l (whole p u n a q) (λ z few big m.
    let e : length (put_counted 2 n (put_counted 2 a (put_counted 2 q l))) ≡ 6 + length n + length a + length q + length l = simp length-append (omega arith) in
    let g : length l ≡ padding_after (12 + length n + length a + length q) = omega arith in
    rw (z ∙ ap zeros g) (k (whole p u n a q) hp hu hn (ha, hq, omega (arith, length-append a (put_counted 2 q l), length-append q l)))))))))

attribute-says : (c : Carrier) (P : List ℕ → Fields → Type 0) (b : List ℕ) → lifetime_width c ≡ 0 → 0 < address_width c → Bytes b
    → Shown c (put_attribute c) (FitsAttribute c) P → Says (P b) (attribute c b)
attribute-says c P b z hw h k =
    let v : ℕ = length_width c in
    let w : ℕ = address_width c in
    number-says short 2 (λ l. Says (P l)) b _ h tt (λ p l hp h.
    number-says short 1 (λ l. Says (P (be 2 p ++ l))) l _ h tt (λ i l hi h.
    number-says short v (λ l. Says (P (be 2 p ++ (be 1 i ++ l)))) l _ h tt (λ m l hm h.
    part_says short (i * w) (λ l. Says (P (be 2 p ++ (be 1 i ++ (be v m ++ l))))) l _ h tt (λ a l ea _ h.
    part_says short m (λ l. Says (P (be 2 p ++ (be 1 i ++ (be v m ++ (a ++ l)))))) l _ h tt (λ n q en _ _.
    let count : length a / w ≡ i = rw ea (mul-div_cancel i hw) in
    rw (← count, ← en) (k (whole p 0 n a q) hp (rw z (omega arith)) (rw en hm) (refl, rw ea (mul-mod_left i w), rw count hi)))))))

-- by the form: b is what f is laid out to, and f fits
abbrev LaidBy : Form → Carrier → List ℕ → Fields → Type 0
LaidBy k c b f = (b ≡ layout_by k c f) × ((f.priority < 65536) × (f.lifetime < 256 ^ lifetime_width c) × (length f.name < 256 ^ length_width c) × FitsBy k c f)

form-says : (k : Form) (c : Carrier) (b : List ℕ) → form_of c ≡ k → Bytes b → PossibleBy k b → Says (LaidBy k c b) (parse_by k c b)
form-says Wire c b e h _ = named-says c (LaidBy Wire c) b h (λ f hp hu hn t. (refl, (hp, hu, hn, t)))
form-says Padded c b e h m =
    rw (padded-router c e)
    (given-says (LaidBy Padded Router b) (parse_by Padded Router b) m (router-says (LaidBy Padded Router) b h (λ f hp hu hn t. (refl, (hp, hu, hn, t)))))
form-says Text c b e h _ = attribute-says c (LaidBy Text c) b (ap lifetime_in e) (address-width c).0 h (λ f hp hu hn t. (refl, (hp, hu, hn, t)))

parse-says : (c : Carrier) (b : List ℕ) → Bytes b → Possible c b → Says (LaidBy (form_of c) c b) (parse c b)
unfolding parse
parse-says c b h m = form-says (form_of c) c b refl h m

-- what is split was laid out so
pub layout-parse : (c : Carrier) (b : List ℕ) {f : Fields} → Bytes b → Possible c b → parse c b ≡ fields f → b ≡ layout c f
unfolding layout
layout-parse c b h m e = (rw e at (parse-says c b h m)).0

-- and its fields fit
pub parse-fits : (c : Carrier) (b : List ℕ) {f : Fields} → Bytes b → Possible c b → parse c b ≡ fields f → Fits c f
parse-fits c b h m e =
    let p = (rw e at (parse-says c b h m)).1 in
    record { priority = p.0; lifetime = p.1; name = p.2; tail = p.3 }

-- both as one: a body says f exactly where it is f's layout and f fits
pub parse-iff : (c : Carrier) (b : List ℕ) (f : Fields) → Bytes b → Possible c b → (parse c b ≡ fields f) ↔ ((b ≡ layout c f) × Fits c f)
parse-iff c b f h m = (λ e. (layout-parse c b h m e, parse-fits c b h m e), λ p. ap (parse c) p.0 ∙ parse-layout c f p.1)

fields-same : {f g : Fields} → fields f ≡ fields g → f ≡ g
fields-same e = cc

-- fields that fit are laid out alike only if they are the same
pub layout-injective : (c : Carrier) (f g : Fields) → Fits c f → Fits c g → layout c f ≡ layout c g → f ≡ g
layout-injective c f g hf hg e = fields-same (sym (parse-layout c f hf) ∙ ap (parse c) e ∙ parse-layout c g hg)
