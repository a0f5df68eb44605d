-- A record that writing accepts comes back from its body, in every carrier; so do records from their blocks in carriers 2 to 5.
-- Assumes nothing.
use Rattle.std.specs.Prelude.{◌≡◌, refl, Bool, true, false, cond, List, [], ◌∷◌, map, ℕ, ◌*◌, ◌/◌, ◌≤◌, ◌<◌, length}
use Rattle.std.proofs.Common.{sym, ap, ap₂, ◌∙◌, zero-mul, div-add-mod', arith, lt-ltb, le-ltb}
use Rattle.std.proofs.lemmas.List.{length-map}
use Rattle.octets.specs.Lists.{All}
use Rattle.numbers.specs.Refusal as refusal
use Rattle.numbers.specs.Limit as limit
use Rattle.carriers.specs.declared.Carrier.{Carrier}
use Rattle.carriers.specs.Carriers.{header_of, address_width, as_text, is_joined, Plain}
use Rattle.names.specs.Names.{IsName}
use Rattle.texts.specs.Texts.{text_of, wire_of}
use Rattle.texts.specs.Convert.{wire-text, text-of-wire}
use Rattle.addresses.specs.Addresses.{list_of}
use Rattle.addresses.specs.AddressesLaws.{wide-some, list_length, none-dropped-flat, kept-end}
use Rattle.addresses.specs.Ranges.{Unusable}
use Rattle.frames.specs.Frame.{framed}
use Rattle.frames.specs.WalkLaws.{apart-false}
use Rattle.frames.specs.BodyLaws.{blocks-plain}
use Rattle.blocks.specs.Block.{Fields}
use Rattle.blocks.specs.Exactly.{parse-layout}
use Rattle.order.specs.Order.{Leads, Sorted}
use Rattle.order.specs.OrderLaws.{sort-of-sorted}
use Rattle.judge.specs.declared.Side.TheVariants.{Reading, Writing}
use Rattle.judge.specs.Allowed.{NameBy, Whole, TailAllowed, Allowed}
use Rattle.judge.specs.JudgeLaws.{carrier-width}
use Rattle.judge.proofs.AllowedLaws.{usable-exactly, allowed-faultless}
use Rattle.records.specs.Records.{Outcome, kept, further, staying, keep_of}
use Rattle.records.specs.Yielded.{outcome_of}
use Rattle.records.specs.RecordsLaws.{kept-outcome}
use Rattle.sheets.specs.Sheets.{sheet_of}
use Rattle.reading.specs.Reading.{alone, yield_of, in_order, read_yields, read_blocks, read_framed}
use Rattle.reading.specs.Result.{Yield, yields, single, faultless, refuse, done}
use Rattle.taking.specs.Sheet.{NoneFalls}
use Rattle.layouts.specs.Layouts.{carried_of}
use Rattle.layouts.specs.LayoutsLaws.{writable-fits}
use Rattle.written.specs.Accepted.{Sound}
use Rattle.written.proofs.AcceptedLaws.{writable}
use Rattle.roundtrip.specs.Returns.{body_of, bodies_of, Brings, answer_kept}

-- ---- a name, as the carrier has it

name-read : (text : Bool) (name : List ℕ) → IsName name → NameBy text (cond text (text_of name) name)
name-read true name n = text-of-wire name n
name-read false name n = n

name_back : (text : Bool) (name : List ℕ) → IsName name → let carried : List ℕ = cond text (text_of name) name in
    cond text (wire_of carried) carried ≡ name
name_back true name n = wire-text name n
name_back false name n = refl

-- ---- addresses of w octets, none of them to be dropped

-- they are not all to be dropped, for there are some
some-usable : (w : ℕ) (l : List (List ℕ)) → 0 < length l → All (λ a. Unusable w a → ⊥) l → All (Unusable w) l → ⊥
some-usable w [] h none all = omega arith
some-usable w (a ∷ l) h none all = none.0 all.0

some-listed : (w : ℕ) (a : List ℕ) → Whole w a → 0 < length (list_of w a)
some-listed w a h =
    let none : length a / w ≡ 0 → length a ≡ 0 = λ z. (
    let product : length a / w * w ≡ 0 = ap (λ (n : ℕ). n * w) z ∙ zero-mul w in
    omega (arith, div-add-mod' (length a) w, h.1)) in
    let many : length a / w ≡ 0 → ⊥ = λ z. omega (arith, none z, h.0) in
    omega (arith, list_length w a)

tail-read : (w : ℕ) (a p : List ℕ) → TailAllowed Writing w a p → TailAllowed Reading w a p
tail-read w a p t =
    record {
      whole = t.whole;
      few = t.few;
      usable = some-usable w (list_of w a) (some-listed w a t.whole) t.usable;
      parameters_allowed = t.parameters_allowed;
    }

-- ---- a record

module _ (c : Carrier) (r : Fields) (s : Sound c r) where
  -- what is allowed when written is allowed when read
  read-allowed : Allowed Reading c (carried_of c r)
  read-allowed =
      record {
        service = s.allowed.service;
        named = name-read (as_text c) r.name s.allowed.named;
        full_form = λ u. tail-read (address_width c) r.addresses r.parameters (s.allowed.full_form u);
        name_only = s.allowed.name_only;
      }

  -- no address is dropped
  addresses-stay : staying (address_width c) r.addresses ≡ r.addresses
  addresses-stay = go r.full refl
    where
      go : (full : Bool) → r.full ≡ full → staying (address_width c) r.addresses ≡ r.addresses
      go true u =
          let t = s.allowed.full_form u in
          let w : ℕ = address_width c in
          none-dropped-flat w r.addresses t.whole.1 ((usable-exactly w (carrier-width c) r.addresses Writing).1 t.usable)
      go false u = rw ((writable c r s).name_only u).0 (rw (kept-end (address_width c) [] (wide-some (carrier-width c))))

  keep-carried : keep_of c (carried_of c r) ≡ r
  keep-carried =
      ap₂ (λ (name addresses : List ℕ). record {
        priority = r.priority;
        lifetime = r.lifetime;
        full = r.full;
        name = name;
        addresses = addresses;
        parameters = r.parameters;
      }) (name_back (as_text c) r.name s.allowed.named) addresses-stay

-- an accepted record comes back from its body
pub record-returns : (c : Carrier) (r : Fields) → Sound c r → outcome_of c (body_of c r) ≡ kept r
record-returns c r s =
    let f : Fields = carried_of c r in
    kept-outcome c (body_of c r) r f
    (parse-layout c f (writable-fits c r (writable c r s)))
    (allowed-faultless Reading c f (read-allowed c r s))
    (sym (keep-carried c r s))

-- ---- what blocks that are all kept give

rising-leads : (k : ℕ) (rs : List Fields) → NoneFalls k rs → Leads (λ (r : Fields). r.priority) k rs
rising-leads k [] h = tt
rising-leads k (r ∷ rs) h = h.0

rising-sorted : (k : ℕ) (rs : List Fields) → NoneFalls k rs → Sorted (λ (r : Fields). r.priority) rs
rising-sorted k [] h = tt
rising-sorted k (r ∷ rs) h = (rising-leads r.priority rs h.1, rising-sorted r.priority rs h.1)

-- records by rising priority stay as they arrive
pub rising-order : (rs : List Fields) → NoneFalls 0 rs → in_order rs ≡ rs
rising-order rs h = sort-of-sorted (λ (r : Fields). r.priority) rs (rising-sorted 0 rs h)

module _ (c : Carrier) (rs : List Fields) (found room : ℕ) where
  pub kept-room : length (sheet_of c rs) ≤ room → answer_kept c rs found room ≡ done (faultless (sheet_of c rs) found)
  kept-room h = rw (le-ltb room (length (sheet_of c rs)) h)

  pub kept-no-room : room < length (sheet_of c rs) → answer_kept c rs found room ≡ refuse refusal.room
  kept-no-room h = rw (lt-ltb room (length (sheet_of c rs)) h)

-- 16 records or fewer, by rising priority, are answered as they arrive
pub brings-answer : (c : Carrier) (ys : List Yield) (rs : List Fields) (room : ℕ) → Brings ys rs → NoneFalls 0 rs → length rs ≤ limit.records
    → read_yields c ys room ≡ answer_kept c rs (length ys) room
brings-answer c ys rs room b rising few =
    rw (b.arrive, b.none_discarded, b.faultless, le-ltb limit.records (length rs) few, rising-order rs rising)

-- ---- carriers 2 to 5

plain-yield : (c : Carrier) → Plain c → (b : List ℕ) → yield_of c b ≡ alone c b
plain-yield c p b = rw (apart-false (is_joined c) p)

module _ (c : Carrier) (plain : Plain c) where
  body-yields : (r : Fields) → Sound c r → yield_of c (body_of c r) ≡ yields (r ∷ [])
  body-yields r s = plain-yield c plain (body_of c r) ∙ ap (λ (o : Outcome). single (further (header_of c) o)) (record-returns c r s)

  -- the blocks of accepted records bring them
  pub bodies-bring : (rs : List Fields) → All (Sound c) rs → Brings (map (yield_of c) (bodies_of c rs)) rs
  bodies-bring [] s = record { arrive = refl; none_discarded = refl; faultless = refl }
  bodies-bring (r ∷ rs) s =
      let more = bodies-bring rs s.1 in
      rw (body-yields r s.0)
      (record { arrive = ap (λ (l : List Fields). r ∷ l) more.arrive; none_discarded = omega (arith, more.none_discarded); faultless = more.faultless })

  module _ (rs : List Fields) (room : ℕ) (sound : All (Sound c) rs) (rising : NoneFalls 0 rs) (few : length rs ≤ limit.records) where
    -- what reading their blocks answers, by the room
    pub blocks-answer : read_framed c (framed (bodies_of c rs)) room ≡ answer_kept c rs (length rs) room
    blocks-answer =
        ap (λ (bs : List (List ℕ)). read_blocks c bs room) (blocks-plain c (bodies_of c rs) plain)
        ∙ brings-answer c (map (yield_of c) (bodies_of c rs)) rs room (bodies-bring rs sound) rising few
        ∙ ap (λ (n : ℕ). answer_kept c rs n room) (length-map (bodies_of c rs) (yield_of c) ∙ length-map rs (body_of c))
