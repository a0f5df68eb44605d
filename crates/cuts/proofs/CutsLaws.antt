-- RULES D3, its second half: in carriers 2 to 5, the octets of an accepted sheet cut after any number of octets, and the part before the cut
-- read. Assumes nothing.
use Rattle.std.specs.Prelude.{◌≡◌, refl, ◌⊎◌, Bool, true, false, List, ◌++◌, ℕ, suc, ◌≤◌, ◌<◌, ltb, length, take, drop}
use Rattle.std.proofs.Common.{sym, ap, ap₂, ◌∙◌, inl, inr, arith, ltb-true, ltb-false, length-take, take-append-drop, take_all, length-take-le}
use Rattle.std.proofs.lemmas.List.{map-append}
use Rattle.std.proofs.Math.Seq.{take-length}
use Rattle.octets.specs.ListsLaws.{all_take}
use Rattle.numbers.specs.Refusal as refusal
use Rattle.numbers.specs.Limit as limit
use Rattle.carriers.specs.declared.Carrier.{Carrier}
use Rattle.carriers.specs.Carriers.{number_of, Plain}
use Rattle.carriers.proofs.CarriersLaws.{chosen-number}
use Rattle.frames.specs.Frame.{Framed, framed, frame}
use Rattle.frames.specs.Emit.{options_of}
use Rattle.frames.proofs.Cutting.{cut-at-end, cut-elsewhere}
use Rattle.blocks.specs.Block.{Fields}
use Rattle.sheets.specs.Sheets.{sheet_of}
use Rattle.reading.specs.Reading.{read_framed, read_of}
use Rattle.reading.specs.Result.{faultless, refuse, done}
use Rattle.reading.specs.AnswerLaws.{read_known}
use Rattle.written.specs.Octets.{octets_of}
use Rattle.written.specs.Accepted.{Sound, Accepted}
use Rattle.roundtrip.specs.Returns.{body_of, bodies_of, answer_kept}
use Rattle.roundtrip.proofs.RecordReturns.{kept-room, kept-no-room, blocks-answer}
use Rattle.roundtrip.specs.OctetsLaws.{octets-few, plain-octets, bodies-emit}
use Rattle.cuts.specs.Readings.{FirstRead, Cut, after_options, elsewhere}
use Rattle.cuts.specs.ListLaws.{map-take, rising-take, search}

module _ (c : Carrier) (plain : Plain c) (s : List ℕ) (rs : List Fields) (accepted : Accepted s c rs) where
  -- the part before a cut is short enough to be framed
  cut-framed : (n room : ℕ)
      → read_of (number_of c) (take n (octets_of c rs)) room ≡ read_framed c (frame c (take n (options_of c (bodies_of c rs)))) room
  cut-framed n room =
      let small : length (take n (octets_of c rs)) ≤ limit.input =
      omega (arith, length-take n (octets_of c rs), octets-few c rs accepted.sound accepted.is.few) in
      read_known (number_of c) (take n (octets_of c rs)) room (chosen-number c) small
      ∙ ap (λ (l : List ℕ). read_framed c (frame c (take n l)) room) (plain-octets c plain rs)

  -- ---- after whole options

  first-bodies : (k : ℕ) → bodies_of c rs ≡ bodies_of c (take k rs) ++ bodies_of c (drop k rs)
  first-bodies k = ap (bodies_of c) (sym (take-append-drop k rs)) ∙ map-append (body_of c) (take k rs) (drop k rs)

  first-framed : (k : ℕ) → frame c (take (length (octets_of c (take k rs))) (options_of c (bodies_of c rs))) ≡ framed (bodies_of c (take k rs))
  first-framed k =
      ap₂ (λ (l : List ℕ) (bs : List (List ℕ)). frame c (take (length l) (options_of c bs))) (plain-octets c plain (take k rs)) (first-bodies k)
      ∙ cut-at-end c (bodies_of c (take k rs)) (bodies_of c (drop k rs)) (bodies-emit c plain (take k rs) (all_take (Sound c) k rs accepted.sound))

  -- the first records come back
  first_read : (k room : ℕ) → k ≤ length rs → FirstRead c rs (octets_of c rs) k (length (octets_of c (take k rs))) room
  first_read k room h =
      let sound = all_take (Sound c) k rs accepted.sound in
      let rising = rising-take 0 k rs accepted.is.order in
      let count : length (take k rs) ≡ k = length-take-le k rs h in
      let few : length (take k rs) ≤ limit.records = omega (arith, accepted.is.few) in
      let reads : read_of (number_of c) (take (length (octets_of c (take k rs))) (octets_of c rs)) room ≡ answer_kept c (take k rs) k room =
      cut-framed (length (octets_of c (take k rs))) room
      ∙ ap (λ (f : Framed). read_framed c f room) (first-framed k)
      ∙ blocks-answer c plain (take k rs) room sound rising few
      ∙ ap (λ (n : ℕ). answer_kept c (take k rs) n room) count in
      record {
        enough = λ e. reads ∙ kept-room c (take k rs) k room e;
        little = λ e. reads ∙ kept-no-room c (take k rs) k room e;
      }

  -- ---- elsewhere

  -- more than all of them are all of them
  end-within : (n : ℕ) → ((k : ℕ) → k ≤ length rs → n ≡ length (octets_of c (take k rs)) → ⊥)
      → (j : ℕ) → n ≡ length (options_of c (take j (bodies_of c rs))) → ⊥
  end-within n none j e =
      let first : n ≡ length (octets_of c (take j rs)) = e
      ∙ ap (λ (bs : List (List ℕ)). length (options_of c bs)) (sym (map-take (body_of c) j rs))
      ∙ ap length (sym (plain-octets c plain (take j rs))) in
      go (ltb (length rs) j) refl first
    where
      go : (b : Bool) → ltb (length rs) j ≡ b → n ≡ length (octets_of c (take j rs)) → ⊥
      go true t q =
          let all : take j rs ≡ take (length rs) rs = take_all j rs (omega (arith, ltb-true (length rs) j t)) ∙ sym (take-length rs) in
          none (length rs) (omega arith) (q ∙ ap (λ (l : List Fields). length (octets_of c l)) all)
      go false t q = none j (ltb-false _ _ t) q

  elsewhere-read : (n room : ℕ) → n ≤ length (octets_of c rs) → ((k : ℕ) → k ≤ length rs → n ≡ length (octets_of c (take k rs)) → ⊥)
      → read_of (number_of c) (take n (octets_of c rs)) room ≡ refuse refusal.framing
  elsewhere-read n room h none =
      cut-framed n room
      ∙ ap (λ (f : Framed). read_framed c f room)
      (cut-elsewhere c (bodies_of c rs) n (bodies-emit c plain rs accepted.sound) (rw (← (plain-octets c plain rs)) h) (end-within n none))

-- ---- every cut

-- at the end of an option, with room: exactly the records before the cut
pub read-cut-at-end : (c : Carrier) → Plain c → (s : List ℕ) (rs : List Fields) → Accepted s c rs → (k : ℕ) → k ≤ length rs
    → (room : ℕ) → length (sheet_of c (take k rs)) ≤ room
    → read_of (number_of c) (take (length (octets_of c (take k rs))) (octets_of c rs)) room
    ≡ done (faultless (sheet_of c (take k rs)) k)
read-cut-at-end c p s rs a k h room = (first_read c p s rs a k room h).enough

-- anywhere else: refusal 3, whatever the room
pub read-cut-elsewhere : (c : Carrier) → Plain c → (s : List ℕ) (rs : List Fields) → Accepted s c rs → (n : ℕ) → n ≤ length (octets_of c rs)
    → ((k : ℕ) → k ≤ length rs → n ≡ length (octets_of c (take k rs)) → ⊥)
    → (room : ℕ) → read_of (number_of c) (take n (octets_of c rs)) room ≡ refuse refusal.framing
read-cut-elsewhere c p s rs a n h none room = elsewhere-read c p s rs a n room h none

-- both as one: a cut after any number of octets, none and all included
pub read-cut : (c : Carrier) → Plain c → (s : List ℕ) (rs : List Fields) → Accepted s c rs → (n : ℕ) → n ≤ length (octets_of c rs)
    → (room : ℕ) → Cut c rs (octets_of c rs) n room
read-cut c p s rs a n h room = go (search (λ k. length (octets_of c (take k rs))) n (suc (length rs)))
  where
    go : ((k : ℕ) × (k < suc (length rs)) × (n ≡ length (octets_of c (take k rs))))
        ⊎ ((k : ℕ) → k < suc (length rs) → n ≡ length (octets_of c (take k rs)) → ⊥) → Cut c rs (octets_of c rs) n room
    go (inl (k, i, e)) =
        let within : k ≤ length rs = omega arith in
        after_options k (record { within = within; whole = e }) (rw e (first_read c p s rs a k room within))
    go (inr none) =
        elsewhere (λ k x. none k (omega (arith, x.within)) x.whole)
        (elsewhere-read c p s rs a n room h (λ k i e. none k (omega arith) e))
