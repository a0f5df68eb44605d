-- RULES D2, its last sentence: the octets defined for an accepted sheet, read with room for it, give the sheet back; with less room, refusal 5.
-- Assumes nothing.
use Rattle.std.specs.Prelude.{◌≡◌, Bool, cond, List, ℕ, ◌+◌, ◌≤◌, ◌<◌, length, get_or, take}
use Rattle.std.proofs.Common.{sym, ap, ap₂, subst, ◌∙◌, inl, arith}
use Rattle.octets.specs.Numbers.{Bytes}
use Rattle.octets.specs.Lists.{All}
use Rattle.octets.specs.Over.{over}
use Rattle.octets.specs.OverLaws.{over-front}
use Rattle.numbers.specs.Refusal as refusal
use Rattle.numbers.specs.Limit as limit
use Rattle.carriers.specs.declared.Carrier.{Carrier}
use Rattle.carriers.specs.Carriers.{number_of, Plain}
use Rattle.carriers.proofs.CarriersLaws.{chosen-number, number-octet, by-joined}
use Rattle.frames.specs.Frame.{Framed, frame}
use Rattle.frames.specs.WalkLaws.{false-apart}
use Rattle.blocks.specs.Block.{Fields}
use Rattle.sheets.specs.Sheets.{carrier_at, front_of, sheet_of}
use Rattle.reading.specs.declared.Reading.{Reading}
use Rattle.reading.specs.Reading.{read_framed, read_of}
use Rattle.reading.specs.Result.{Done, Answer, refuse, done, Reads}
use Rattle.reading.specs.AnswerLaws.{read_known}
use Rattle.taking.specs.Sheet.{NoneFalls}
use Rattle.written.specs.Writing.{write_of}
use Rattle.written.specs.Octets.{octets_of}
use Rattle.written.specs.Accepted.{Sound, Accepted}
use Rattle.written.proofs.AcceptedLaws.{accepted-exactly}
use Rattle.written.proofs.DefinedLaws.{zero-defined, written-defined, defined-sheet}
use Rattle.answers.specs.declared.Result.{Result}
use Rattle.answers.specs.Answers.{number_in, Writes}
use Rattle.answers.specs.Answers as answers
use Rattle.answers.proofs.AnswersLaws.{told-number}
use Rattle.roundtrip.specs.Returns.{answer_kept}
use Rattle.roundtrip.proofs.RecordReturns.{kept-room, kept-no-room, blocks-answer}
use Rattle.roundtrip.specs.OctetsLaws.{octets-few, plain-framed}
use Rattle.roundtrip.proofs.JoinedReturns.{cut-answer}
use Rattle.roundtrip.specs.RoundTrip.{block_in, blocks_in, returned, Restored}

-- ---- reading what was defined to be written

plain-answer : (c : Carrier) → Plain c → (rs : List Fields) (room : ℕ) → All (Sound c) rs → NoneFalls 0 rs → length rs ≤ limit.records
    → read_framed c (frame c (octets_of c rs)) room ≡ answer_kept c rs (length rs) room
plain-answer c p rs room sound rising few =
    ap (λ (f : Framed). read_framed c f room) (plain-framed c p rs sound) ∙ blocks-answer c p rs room sound rising few

-- in every carrier the octets bring the records back
octets-answer : (c : Carrier) (rs : List Fields) (room : ℕ) → All (Sound c) rs → NoneFalls 0 rs → length rs ≤ limit.records
    → read_framed c (frame c (octets_of c rs)) room ≡ answer_kept c rs (blocks_in c rs) room
octets-answer =
    by-joined
    (λ c. (rs : List Fields) (room : ℕ) → All (Sound c) rs → NoneFalls 0 rs → length rs ≤ limit.records
    → read_framed c (frame c (octets_of c rs)) room ≡ answer_kept c rs (blocks_in c rs) room)
    cut-answer
    (λ c e rs room sound rising few.
    plain-answer c (false-apart e) rs room sound rising few ∙ ap (λ (j : Bool). answer_kept c rs (cond j (block_in rs) (length rs)) room) (sym e))

module _ (s : List ℕ) (c : Carrier) (rs : List Fields) (room : ℕ) (a : Accepted s c rs) where
  read_answer : read_of (number_of c) (octets_of c rs) room ≡ answer_kept c rs (blocks_in c rs) room
  read_answer =
      read_known (number_of c) (octets_of c rs) room (chosen-number c) (octets-few c rs a.sound a.is.few)
      ∙ octets-answer c rs room a.sound a.is.order a.is.few

  -- the octets defined for an accepted sheet, read with room for it, give the sheet back
  pub read-write : length s ≤ room → read_of (number_of c) (octets_of c rs) room ≡ done (returned c rs s)
  read-write h =
      read_answer
      ∙ kept-room c rs (blocks_in c rs) room (rw (← a.is.is) h)
      ∙ ap (λ (l : List ℕ). done (returned c rs l)) (sym a.is.is)

  -- and with less room refusal 5
  pub read-write-room : room < length s → read_of (number_of c) (octets_of c rs) room ≡ refuse refusal.room
  read-write-room h = read_answer ∙ kept-no-room c rs (blocks_in c rs) room (rw (← a.is.is) h)

-- the sheet of what is done
sheet-of : {d e : Done} → done d ≡ done e → d.sheet ≡ e.sheet
sheet-of {d} {e} q = let same : d ≡ e = cc in ap (λ (x : Done). x.sheet) same

-- two accepted sheets of one carrier with the same octets are the same sheet
pub write-unique : (s t : List ℕ) (c : Carrier) (rs qs : List Fields) → Accepted s c rs → Accepted t c qs → octets_of c rs ≡ octets_of c qs → s ≡ t
write-unique s t c rs qs a b e =
    let room : ℕ = length s + length t in
    sheet-of
    (sym (read-write s c rs room a (omega arith))
    ∙ ap (λ (l : List ℕ). read_of (number_of c) l room) e
    ∙ read-write t c qs room b (omega arith))

-- ---- the two calls

-- a call that wrote octets at the front of its buffer left them there
front_of_lem : (bs out : List ℕ) {out' : List ℕ} {size : ℕ} → size ≡ length bs → out' ≡ over 0 bs out → take size out' ≡ bs
front_of_lem bs out n l = ap₂ (λ (n : ℕ) (l : List ℕ). take n l) n l ∙ over-front bs out

-- a call of `write` that returned 0 left what writing answers: the front of the buffer, of the length returned
module _ (s out out₁ : List ℕ) (w : Result) (octets : Bytes s) (v : Writes (write_of s (length out)) out w out₁) (o : w.number ≡ 0) where
  wrote-front : (write_of s (length out) ≡ answers.written (take w.length out₁)) × (length (take w.length out₁) ≡ w.length)
  wrote-front =
      let z : number_in (write_of s (length out)) ≡ 0 =
      sym (told-number (write_of s (length out))) ∙ ap (λ (w : Result). w.number) (sym v.numbers) ∙ o in
      let d = zero-defined s octets (length out) z in
      let gave : Writes (answers.written d.0) out w out₁ = subst (λ (x : answers.Answer). Writes x out w out₁) d.2 v in
      let size : w.length ≡ length d.0 = ap (λ (w : Result). w.length) gave.numbers in
      let front : take w.length out₁ ≡ d.0 = front_of_lem d.0 out size gave.leaves in
      (d.2 ∙ ap answers.written (sym front), ap length front ∙ sym size)

  pub call-wrote : write_of s (length out) ≡ answers.written (take w.length out₁)
  call-wrote = wrote-front.0

  pub call_fits : length (take w.length out₁) ≡ w.length
  call_fits = wrote-front.1

-- a sheet says its carrier's number
pub sheet-number : (s : List ℕ) (c : Carrier) (rs : List Fields) → s ≡ sheet_of c rs → get_or s carrier_at 0 ≡ number_of c
unfolding sheet_of front_of
sheet-number s c rs e = ap (λ (l : List ℕ). get_or l carrier_at 0) e ∙ number-octet c

-- what `write` leaves in the buffer, `read` turns back
pub calls-return : (s out out₁ sheet sheet₁ : List ℕ) (w : Result) (r : Reading) → Bytes s
    → Writes (write_of s (length out)) out w out₁ → w.number ≡ 0
    → Reads (read_of (get_or s carrier_at 0) (take w.length out₁) (length sheet)) sheet r sheet₁
    → length s ≤ length sheet
    → Restored s r sheet₁
calls-return s out out₁ sheet sheet₁ w r octets v o g room =
    let wrote = call-wrote s out out₁ w octets v o in
    let k = (accepted-exactly s octets (length out)).0 (inl (ap number_in wrote)) in
    let c : Carrier = k.0 in
    let rs : List Fields = k.1 in
    let a : Accepted s c rs = k.2 in
    let front : take w.length out₁ ≡ octets_of c rs = (defined-sheet s octets a.is (written-defined s octets (length out) wrote)).1 in
    let answer : read_of (get_or s carrier_at 0) (take w.length out₁) (length sheet) ≡ done (returned c rs s) =
    ap₂ (λ (n : ℕ) (l : List ℕ). read_of n l (length sheet)) (sheet-number s c rs a.is.is) front ∙ read-write s c rs (length sheet) a room in
    let back : Reads (done (returned c rs s)) sheet r sheet₁ = subst (λ (x : Answer). Reads x sheet r sheet₁) answer g in
    record {
      carrier = c;
      records = rs;
      accepted = a;
      numbers = back.numbers;
      front = front_of_lem s sheet (ap (λ (r : Reading). r.length) back.numbers) back.leaves;
    }
