-- What a call's number, and what vetting a sheet, say of the exit status. Assumes nothing.
use Rattle.std.specs.Prelude.{◌≡◌, refl, Bool, true, false, ◌&&◌, List, ℕ, eqb, length, ℤ, pos}
use Rattle.std.proofs.Common.{ap, subst, ◌∙◌, sym, arith, eqb-true}
use Rattle.std.proofs.lemmas.Bool.{eqb-false}
use Rattle.numbers.specs.Limit as limit
use Rattle.carriers.specs.declared.Carrier.{Carrier}
use Rattle.reading.specs.declared.Reading.{Reading}
use Rattle.reading.specs.Reading.{read_of}
use Rattle.reading.specs.Result.{Reads}
use Rattle.reading.specs.Result as reading
use Rattle.vetting.specs.Vetting.{Told, Refused, Sheet}
use Rattle.written.specs.Writing.{write_of}
use Rattle.answers.specs.declared.Result.{Result}
use Rattle.answers.specs.Answers.{Writes}
use Rattle.answers.specs.Answers as answers
use Rattle.carriers.specs.Carriers.{chosen_of}
use Rattle.files.specs.declared.status.Stop.{Stop}
use Rattle.files.specs.Status.{Delivered, Exited, Answers, number_of, done, refused, no}
use Rattle.files.specs.StatusLaws.{stopped-denied, delivered-exited, denied-exited, refused-exited, answers-done, answers-refused}
use Rattle.command.specs.Numbers.{reading_of, less, Gives, ReadAs, write_number, Fitting, Shows}

answers-as : {m n : ℕ} {x : ℤ} → m ≡ n → Answers m x → Answers n x
answers-as {m} {n} {x} e a = subst (λ (k : ℕ). Answers k x) e a

-- ---- reading

module _ (strict : Bool) {r s : Reading} (e : r ≡ s) where
  pub as-refused : (r.number ≡ 0 → ⊥) → (x : ℤ) → x ≡ pos refused → ReadAs strict s x
  as-refused z x i = subst (λ (t : Reading). ReadAs strict t x) e (record { done = λ k. absurd (z k); refuses = λ _. i })

  pub as-done : r.number ≡ 0 → (x : ℤ) → Gives (strict && less r) x → ReadAs strict s x
  as-done z x g = subst (λ (t : Reading). ReadAs strict t x) e (record { done = λ _. g; refuses = λ n. absurd (n z) })

module _ (carrier : ℕ) (area out : List ℕ) {out' : List ℕ} {r : Reading} (h : Reads (read_of carrier area (length out)) out r out')
    (e : length out ≡ limit.sheet_size) where
  pub reading-is : r ≡ reading_of carrier area
  reading-is = h.numbers ∙ ap (λ (n : ℕ). reading.told (read_of carrier area n)) e

-- what is given, by whether the answer is no
pub gives-stopped : (b : Bool) (s : Stop) → Delivered (pos (number_of s)) → Gives b (pos (number_of s))
gives-stopped true s h = stopped-denied s h
gives-stopped false s h = h

-- without a carrier an area is refused
pub read-carrierless : (strict : Bool) (area : List ℕ) → ReadAs strict (reading_of 0 area) (pos refused)
unfolding read_of chosen_of
read-carrierless strict area = record { done = λ e. absurd (omega (arith, e)); refuses = λ _. refl }

gives-exited : (b : Bool) (x : ℤ) → Gives b x → Exited x
gives-exited true x g = denied-exited x g
gives-exited false x g = delivered-exited x g

pub read-exited : (strict : Bool) (r : Reading) (x : ℤ) → ReadAs strict r x → Exited x
read-exited strict r x a = go (eqb r.number 0) refl
  where
    go : (b : Bool) → eqb r.number 0 ≡ b → Exited x
    go true t = gives-exited (strict && less r) x (a.done (eqb-true r.number 0 t))
    go false t = refused-exited x (a.refuses (eqb-false r.number 0 t))

-- ---- writing

module _ (sheet out : List ℕ) {out' : List ℕ} {r : Result} (h : Writes (write_of sheet (length out)) out r out') (e : length out ≡ limit.input) where
  write-number : r.number ≡ write_number sheet
  write-number = ap (λ (x : Result). x.number) h.numbers ∙ ap (λ (n : ℕ). (answers.told (write_of sheet n)).number) e

  pub write-refused : (r.number ≡ 0 → ⊥) → (x : ℤ) → x ≡ pos refused → Answers (write_number sheet) x
  write-refused z x i = answers-as write-number (answers-refused r.number x z i)

  pub write_done : r.number ≡ 0 → (x : ℤ) → Delivered x → Answers (write_number sheet) x
  write_done z x w = answers-as write-number (answers-done r.number x z w)

-- ---- showing

module _ {v w : Told} (e : v ≡ w) where
  pub shows-refused : {k p : ℕ} → v ≡ Refused k p → (x : ℤ) → x ≡ pos refused → Shows w x
  shows-refused i x h = subst (λ (u : Told). Shows u x) (sym i ∙ e) h

  module _ {c : Carrier} {n size : ℕ} {large : Bool} (i : v ≡ Sheet c n large size) where
    pub shows-large : large ≡ true → (x : ℤ) → x ≡ pos refused → Shows w x
    shows-large l x h = subst (λ (u : Told). Shows u x) (sym i ∙ e) (subst (λ (b : Bool). Fitting b x) (sym l) h)

    pub shows-fitting : large ≡ false → (x : ℤ) → Delivered x → Shows w x
    shows-fitting l x h = subst (λ (u : Told). Shows u x) (sym i ∙ e) (subst (λ (b : Bool). Fitting b x) (sym l) h)

fitting-exited : (large : Bool) (r : ℤ) → Fitting large r → Exited r
fitting-exited true r e = refused-exited r e
fitting-exited false r w = delivered-exited r w

pub shows-exited : (v : Told) (r : ℤ) → Shows v r → Exited r
shows-exited (Refused k p) r e = refused-exited r e
shows-exited (Sheet c n large size) r h = fitting-exited large r h
