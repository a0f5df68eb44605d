-- The laws of one header: what it says of the octets that it was read from, and that it does not look past itself. Assumes nothing.
use Rattle.std.specs.Prelude.{◌≡◌, refl, Bool, true, false, cond, List, ◌++◌, ℕ, ◌+◌, ◌*◌, ◌≤◌, ◌<◌, length, get_or, take, ltb, eqb, Result, Ok, Err}
use Rattle.std.proofs.Common.{sym, ap, ap₂, ◌∙◌, arith, length-append, get_or-take, length-take-le, lt-ltb, le-ltb, eq-eqb, ne_eqb, ltb-false}
use Rattle.std.proofs.lemmas.Bool.{false≢true, eqb-false}
use Rattle.std.proofs.Math.ListN.{get_or-append}
use Rattle.octets.specs.Numbers.{at16, number_at}
use Rattle.octets.specs.NumbersLaws.{number-8, number-16, number-local}
use Rattle.numbers.specs.declared.Refusal.{Refusal}
use Rattle.numbers.specs.declared.Refusal.TheVariants.{Framing}
use Rattle.carriers.specs.declared.Carrier.{Carrier}
use Rattle.carriers.specs.Carriers.{code_of, head_width, header_of, in_eights, is_joined, octets, Apart}
use Rattle.carriers.proofs.CarriersLaws.{headed}
use Rattle.frames.specs.declared.Head.{Head}
use Rattle.frames.specs.declared.Head.TheVariants.{End, Option}
use Rattle.frames.specs.Frame.{whole_size, code_in, size_in, head_in, or_mark, first_of}
use Rattle.frames.specs.Told.{own_of, size_of}

bad-option : {r : Refusal} {w : Bool} {n : ℕ} → ◌≡◌ {A = Result Head Refusal} (Err r) (Ok (Option w (octets n))) → ⊥
bad-option e = let z : ◌≡◌ {A = ℕ} 0 1 = cc in omega arith

end-option : {w : Bool} {n : ℕ} → ◌≡◌ {A = Result Head Refusal} (Ok End) (Ok (Option w (octets n))) → ⊥
end-option e = let z : ◌≡◌ {A = ℕ} 0 1 = cc in omega arith

bad-end : {r : Refusal} → ◌≡◌ {A = Result Head Refusal} (Err r) (Ok End) → ⊥
bad-end e = let z : ◌≡◌ {A = ℕ} 0 1 = cc in omega arith

option-end : {w : Bool} {n : ℕ} → ◌≡◌ {A = Result Head Refusal} (Ok (Option w (octets n))) (Ok End) → ⊥
option-end e = let z : ◌≡◌ {A = ℕ} 0 1 = cc in omega arith

-- ---- a header with a code and a length

pub header-pos : (c : Carrier) → 0 < header_of c
header-pos c = omega (arith, (headed c).some)

pub head-short : (c : Carrier) (s : List ℕ) → length s < header_of c → head_in c s ≡ Err Framing
head-short c s h = simp (lt-ltb _ _ h)

pub head-none : (c : Carrier) (s : List ℕ) → header_of c ≤ length s → size_in c s ≡ 0 → head_in c s ≡ Err Framing
head-none c s h z = simp (le-ltb _ _ h, eq-eqb _ _ z)

pub head-option : (c : Carrier) (s : List ℕ) → header_of c ≤ length s → (size_in c s ≡ 0 → ⊥)
    → head_in c s ≡ Ok (Option (eqb (code_in c s) (code_of c)) (octets (size_in c s)))
head-option c s h z = simp (le-ltb _ _ h, ne_eqb _ _ z)

-- what an option tells of the octets that it was read from
pub record Read (c : Carrier) (s : List ℕ) (own : Bool) (n : ℕ) : Type 0 where
  pub room : header_of c ≤ length s
  pub body : header_of c ≤ n
  pub code : own ≡ eqb (code_in c s) (code_of c)
  pub size : n ≡ size_in c s

-- a size that is not 0 counts the header, which is no longer than a unit
size-header : (eights : Bool) (h n : ℕ) → h ≤ 8 → 0 < whole_size eights h n → h ≤ whole_size eights h n
size-header true h n l p = omega arith
size-header false h n l p = omega arith

tests-inv : (b z w : Bool) (n : ℕ) {own : Bool} {m : ℕ} → cond b (Err Framing) (cond z (Err Framing) (Ok (Option w (octets n)))) ≡ Ok (Option own (octets m))
    → (b ≡ false) × (z ≡ false) × (own ≡ w) × (m ≡ n)
tests-inv true z w n e = absurd (bad-option e)
tests-inv false true w n e = absurd (bad-option e)
tests-inv false false w n e = (refl, refl, ap own_of (sym e), ap size_of (sym e))

pub head-inv : (c : Carrier) (s : List ℕ) {own : Bool} {n : ℕ} → head_in c s ≡ Ok (Option own (octets n)) → Read c s own n
head-inv c s e =
    let p = tests-inv (ltb (length s) (header_of c)) (eqb (size_in c s) 0) (eqb (code_in c s) (code_of c)) (size_in c s) e in
    let nz : size_in c s ≡ 0 → ⊥ = eqb-false _ _ p.1 in
    let few = (headed c).few in
    record {
      room = ltb-false _ _ p.0;
      body = omega (arith, p.3, size-header (in_eights c) (header_of c) (number_at (head_width c) (head_width c) s) (omega arith) (omega (arith, nz)));
      code = p.2;
      size = p.3;
    }

tests-end : (b z w : Bool) (n : ℕ) → cond b (Err Framing) (cond z (Err Framing) (Ok (Option w (octets n)))) ≡ Ok End → ⊥
tests-end true z w n e = bad-end e
tests-end false true w n e = bad-end e
tests-end false false w n e = option-end e

pub head-end : (c : Carrier) (s : List ℕ) → head_in c s ≡ Ok End → ⊥
head-end c s e = tests-end (ltb (length s) (header_of c)) (eqb (size_in c s) 0) (eqb (code_in c s) (code_of c)) (size_in c s) e

-- what is no header is refused as what cannot be framed
refused : (b z w : Bool) (n : ℕ) {r : Refusal} → cond b (Err Framing) (cond z (Err Framing) (Ok (Option w (octets n)))) ≡ Err r → r ≡ Framing
refused true z w n e = cc
refused false true w n e = cc
refused false false w n e = absurd (bad-option (sym e))

pub head-framing : (c : Carrier) (s : List ℕ) {r : Refusal} → head_in c s ≡ Err r → r ≡ Framing
head-framing c s = refused (ltb (length s) (header_of c)) (eqb (size_in c s) 0) (eqb (code_in c s) (code_of c)) (size_in c s)

-- a header that is all there does not look past itself
head-local : (c : Carrier) (s t : List ℕ) → header_of c ≤ length s → head_in c (s ++ t) ≡ head_in c s
head-local c s t h =
    let h' : header_of c ≤ length (s ++ t) = simp length-append (omega arith) in
    let w : ℕ = head_width c in
    simp (number-local w 0 s t (omega arith), number-local w w s t (omega arith), le-ltb _ _ h, le-ltb _ _ h')

-- a header of two octets, and of four
module _ (w : ℕ) (s : List ℕ) (room : w + w ≤ length s) where
  pub narrow-header : w ≡ 1 → (get_or s 0 0 ≡ number_at w 0 s) × (0 * 256 + get_or s 1 0 ≡ number_at w w s)
  narrow-header e = rw e (number-8 s 0 (omega arith), omega (arith, number-8 s 1 (omega arith)))

  pub wide-header : w ≡ 2 → (at16 s 0 ≡ number_at w 0 s) × (at16 s 2 ≡ number_at w w s)
  wide-header e = rw e (number-16 s 0 (omega arith), number-16 s 2 (omega arith))

-- ---- the header that stands first

module _ (x : ℕ) (z : Result Head Refusal) where
  pub mark-pad : (j : Bool) → j ≡ true → x ≡ 0 → or_mark j x z ≡ Ok (Option false (octets 1))
  mark-pad j t e = simp (t, eq-eqb _ _ e)

  pub mark-end : (j : Bool) → j ≡ true → x ≡ 255 → or_mark j x z ≡ Ok End
  mark-end j t e = let nz : x ≡ 0 → ⊥ = λ q. omega arith in simp (t, ne_eqb _ _ nz, eq-eqb _ _ e)

  pub mark-other : (j : Bool) → (j ≡ true → (x ≡ 0 → ⊥) × (x ≡ 255 → ⊥)) → or_mark j x z ≡ z
  mark-other true o = simp (ne_eqb _ _ (o refl).0, ne_eqb _ _ (o refl).1)
  mark-other false o = refl

  pub mark-apart : (j : Bool) → Apart j → or_mark j x z ≡ z
  mark-apart true a = absurd a
  mark-apart false a = refl

-- an option is one octet of padding, whatever header may stand there, or what the header says
module _ (x : ℕ) (z : Result Head Refusal) (own : Bool) (n : ℕ) (P : Type 0) where
  by-mark : (j : Bool) → (((y : Result Head Refusal) → or_mark j x y ≡ Ok (Option own (octets n))) → own ≡ false → n ≡ 1 → P)
      → (((y : Result Head Refusal) → or_mark j x y ≡ y) → z ≡ Ok (Option own (octets n)) → P) → or_mark j x z ≡ Ok (Option own (octets n)) → P
  by-mark false pad other e = other (λ y. refl) e
  by-mark true pad other e = go (eqb x 0) (eqb x 255) refl refl
    where
      go : (a b : Bool) → eqb x 0 ≡ a → eqb x 255 ≡ b → P
      go true b t u = pad (λ y. rw t (rw t at e)) (ap own_of (sym (rw t at e))) (ap size_of (sym (rw t at e)))
      go false true t u = absurd (end-option (rw (t, u) at e))
      go false false t u = other (λ y. rw (t, u)) (rw (t, u) at e)

-- only a header is refused
unmarked : (j a b : Bool) (z : Result Head Refusal) {r : Refusal} → cond j (cond a (Ok (Option false (octets 1))) (cond b (Ok End) z)) z ≡ Err r → z ≡ Err r
unmarked false a b z e = e
unmarked true true b z e = absurd (bad-option (sym e))
unmarked true false true z e = absurd (bad-end (sym e))
unmarked true false false z e = e

pub first-framing : (c : Carrier) (s : List ℕ) {r : Refusal} → first_of c s ≡ Err r → r ≡ Framing
first-framing c s e = head-framing c s (unmarked (is_joined c) (eqb (get_or s 0 0) 0) (eqb (get_or s 0 0) 255) (head_in c s) e)

-- an option has at least one octet
pub first_pos : (c : Carrier) (s : List ℕ) {own : Bool} {n : ℕ} → first_of c s ≡ Ok (Option own (octets n)) → 0 < n
first_pos c s {own} {n} e =
    by-mark (get_or s 0 0) (head_in c s) own n (0 < n) (is_joined c)
    (λ _ w q. omega arith)
    (λ _ q. omega (arith, (head-inv c s q).body, header-pos c)) e

-- the carrier's own options have a header
pub first-own : (c : Carrier) (s : List ℕ) {n : ℕ} → first_of c s ≡ Ok (Option true (octets n)) → Read c s true n
first-own c s {n} e =
    by-mark (get_or s 0 0) (head_in c s) true n (Read c s true n) (is_joined c)
    (λ _ w q. absurd (false≢true (sym w)))
    (λ _ q. head-inv c s q) e

-- what stands first does not depend on what follows, once the header is all there
pub first-local : (c : Carrier) (s t : List ℕ) → header_of c ≤ length s → first_of c (s ++ t) ≡ first_of c s
first-local c s t h =
    ap₂ (or_mark (is_joined c)) (get_or-append s t 0 0 (omega (arith, header-pos c))) (head-local c s t h)

-- an option that stands first stands first whatever follows
pub first-append : (c : Carrier) (s t : List ℕ) {own : Bool} {n : ℕ} → 0 < length s → first_of c s ≡ Ok (Option own (octets n))
    → first_of c (s ++ t) ≡ Ok (Option own (octets n))
first-append c s t {own} {n} h e =
    by-mark (get_or s 0 0) (head_in c s) own n (first_of c (s ++ t) ≡ Ok (Option own (octets n))) (is_joined c)
    (λ same w q. ap (λ (x : ℕ). or_mark (is_joined c) x (head_in c (s ++ t))) (get_or-append s t 0 0 h) ∙ same (head_in c (s ++ t)))
    (λ _ q. first-local c s t (head-inv c s q).room ∙ e) e

-- of an option of several octets, too few for the header are no header
pub first-cut : (c : Carrier) (s : List ℕ) (k : ℕ) {own : Bool} {n : ℕ} → first_of c s ≡ Ok (Option own (octets n)) → 0 < k → k < n → k ≤ length s → k < header_of c
    → first_of c (take k s) ≡ Err Framing
first-cut c s k {own} {n} e p l h q =
    let len : length (take k s) ≡ k = length-take-le k s h in
    by-mark (get_or s 0 0) (head_in c s) own n (first_of c (take k s) ≡ Err Framing) (is_joined c)
    (λ _ w one. absurd (omega arith))
    (λ same _. ap (λ (x : ℕ). or_mark (is_joined c) x (head_in c (take k s))) (get_or-take k s 0 0 p) ∙ same (head_in c (take k s)) ∙ head-short c (take k s) (omega arith)) e
