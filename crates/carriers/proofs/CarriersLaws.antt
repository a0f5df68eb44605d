-- What holds of every row of the table, that each carrier has a number of its own, and that the two conversions of lengths are inverse.
-- Assumes nothing.
use Rattle.std.specs.Prelude.{◌≡◌, refl, Bool, true, false, cond, ℕ, ◌*◌, ◌/◌, ◌%◌, ◌^◌, ◌≤◌, ◌<◌, eqb, get_or, Option, Some, None}
use Rattle.std.proofs.Common.{sym, ap, ◌∙◌, true≢false, inl, inr, mul-le-mul, div-add-mod', arith, eqb-true}
use Rattle.std.proofs.lemmas.Bool.{false≢true}
use Rattle.octets.specs.Numbers.{be}
use Rattle.carriers.specs.declared.Carrier.{Carrier}
use Rattle.carriers.specs.declared.Carrier.TheVariants.{Dhcp4, Dhcp6, Router, Ike4, Ike6}
use Rattle.carriers.specs.declared.Eights.{Eights}
use Rattle.carriers.specs.declared.Form.{Form}
use Rattle.carriers.specs.declared.Form.TheVariants.{Wire, Padded, Text}
use Rattle.carriers.specs.declared.Octets.{Octets}
use Rattle.carriers.specs.Carriers.{chosen_of, number_of, code_of, head_width, has_reserved, bare_code, in_eights, is_joined, address_width, length_width, form_of, lifetime_in, lifetime_width, text_in, as_text, octets, eights, octets_of, eights_of}
use Rattle.carriers.specs.Told.{Chooses}

-- a number names its carrier, and has room in one octet
record Numbered (c : Carrier) : Type 0 where
  pub known : chosen_of (number_of c) ≡ Some c
  pub octet : number_of c < 256

numbered : (c : Carrier) → Numbered c
unfolding chosen_of
numbered Dhcp4 = record { known = refl; octet = omega arith }
numbered Dhcp6 = record { known = refl; octet = omega arith }
numbered Router = record { known = refl; octet = omega arith }
numbered Ike4 = record { known = refl; octet = omega arith }
numbered Ike6 = record { known = refl; octet = omega arith }

pub chosen-number : (c : Carrier) → chosen_of (number_of c) ≡ Some c
chosen-number c = (numbered c).known

pub number-room : (c : Carrier) → number_of c < 256
number-room c = (numbered c).octet

-- so it is the octet that says it
pub number-octet : (c : Carrier) → number_of c % 256 ≡ number_of c
number-octet c = omega (arith, number-room c)

unknown-known : {c : Carrier} → None ≡ Some c → ⊥
unknown-known e = let z : ◌≡◌ {A = ℕ} 0 1 = cc in omega arith

-- a number names at most one carrier
pub number-chosen : (n : ℕ) (c : Carrier) → chosen_of n ≡ Some c → n ≡ number_of c
unfolding chosen_of
number-chosen n c =
    is 1 Dhcp4 refl (is 2 Dhcp6 refl (is 3 Router refl (is 4 Ike4 refl (is 5 Ike6 refl (λ e. absurd (unknown-known e))))))
  where
    is : (k : ℕ) (d : Carrier) → number_of d ≡ k → {o : Option Carrier} → (o ≡ Some c → n ≡ number_of c)
        → cond (eqb n k) (Some d) o ≡ Some c → n ≡ number_of c
    is k d i {o} h = go (eqb n k) refl
      where
        go : (b : Bool) → eqb n k ≡ b → cond b (Some d) o ≡ Some c → n ≡ number_of c
        go true t e = let j : d ≡ c = cc in eqb-true n k t ∙ sym i ∙ ap number_of j
        go false t e = h e

-- a number that no carrier has chooses none
pub chosen-unknown : (n : ℕ) → ((c : Carrier) → number_of c ≡ n → ⊥) → chosen_of n ≡ None
chosen-unknown n never = go (chosen_of n) refl
  where
    go : (o : Option Carrier) → chosen_of n ≡ o → o ≡ None
    go None e = refl
    go (Some c) e = absurd (never c (sym (number-chosen n c e)))

-- the carrier that was chosen has the number, or none has it, whatever number refuses
pub chosen-chooses : (none n : ℕ) (r : Option Carrier) → r ≡ chosen_of n → Chooses none n r
chosen-chooses none n (Some c) e = inl (refl, sym (number-chosen n c (sym e)))
chosen-chooses none n None e = inr (refl, λ c q. unknown-known (e ∙ ap chosen_of (sym q) ∙ chosen-number c))

-- code and length have one or two octets, two but in carriers 1 and 3, in which the carrier's code has room; it has no reserved bit, and is
-- neither padding nor an end
pub record Headed (c : Carrier) : Type 0 where
  pub some : 0 < head_width c
  pub few : head_width c ≤ 2
  pub wide : is_joined c ≡ false → in_eights c ≡ false → head_width c ≡ 2
  pub room : code_of c < 256 ^ head_width c
  pub bare : bare_code (has_reserved c) (code_of c) ≡ code_of c
  pub other : is_joined c ≡ true → (0 < get_or (be (head_width c) (code_of c)) 0 0) × (get_or (be (head_width c) (code_of c)) 0 0 < 255)

pub headed : (c : Carrier) → Headed c
headed Dhcp4 = record { some = omega arith; few = omega arith; wide = λ j e. absurd (true≢false j); room = omega arith; bare = refl; other = λ e. (omega arith, omega arith) }
headed Dhcp6 = record { some = omega arith; few = omega arith; wide = λ j e. refl; room = omega arith; bare = refl; other = λ e. absurd (false≢true e) }
headed Router = record { some = omega arith; few = omega arith; wide = λ j e. absurd (true≢false e); room = omega arith; bare = refl; other = λ e. absurd (false≢true e) }
headed Ike4 = record { some = omega arith; few = omega arith; wide = λ j e. refl; room = omega arith; bare = refl; other = λ e. absurd (false≢true e) }
headed Ike6 = record { some = omega arith; few = omega arith; wide = λ j e. refl; room = omega arith; bare = refl; other = λ e. absurd (false≢true e) }

-- ---- by the values of a column

-- octets of an address, octets of a length, and the form
pub by-body : (P : ℕ → ℕ → Form → Type 0) → P 4 1 Wire → P 16 2 Wire → P 16 2 Padded → P 4 1 Text → P 16 1 Text
    → (c : Carrier) → P (address_width c) (length_width c) (form_of c)
by-body P a b d e f Dhcp4 = a
by-body P a b d e f Dhcp6 = b
by-body P a b d e f Router = d
by-body P a b d e f Ike4 = e
by-body P a b d e f Ike6 = f

-- an address has 4 octets or 16
pub by_address : (P : ℕ → Type 0) → P 4 → P 16 → (c : Carrier) → P (address_width c)
by_address P a b = by-body (λ w v k. P w) a b b a b

-- a length has one octet, which it has in text, or two
pub by_length : (P : ℕ → Form → Type 0) → P 1 Wire → P 2 Wire → P 2 Padded → P 1 Text → (c : Carrier) → P (length_width c) (form_of c)
by_length P a b d e = by-body (λ w v k. P v k) a b d e e

pub length-width : (c : Carrier) → (0 < length_width c) × (length_width c ≤ 2)
length-width = by_length (λ w k. (0 < w) × (w ≤ 2)) (omega arith, omega arith) (omega arith, omega arith) (omega arith, omega arith) (omega arith, omega arith)

pub address-width : (c : Carrier) → (0 < address_width c) × (address_width c ≤ 16)
address-width = by_address (λ w. (0 < w) × (w ≤ 16)) (omega arith, omega arith) (omega arith, omega arith)

-- so m addresses are at most 16 * m octets, counted or as octets of whole addresses
pub addresses-octets : (c : Carrier) {k m w : ℕ} → k ≤ m → w ≡ address_width c → k * w ≤ m * 16
addresses-octets c h e = mul-le-mul h (rw e (address-width c).1)

pub few-addresses : (c : Carrier) (m n : ℕ) → n % address_width c ≡ 0 → n / address_width c ≤ m → n ≤ m * 16
few-addresses c m n e h = omega (arith, div-add-mod' n (address_width c), e, addresses-octets c h refl)

-- what has room in one octet has room in a length
pub length-room : (n : ℕ) → n < 256 → (c : Carrier) → n < 256 ^ length_width c
length-room n h = by_length (λ w k. n < 256 ^ w) h (omega arith) (omega arith) h

pub text-width : (c : Carrier) → as_text c ≡ true → length_width c ≡ 1
text-width = by_length (λ w k. text_in k ≡ true → w ≡ 1) (λ e. absurd (false≢true e)) (λ e. absurd (false≢true e)) (λ e. absurd (false≢true e)) (λ e. refl)

-- ---- forms

-- carriers 1 and 2: no lifetime, and the name is not text
pub wire-form : (k : Form) → lifetime_in k ≡ 0 → text_in k ≡ false → k ≡ Wire
wire-form Wire t x = refl
wire-form Padded t x = absurd (omega arith)
wire-form Text t x = absurd (true≢false x)

pub text-form : (k : Form) → text_in k ≡ true → k ≡ Text
text-form Wire x = absurd (false≢true x)
text-form Padded x = absurd (false≢true x)
text-form Text x = refl

-- ---- carrier 3, whose bodies have a lifetime and padding and whose lengths are in units of eight, and the others

pub by-router : (P : Carrier → Type 0) → P Router → ((c : Carrier) → lifetime_width c ≡ 0 → in_eights c ≡ false → P c) → (c : Carrier) → P c
by-router P a b Dhcp4 = b Dhcp4 refl refl
by-router P a b Dhcp6 = b Dhcp6 refl refl
by-router P a b Router = a
by-router P a b Ike4 = b Ike4 refl refl
by-router P a b Ike6 = b Ike6 refl refl

pub padded-router : (c : Carrier) → form_of c ≡ Padded → c ≡ Router
padded-router = by-router (λ c. form_of c ≡ Padded → c ≡ Router) (λ e. refl) (λ c z n e. absurd (omega (arith, z, ap lifetime_in e)))

pub eights-router : (c : Carrier) → in_eights c ≡ true → c ≡ Router
eights-router = by-router (λ c. in_eights c ≡ true → c ≡ Router) (λ e. refl) (λ c z n e. absurd (false≢true (sym n ∙ e)))

-- ---- carrier 1, whose options are joined, and the others

pub by-joined : (P : Carrier → Type 0) → P Dhcp4 → ((c : Carrier) → is_joined c ≡ false → P c) → (c : Carrier) → P c
by-joined P a b Dhcp4 = a
by-joined P a b Dhcp6 = b Dhcp6 refl
by-joined P a b Router = b Router refl
by-joined P a b Ike4 = b Ike4 refl
by-joined P a b Ike6 = b Ike6 refl

pub other-joined : (c : Carrier) → (c ≡ Dhcp4 → ⊥) → is_joined c ≡ false
other-joined = by-joined (λ c. (c ≡ Dhcp4 → ⊥) → is_joined c ≡ false) (λ n. absurd (n refl)) (λ c e n. e)

-- ---- lengths: whole units are converted to and fro

pub eights-octets : (e : Eights) → eights_of (octets_of e) ≡ e
eights-octets e = ap eights (omega arith)

pub octets-eights : (o : Octets) → o.0 % 8 ≡ 0 → octets_of (eights_of o) ≡ o
octets-eights o whole = ap octets (omega arith)
