-- The three answers of `decode`, each from what the passes and the tests between them say; and the texts that are decoded, said without
-- a reader. Assumes nothing.
use Rattle.std.specs.Prelude.{◌≡◌, refl, List, [], ◌∷◌, ◌↔◌, Bool, true, false, cond, ℕ, ◌≤◌, ◌<◌, ltb, length, Result, Ok, Err}
use Rattle.std.proofs.Common.{sym, ap, ◌∙◌, zero-add, arith, lt-ltb, le-ltb, ltb-false}
use Rattle.octets.specs.Over.{Wrote}
use Rattle.hexes.specs.declared.Undecoded.{Undecoded}
use Rattle.hexes.specs.declared.Undecoded.TheVariants.{NoRoom, Other}
use Rattle.hexes.specs.Hexes.{Read, octets, some, pairs, read_hex}
use Rattle.hexes.specs.Hexes as hexes
use Rattle.hexes.specs.Spelled.{Spelled}
use Rattle.hexes.specs.Exactly.{hex-exactly}
use Rattle.hexes.specs.Decoding.{Answer, written, no_room, other, fit, decode_of, told, left, Decoded, octets_in, size_in}

fit-other : (r : Read) (room : ℕ) → size_in (some r) ≡ 0 → fit (some r) room ≡ other
fit-other (octets []) room e = refl
fit-other (octets (b ∷ bs)) room e = absurd (omega arith)
fit-other hexes.other room e = refl

fit-room : (r : Read) (room : ℕ) → room < size_in r → fit r room ≡ no_room
fit-room (octets bs) room h = rw (lt-ltb room (length bs) h)
fit-room hexes.other room h = absurd (omega arith)

fit_written : (r : Read) (room : ℕ) → 1 ≤ size_in r → size_in r ≤ room → fit r room ≡ written (octets_in r)
fit_written (octets bs) room k h = rw (le-ltb room (length bs) h)
fit_written hexes.other room k h = absurd (omega arith)

module _ {t out : List ℕ} {n : ℕ} (e : n ≡ size_in (read_hex t)) where
  pub no-hex : n ≡ 0 → Decoded t out (Err Other) out
  no-hex z =
      let f : decode_of t (length out) ≡ other = fit-other (pairs t) (length out) (sym e ∙ z) in
      record { answered = sym (ap told f); leaves = sym (ap (λ (a : Answer). left a out) f) }

  pub no_room_lem : length out < n → Decoded t out (Err NoRoom) out
  no_room_lem h =
      let f : decode_of t (length out) ≡ no_room = fit-room (read_hex t) (length out) (omega arith) in
      record { answered = sym (ap told f); leaves = sym (ap (λ (a : Answer). left a out) f) }

  pub read-in : {r : ℕ} {out' : List ℕ} → (n ≡ 0 → ⊥) → n ≤ length out → Wrote 0 (octets_in (read_hex t)) out r out' → Decoded t out (Ok r) out'
  read-in {r} {out'} z h w =
      let f : decode_of t (length out) ≡ written (octets_in (read_hex t)) = fit_written (read_hex t) (length out) (omega arith) (omega arith) in
      record {
        answered = ap Ok (w.next ∙ zero-add (size_in (read_hex t))) ∙ sym (ap told f);
        leaves = w.laid ∙ sym (ap (λ (a : Answer). left a out) f);
      }

-- a text is decoded as bs exactly where it spells them, there is one at least, and they have room
pub decode-exactly : (t bs : List ℕ) (room : ℕ) → (decode_of t room ≡ written bs) ↔ (Spelled t bs × (1 ≤ length bs) × (length bs ≤ room))
decode-exactly t bs room = (to, from)
  where
    test : (cs : List ℕ) (b : Bool) → ltb room (length cs) ≡ b → cond b no_room (written cs) ≡ written bs → (cs ≡ bs) × (length cs ≤ room)
    test cs true p e = let z : ◌≡◌ {A = ℕ} 0 1 = cc in absurd (omega arith)
    test cs false p e = (cc, ltb-false room (length cs) p)

    fitted : (r : Read) → fit r room ≡ written bs → (r ≡ octets bs) × (length bs ≤ room)
    fitted (octets cs) e = let f = test cs (ltb room (length cs)) refl e in (ap octets f.0, rw f.0 at f.1)
    fitted hexes.other e = let z : ◌≡◌ {A = ℕ} 0 1 = cc in absurd (omega arith)

    to : decode_of t room ≡ written bs → Spelled t bs × (1 ≤ length bs) × (length bs ≤ room)
    to e = let f = fitted (read_hex t) e in let s = (hex-exactly t bs).0 f.0 in (s.0, s.1, f.1)

    from : Spelled t bs × (1 ≤ length bs) × (length bs ≤ room) → decode_of t room ≡ written bs
    from s = ap (λ (r : Read). fit r room) ((hex-exactly t bs).1 (s.0, s.1)) ∙ fit_written (octets bs) room s.1 s.2

-- ---- how many octets a text is said to have had

module _ (n room : ℕ) where
  fitted : (bs : List ℕ) (b : Bool) → ltb room (length bs) ≡ b → told (cond b no_room (written bs)) ≡ Ok n → n ≤ room
  fitted bs true h e = let z : ◌≡◌ {A = ℕ} 0 1 = cc in absurd (omega arith)
  fitted bs false h e = let q : length bs ≡ n = cc in omega (arith, ltb-false)

  told-within : (r : Read) → told (fit r room) ≡ Ok n → n ≤ room
  told-within (octets bs) e = fitted bs (ltb room (length bs)) refl e
  told-within hexes.other e = let z : ◌≡◌ {A = ℕ} 0 1 = cc in absurd (omega arith)

pub decoded-within : {t out out' : List ℕ} {r : Result ℕ Undecoded} {n : ℕ} → Decoded t out r out' → r ≡ Ok n → n ≤ length out
decoded-within {t} {out} {out'} {r} {n} d e = told-within n (length out) (read_hex t) (sym d.answered ∙ e)
