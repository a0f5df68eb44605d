-- A text is read as octets exactly where, its blanks left out, it is their encoding and they fit the buffer; so the encoding of any octets that
-- fit is read as those octets. Assumes nothing.
use Rattle.std.specs.Prelude.{◌≡◌, refl, ◌↔◌, Bool, true, false, cond, List, ℕ, ◌≤◌, ltb, length}
use Rattle.std.proofs.Common.{sym, ap, ap₂, subst, ◌∙◌, arith, ltb-false, le-ltb, take_all}
use Rattle.std.proofs.lemmas.Bool.{false≢true}
use Rattle.octets.specs.Numbers.{Bytes}
use Rattle.octets.specs.Over.{over}
use Rattle.inputs.specs.Read.{Read, Octets, Long}
use Rattle.base64_text.specs.Base64.{begun, End, good, fault, Decoded, decoded, decode_from, decode, told, answer, Answered}
use Rattle.base64_text.specs.Encoded.{encode, unblanked, Encodes}
use Rattle.base64_text.specs.Back.{encoded-back, encode-unblanked, is_good, unblanked-alike}
use Rattle.base64_text.specs.Says.{When, left-says, octets-small}

-- ---- what a text is decoded as

is-good : (e : End) → is_good e ≡ true → e ≡ good
is-good good p = refl
is-good (fault i) p = absurd (false≢true p)

pub decode-exactly : (t bs : List ℕ) → (decode t ≡ decoded bs) ↔ (Bytes bs × (unblanked t ≡ encode bs))
unfolding decode
decode-exactly t bs = (to, from)
  where
    to : decode t ≡ decoded bs → Bytes bs × (unblanked t ≡ encode bs)
    to e = (
      subst (λ (d : Decoded). Bytes d.octets) e (octets-small begun 0 t),
      subst (λ (d : Decoded). When (λ cs. unblanked t ≡ encode cs) d) e (left-says begun 0 t (omega arith)),
    )

    from : Bytes bs × (unblanked t ≡ encode bs) → decode t ≡ decoded bs
    from h =
        let a = unblanked-alike begun 0 0 t (λ z. omega arith) in
        let b : decode_from begun 0 (unblanked t) ≡ decoded bs = ap (decode_from begun 0) h.1 ∙ encoded-back 0 0 false 0 bs h.0 in
        let p : (decode t).octets ≡ bs = a.octets ∙ ap (λ (d : Decoded). d.octets) b in
        let q : (decode t).end ≡ good = is-good (decode t).end (a.end ∙ ap (λ (d : Decoded). is_good d.end) b) in
        ap₂ (λ (o : List ℕ) (e : End). record { octets = o; end = e }) p q

-- ---- what is answered, and left in the buffer

-- octets are answered where the text is good, and there is room
answer-octets : (room n : ℕ) (d : Decoded) → Octets n ≡ answer room d → (d ≡ decoded d.octets) × (n ≡ length d.octets) × (length d.octets ≤ room)
answer-octets room n d e = go (ltb room (length d.octets)) refl d.end refl e
  where
    go : (b : Bool) → ltb room (length d.octets) ≡ b → (k : End) → d.end ≡ k → Octets n ≡ cond b Long (told k (length d.octets))
        → (d ≡ decoded d.octets) × (n ≡ length d.octets) × (length d.octets ≤ room)
    go true p k q e = let z : ◌≡◌ {A = ℕ} 0 1 = cc in absurd (omega arith)
    go false p good q e = (ap (λ (k : End). record { octets = d.octets; end = k }) q, cc, ltb-false room (length d.octets) p)
    go false p (fault i) q e = let z : ◌≡◌ {A = ℕ} 0 1 = cc in absurd (omega arith)

pub read-exactly : (text out out' : List ℕ) (n : ℕ) → Answered text out (Octets n) out' ↔ Encodes text out n out'
read-exactly text out out' n = (to, from)
  where
    to : Answered text out (Octets n) out' → Encodes text out n out'
    to a =
        let p = answer-octets (length out) n (decode text) a.answered in
        let q = (decode-exactly text (decode text).octets).0 p.0 in
        record {
          octets = (decode text).octets;
          bytes = q.0;
          encoded = q.1;
          size = p.1;
          room = p.2;
          laid = a.leaves ∙ ap (λ (l : List ℕ). over 0 l out) (take_all (length out) (decode text).octets p.2);
        }

    from : Encodes text out n out' → Answered text out (Octets n) out'
    from e =
        let d : decode text ≡ decoded e.octets = (decode-exactly text e.octets).1 (e.bytes, e.encoded) in
        record {
          answered = rw (d, le-ltb (length out) (length e.octets) e.room) (ap Octets e.size);
          leaves = rw d (e.laid ∙ ap (λ (l : List ℕ). over 0 l out) (sym (take_all (length out) e.octets e.room)));
        }

-- the encoding of octets that fit is read as those octets
pub encoded-read : (bs out out' : List ℕ) (r : Read) → Bytes bs → length bs ≤ length out → Answered (encode bs) out r out'
    → (r ≡ Octets (length bs)) × (out' ≡ over 0 bs out)
encoded-read bs out out' r h k a =
    let e : Encodes (encode bs) out (length bs) (over 0 bs out) =
    record { octets = bs; bytes = h; encoded = encode-unblanked bs; size = refl; room = k; laid = refl } in
    let b = (read-exactly (encode bs) out (over 0 bs out) (length bs)).1 e in
    (a.answered ∙ sym b.answered, a.leaves ∙ sym b.leaves)
