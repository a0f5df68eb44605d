-- The turns of `read`: what holds before each, and what follows at each way out. Assumes nothing.
use Rattle.std.specs.Prelude.{◌≡◌, refl, true, false, cond, List, [], ◌∷◌, ◌++◌, ℕ, ◌+◌, ◌≤◌, ◌<◌, length, get_or, take, drop, set}
use Rattle.std.proofs.Common.{sym, ap, ◌∙◌, append-nil, zero-add, arith, lt-ltb, le-ltb, eq-eqb, ne_eqb, length-append, drop_of_length-le, drop-cons, take_all}
use Rattle.std.proofs.Math.Numerals.{add-one}
use Rattle.std.proofs.Math.Seq.{append_snoc}
use Rattle.std.proofs.lemmas.List.{take-append-le}
use Rattle.octets.specs.Over.{over}
use Rattle.octets.specs.OverLaws.{over-nil, over-push}
use Rattle.inputs.specs.Why as why
use Rattle.inputs.specs.Read.{Octets, Bad, Long}
use Rattle.base64_text.specs.Quantum.{Quantum}
use Rattle.base64_text.specs.Base64.{moved, whole, begun, End, good, fault, Decoded, none, onto, arrive, decode_from, decode, told, Answered}

-- octets before those of the rest
abbrev pub after : List ℕ → Decoded → Decoded
after a d = record { octets = a ++ d.octets; end = d.end }

-- the n octets of the first i characters are laid over the front of `before`, and what is left decides on the rest
pub record Laying (t before out : List ℕ) (s : Quantum) (n i : ℕ) : Type 0 where
  pub front : List ℕ
  pub size : length front ≡ n
  pub room : n ≤ length before
  pub within : i ≤ length t
  pub rest : decode t ≡ after front (decode_from s i (drop i t))
  pub laid : out ≡ over 0 front before

pub lay-start : {t before : List ℕ} {s : Quantum} → s ≡ begun → Laying t before before s 0 0
unfolding decode
lay-start {t} {before} e = record {
  front = [];
  size = refl;
  room = omega arith;
  within = omega arith;
  rest = rw e refl;
  laid = sym (over-nil 0 before);
}

-- ---- the ways out

module _ {t before out : List ℕ} {s : Quantum} {n i : ℕ} (l : Laying t before out s n i) where
  ended : (e : End) → decode_from s i (drop i t) ≡ none e → Answered t before (told e n) out
  ended e h =
      let f : decode t ≡ record { octets = l.front; end = e } =
      l.rest ∙ ap (after l.front) h ∙ ap (λ (a : List ℕ). record { octets = a; end = e }) (append-nil l.front) in
      let k : length l.front ≤ length before = omega (arith, l.size, l.room) in
      record {
        answered = rw (f, le-ltb (length before) (length l.front) k) (ap (told e) (sym l.size));
        leaves = rw f (l.laid ∙ ap (λ (a : List ℕ). over 0 a before) (sym (take_all (length before) l.front k)));
      }

  at_end : length t ≤ i → decode_from s i (drop i t) ≡ cond (whole s) (none good) (none (fault i))
  unfolding decode_from
  at_end h = rw (drop_of_length-le t h)

  pub lay-good : length t ≤ i → whole s ≡ true → Answered t before (Octets n) out
  lay-good h w = ended good (at_end h ∙ rw w)

  pub lay-short : length t ≤ i → whole s ≡ false → Answered t before (Bad i why.base64) out
  lay-short h w = ended (fault i) (at_end h ∙ rw w)

-- ---- a character

module _ {t before out : List ℕ} {s m : Quantum} {n i : ℕ} (l : Laying t before out s n i) (h : i < length t) (e : m ≡ moved (get_or t i 0) s) where
  arrives : decode_from s i (drop i t) ≡ arrive m i (decode_from m (i + 1) (drop (i + 1) t))
  unfolding decode_from
  arrives = rw (drop-cons t i 0 h, add-one i, e)

  pub lay-fault : m.place ≡ 6 → Answered t before (Bad i why.base64) out
  lay-fault p = ended l (fault i) (arrives ∙ rw (eq-eqb m.place 6 p))

  pub lay-on : (m.place ≡ 6 → ⊥) → m.complete ≡ false → Laying t before out m n (i + 1)
  lay-on p c = record {
    front = l.front;
    size = l.size;
    room = l.room;
    within = omega arith;
    rest = l.rest ∙ ap (after l.front) (arrives ∙ rw (ne_eqb m.place 6 p, c));
    laid = l.laid;
  }

  completes : (m.place ≡ 6 → ⊥) → m.complete ≡ true → decode t ≡ after l.front (onto m.octet (decode_from m (i + 1) (drop (i + 1) t)))
  completes p c = l.rest ∙ ap (after l.front) (arrives ∙ rw (ne_eqb m.place 6 p, c))

  pub lay-octet : (m.place ≡ 6 → ⊥) → m.complete ≡ true → n < length before → Laying t before (set out n m.octet) m (n + 1) (i + 1)
  lay-octet p c r =
      let d : Decoded = decode_from m (i + 1) (drop (i + 1) t) in
      let z : 0 + length l.front ≡ n = zero-add (length l.front) ∙ l.size in
      record {
        front = l.front ++ (m.octet ∷ []);
        size = simp length-append (omega (arith, l.size));
        room = omega arith;
        within = omega arith;
        rest = completes p c ∙ ap (λ (a : List ℕ). record { octets = a; end = d.end }) (sym (append_snoc l.front m.octet d.octets));
        laid = ap (λ (a : List ℕ). set a n m.octet) l.laid ∙ (rw z at (over-push 0 m.octet l.front before (rw z r)));
      }

  pub lay-long : (m.place ≡ 6 → ⊥) → m.complete ≡ true → length before ≤ n → Answered t before Long out
  lay-long p c r =
      let d : Decoded = decode_from m (i + 1) (drop (i + 1) t) in
      let more : length before < length (l.front ++ (m.octet ∷ d.octets)) = simp length-append (omega (arith, l.size)) in
      let k : length before ≤ length l.front = omega (arith, l.size) in
      let all : length l.front ≤ length before = omega (arith, l.size, l.room) in
      let front : take (length before) (l.front ++ (m.octet ∷ d.octets)) ≡ l.front =
      take-append-le (length before) l.front (m.octet ∷ d.octets) k ∙ take_all (length before) l.front all in
      record {
        answered = rw (completes p c, lt-ltb (length before) (length (l.front ++ (m.octet ∷ d.octets))) more);
        leaves = rw (completes p c) (l.laid ∙ ap (λ (a : List ℕ). over 0 a before) (sym front));
      }
