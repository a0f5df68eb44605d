-- How a text is read as octets, for one character of it: from what follows it back to it. Assumes nothing.
use Rattle.std.specs.Prelude.{◌≡◌, refl, Bool, true, false, List, ◌∷◌, ℕ, ◌+◌, ◌-◌, ◌*◌, ◌%◌, ◌≤◌, ◌<◌, length, get_or, set, Option, Some, None}
use Rattle.std.proofs.Common.{sym, ap, subst, ◌∙◌, arith}
use borrow.Author.Tests.{le-leb, lt-leb, lt-ltb, le-ltb, eq-eqb, ne_eqb}
use Rattle.hexes.specs.Hexes.{digit}
use Rattle.hexes.specs.Hexes as hexes
use Rattle.hexes.specs.HexesLaws.{value-decimal, value-upper, value-lower, digit-decimal, digit-upper, digit-lower}
use Rattle.hexes.specs.Spelled as spelled
use Rattle.dumps.specs.declared.Style.{Style}
use Rattle.dumps.specs.Turn.{Turn}
use Rattle.dumps.specs.Turn as turns
use Rattle.dumps.specs.State.{State}
use Rattle.dumps.specs.Class as class
use Rattle.dumps.specs.Mode as mode
use Rattle.dumps.specs.States as states
use Rattle.dumps.specs.States.{class_of, shown_of, moved}
use Rattle.dumps.specs.Dumps.{repeated_of, take_of, Turned, Ended, read_from}
use Rattle.dumps.specs.DumpsLaws.{fill_none, fill-whole, lay-none, lay-one, take-laid, from-go}
use Rattle.dumps.specs.Shows.{Blank, space, tab, carriage_return, Shown, printed, control, beyond, dotted}
use Rattle.dumps.specs.Steps.{Result}

-- read from here on, the text comes to the m octets bs
abbrev pub Good : Style → State → ℕ → List ℕ → List ℕ → ℕ → List ℕ → Type 0
Good f s n out xs m bs = (size i : ℕ) → Result (read_from f s n size i out xs) m bs

module _ (f : Style) (s : State) (x n : ℕ) (out xs : List ℕ) (m : ℕ) (bs : List ℕ) where
  back : {q : Turn} {out' : List ℕ} → Turned (take_of f s x n out) q out' → {u : State} {k : ℕ} → q ≡ turns.Go u k → Good f u k out' xs m bs
      → Good f s n out (x ∷ xs) m bs
  back t {u} {k} g r size i =
      subst (λ (d : Ended). Result d m bs)
      (sym (from-go f s x n size i out xs u k (sym t.answered ∙ g) ∙ ap (λ (o : List ℕ). read_from f u k size (i + 1) o xs) (sym t.leaves)))
      (r size (i + 1))

  module _ (t : State) (e : t ≡ moved f x n (get_or out s.beside 0) s) (h : t.why ≡ 0) where
    pub back_on : t.upto ≤ n → (t.mode ≡ mode.low → ⊥) → Good f t n out xs m bs → Good f s n out (x ∷ xs) m bs
    back_on l k r = back (take-laid f s x n out e refl h (fill_none t.before n t.upto out l) refl (lay-none t n out k)) refl r

    pub back-octet : t.upto ≤ n → t.mode ≡ mode.low → n < length out → Good f t (n + 1) (set out n t.octet) xs m bs
        → Good f s n out (x ∷ xs) m bs
    back-octet l k j r = back (take-laid f s x n out e refl h (fill_none t.before n t.upto out l) refl (lay-one t n out k j)) refl r

    pub back-fill : n < t.upto → (t.mode ≡ mode.low → ⊥) → t.before < n → (t.upto - n) % (n - t.before) ≡ 0 → t.upto ≤ length out
        → Good f t t.upto (repeated_of (t.upto - n) t.before n out) xs m bs → Good f s n out (x ∷ xs) m bs
    back-fill l k j d v r =
        back
        (take-laid f s x n out e refl h (fill-whole t.before n t.upto out l j d v refl) refl
        (lay-none t t.upto (repeated_of (t.upto - n) t.before n out) k))
        refl r

-- ---- characters

pub digit-is : {x v : ℕ} → spelled.Digit x v → (digit x ≡ true) × (hexes.value x ≡ v)
digit-is {x} {v} (spelled.decimal h e) = (digit-decimal x (omega arith) (omega arith), value-decimal x (omega arith) ∙ omega arith)
digit-is {x} {v} (spelled.upper h k e) = (digit-upper x (omega arith) (omega arith), value-upper x (omega arith) (omega arith) ∙ omega arith)
digit-is {x} {v} (spelled.lower h k e) = (digit-lower x (omega arith) (omega arith), value-lower x (omega arith) ∙ omega arith)

pub class-digit-is : (x : ℕ) → digit x ≡ true → class_of x ≡ class.Digit
unfolding class_of
class-digit-is x d = rw d

pub class-break : class_of 10 ≡ class.Break
unfolding class_of digit
class-break = refl

pub class-blank : {x : ℕ} → Blank x → class_of x ≡ class.Blank
unfolding class_of digit
class-blank (space e) = rw e
class-blank (tab e) = rw e
class-blank (carriage_return e) = rw e

pub class-star : class_of 42 ≡ class.Other
unfolding class_of digit
class-star = refl

pub class-colon : class_of 58 ≡ class.Other
unfolding class_of digit
class-colon = refl

pub shown-is : {f : Style} {b x : ℕ} → Shown f b x → x ≡ shown_of f.prefix b
unfolding shown_of
shown-is {f} {b} {x} (printed h k d e) = go f.prefix refl
  where
    go : (g : Bool) → f.prefix ≡ g → x ≡ shown_of f.prefix b
    go true p = rw (le-ltb b 32 h, le-ltb 126 b k, p, ne_eqb b 32 (d p)) e
    go false p = rw (le-ltb b 32 h, le-ltb 126 b k, p) e
shown-is {f} {b} {x} (control h e) = rw (lt-ltb b 32 h) e
shown-is {f} {b} {x} (beyond h e) = let k : 32 ≤ b = omega arith in rw (le-ltb b 32 k, lt-ltb 126 b h) e
shown-is {f} {b} {x} (dotted p z e) =
    let h : 32 ≤ b = omega arith in
    let k : b ≤ 126 = omega arith in
    rw (le-ltb b 32 h, le-ltb 126 b k, p, eq-eqb b 32 z) e

pub shown-range : {f : Style} {b x : ℕ} → Shown f b x → (32 ≤ x) × (x ≤ 126)
shown-range {f} {b} {x} (printed h k d e) = (omega arith, omega arith)
shown-range {f} {b} {x} (control h e) = (omega arith, omega arith)
shown-range {f} {b} {x} (beyond h e) = (omega arith, omega arith)
shown-range {f} {b} {x} (dotted p z e) = (omega arith, omega arith)

-- ---- how the state moves

module _ (f : Style) (x n b : ℕ) (s : State) where
  pub first_plain : s.ended ≡ false → f.prefix ≡ false → states.to mode.offset (states.reading 1 (hexes.value x) s) ≡ states.first f x s
  unfolding states.first
  first_plain e p = rw (e, p)

  pub first-zero : s.ended ≡ false → f.prefix ≡ true → x ≡ 48 → states.to mode.prefix s ≡ states.first f x s
  unfolding states.first
  first-zero e p z = rw (e, p, eq-eqb x 48 z)

  pub prefixed-x : x ≡ 120 → states.to mode.offset (states.reading 0 0 s) ≡ states.prefixed x s
  unfolding states.prefixed
  prefixed-x z = rw (eq-eqb x 120 z)

  pub further-on : s.digits < f.digits → s.value ≤ 65535
      → states.reading (s.digits + 1) (16 * s.value + hexes.value x) s ≡ states.further f x s
  unfolding states.further
  further-on h k = rw (lt-leb f.digits s.digits h, le-ltb 65535 s.value k)

  pub low-solid : digit x ≡ true → (shown_of f.prefix (s.octet % 16 * 16 + hexes.value x) ≡ 32 → ⊥)
      → states.complete (s.octet % 16 * 16 + hexes.value x) (states.showing n s) ≡ states.low f x n s
  unfolding states.low
  low-solid d h = rw (d, ne_eqb (shown_of f.prefix (s.octet % 16 * 16 + hexes.value x)) 32 h)

  pub low-front : digit x ≡ true → shown_of f.prefix (s.octet % 16 * 16 + hexes.value x) ≡ 32 → s.beside ≡ n
      → states.complete (s.octet % 16 * 16 + hexes.value x) (states.column (n + 1) s) ≡ states.low f x n s
  unfolding states.low
  low-front d h e = rw (d, eq-eqb (shown_of f.prefix (s.octet % 16 * 16 + hexes.value x)) 32 h, eq-eqb s.beside n e)

  pub low-faint : digit x ≡ true → shown_of f.prefix (s.octet % 16 * 16 + hexes.value x) ≡ 32 → (s.beside ≡ n → ⊥)
      → states.complete (s.octet % 16 * 16 + hexes.value x) s ≡ states.low f x n s
  unfolding states.low
  low-faint d h e = rw (d, eq-eqb (shown_of f.prefix (s.octet % 16 * 16 + hexes.value x)) 32 h, ne_eqb s.beside n e)

  pub past-blank : f.closing ≡ None → x ≡ 32 → s ≡ states.past f x s
  unfolding states.past
  past-blank c z = rw (c, eq-eqb x 32 z)

  pub past-closes : f.closing ≡ Some x → states.to mode.closed s ≡ states.past f x s
  unfolding states.past
  past-closes c = rw (c, eq-eqb x x refl)

  pub beside-over : n ≤ s.beside → states.past f x s ≡ states.beside f x n b s
  unfolding states.beside
  beside-over h = rw (le-leb n s.beside h)

  pub beside-shows : s.beside < n → x ≡ shown_of f.prefix b → states.to mode.text (states.column (s.beside + 1) s) ≡ states.beside f x n b s
  unfolding states.beside
  beside-shows h z = rw (lt-leb n s.beside h, eq-eqb x (shown_of f.prefix b) z)

  pub fenced-on : f.opening ≡ Some x → states.to mode.text (states.column s.line s) ≡ states.fenced f x s
  unfolding states.fenced
  fenced-on z = rw (z, eq-eqb x x refl)

  pub broken-on : f.closing ≡ None → s.solid ≤ s.beside → states.columned n s ≡ states.broken f n s
  unfolding states.broken
  broken-on c h = rw (c, le-ltb s.beside s.solid h)

  pub text-returned : x ≡ 13 → s ≡ states.text f x n b s
  unfolding states.text
  text-returned z = rw (eq-eqb x 13 z)

  pub text-broken : x ≡ 10 → states.broken f n s ≡ states.text f x n b s
  unfolding states.text
  text-broken z = let k : x ≡ 13 → ⊥ = λ q. absurd (omega arith) in rw (ne_eqb x 13 k, eq-eqb x 10 z)

  pub text-beside : (x ≡ 13 → ⊥) → (x ≡ 10 → ⊥) → states.beside f x n b s ≡ states.text f x n b s
  unfolding states.text
  text-beside y z = rw (ne_eqb x 13 y, ne_eqb x 10 z)

  pub more-digit : f.opening ≡ None → states.beside f x n b s ≡ states.more_by class.Digit f x n b s
  more-digit o = rw o

  pub more-next : (f.opening ≡ None → ⊥) → states.high false x s ≡ states.more_by class.Digit f x n b s
  more-next o = go f.opening refl
    where
      go : (g : Option ℕ) → f.opening ≡ g → states.high false x s ≡ states.more_by class.Digit f x n b s
      go None p = absurd (o p)
      go (Some y) p = rw p

  pub more-other : f.opening ≡ None → states.beside f x n b s ≡ states.more_by class.Other f x n b s
  more-other o = rw o

  pub more-fenced : {y : ℕ} → f.opening ≡ Some y → states.fenced f x s ≡ states.more_by class.Other f x n b s
  more-fenced o = rw o
