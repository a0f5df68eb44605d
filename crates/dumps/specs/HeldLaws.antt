-- How what src/ holds is said: the laws of a mode and a reason, and of a character that is taken. Assumes nothing.
use Rattle.std.specs.Prelude.{◌≡◌, refl, true, false, List, ℕ, ◌≤◌, ◌<◌, length, get_or, Result, Ok, Err}
use Rattle.std.specs.Result.{IsErrAnd}
use Rattle.std.proofs.Common.{sym, ap, subst, ◌∙◌, arith}
use Rattle.inputs.specs.declared.Unread.{Unread}
use Rattle.inputs.specs.Read.{Read, Octets, Bad, read_in, unread_in}
use Rattle.inputs.specs.declared.Why.{Why}
use Rattle.inputs.specs.declared.Why.TheVariants as whys
use Rattle.inputs.specs.Why as why
use Rattle.dumps.specs.declared.Style.{Style}
use Rattle.dumps.specs.declared.Stop.{Stop}
use Rattle.dumps.specs.declared.Stop.TheVariants as stop
use Rattle.dumps.specs.declared.state.Mode.{Mode}
use Rattle.dumps.specs.declared.state.Mode.TheVariants as modes
use Rattle.dumps.specs.declared.state.State as held
use Rattle.dumps.specs.Mode as mode
use Rattle.dumps.specs.State.{State}
use Rattle.dumps.specs.Turn.{Turn}
use Rattle.dumps.specs.Turn as turns
use Rattle.dumps.specs.Reach as reach
use Rattle.dumps.specs.States.{moved}
use Rattle.dumps.specs.Dumps.{take_of, lay_of, Filled, Turned, Dumped}
use Rattle.dumps.specs.DumpsLaws.{take-bad, take-laid, take_no, take_long, Reading, read-bad, read-long, read-star, read_done}
use Rattle.dumps.specs.Held.{mode_in, state_in, reach_in, turn_in, stopped_at}

-- a reason is never the number that stands for none
pub reason-known : (w : Why) → why.number_of w ≡ 0 → ⊥
reason-known whys.Form e = absurd (omega arith)
reason-known whys.Groups e = absurd (omega arith)
reason-known whys.Offset e = absurd (omega arith)
reason-known whys.Column e = absurd (omega arith)
reason-known whys.Count e = absurd (omega arith)
reason-known whys.Base64 e = absurd (omega arith)
reason-known whys.Value e = absurd (omega arith)

-- one mode alone has the number of a complete octet
pub mode-low : (m : Mode) → (m ≡ modes.Low → ⊥) → mode_in m ≡ mode.low → ⊥
mode-low modes.Start h e = absurd (omega arith)
mode-low modes.Prefix h e = absurd (omega arith)
mode-low modes.Offset h e = absurd (omega arith)
mode-low modes.Star h e = absurd (omega arith)
mode-low modes.Gap h e = absurd (omega arith)
mode-low modes.After h e = absurd (omega arith)
mode-low modes.High h e = absurd (omega arith)
mode-low modes.Low h e = h refl
mode-low modes.One h e = absurd (omega arith)
mode-low modes.More h e = absurd (omega arith)
mode-low modes.Text h e = absurd (omega arith)
mode-low modes.Closed h e = absurd (omega arith)

-- ---- a character

-- what is handed on
stopped : (r : Result (held.State × ℕ) Stop) (e : Stop) → IsErrAnd r (λ s. s ≡ e) → turn_in r ≡ turn_in (Err e)
stopped (Ok _) e h = elim h [ ]
stopped (Err s) e h = ap (λ (s : Stop). turn_in (Err s)) h

module _ (f : Style) (s : State) (x n : ℕ) (out : List ℕ) (r : Result (held.State × ℕ) Stop) where
  turned-as : {q q' : Turn} {out' : List ℕ} → q ≡ q' → Turned (take_of f s x n out) q' out' → Turned (take_of f s x n out) q out'
  turned-as e t = record { answered = e ∙ t.answered; leaves = t.leaves }

  -- the text is no dump
  pub take-refused : (w : Why) → why.number_of w ≡ (moved f x n (get_or out s.beside 0) s).why → IsErrAnd r (λ e. e ≡ stop.Bad w)
      → Turned (take_of f s x n out) (turn_in r) out
  take-refused w e h =
      turned-as (stopped r (stop.Bad w) h ∙ ap turns.Bad e)
      (take-bad f s x n out refl refl (λ z. reason-known w (e ∙ z)))

  module _ (t : held.State) (e : state_in t ≡ moved f x n (get_or out s.beside 0) s) {out' : List ℕ} where
    -- stars stand for no whole lines, or there is no room
    pub take-stopped : (k : Stop) → Filled t.before n t.upto out (reach_in (Err k)) out' → IsErrAnd r (λ e. e ≡ k)
        → Turned (take_of f s x n out) (turn_in r) out'
    take-stopped (stop.Bad w) p h = turned-as (stopped r (stop.Bad w) h) (take_no f s x n out e refl refl p refl)
    take-stopped stop.Long p h = turned-as (stopped r stop.Long h) (take_long f s x n out e refl refl p refl)

    pub take-on : {m : ℕ} {out'' : List ℕ} → Filled t.before n t.upto out (reach.To m) out' → Turned (lay_of (state_in t) m out') (turn_in r) out''
        → Turned (take_of f s x n out) (turn_in r) out''
    take-on p l = take-laid f s x n out e refl refl p refl l

-- a character that is not taken ends the reading
module _ {f : Style} {text before out : List ℕ} {s : State} {n i : ℕ} (r : Reading f text before out s n i) (h : i ≤ length text)
    {x : ℕ} (e : x ≡ get_or text i 10) {q : Result (held.State × ℕ) Stop} {out' : List ℕ} (t : Turned (take_of f s x n out) (turn_in q) out') where
  pub read-stopped : (k : Stop) (u : Unread) → q ≡ Err k → unread_in u ≡ stopped_at i k → Dumped f text before (read_in (Err u)) out'
  read-stopped (stop.Bad w) u g p = subst (λ (d : Read). Dumped f text before d out') (sym p) (read-bad r h e t (ap turn_in g))
  read-stopped stop.Long u g p = subst (λ (d : Read). Dumped f text before d out') (sym p) (read-long r h e t (ap turn_in g))

-- all characters are taken
pub record Through (f : Style) (text before out : List ℕ) (s : State) (n : ℕ) : Type 0 where
  pub at : ℕ
  pub past : length text < at
  pub reading : Reading f text before out s n at

pub through : {f : Style} {text before out out' : List ℕ} {s s' : held.State} {n n' i : ℕ} → Reading f text before out (state_in s) n i → length text < i
    → out' ≡ out → s' ≡ s → n' ≡ n → Through f text before out' (state_in s') n'
through {i = i} r h a b c = rw (a, b, c) (record { at = i; past = h; reading = r })

module _ {f : Style} {text before out : List ℕ} {s : State} {n : ℕ} (t : Through f text before out s n) where
  pub through-star : s.star ≡ true → Dumped f text before (Bad (length text) why.form) out
  through-star p = read-star t.reading t.past p

  pub through-all : s.star ≡ false → Dumped f text before (Octets n) out
  through-all p = read_done t.reading t.past p
