-- A list's groups of more than two digits: what their state rules out. Assumes nothing.
use Rattle.std.specs.Prelude.{◌≡◌, refl, Bool, true, false, cond, ◌||◌, ⊤, ℕ, eqb, ltb, Result, Ok, Err}
use Rattle.std.specs.Result.{IsErrAnd}
use Rattle.std.proofs.Common.{sym, ap, subst, ◌∙◌, arith, eqb-true}
use Rattle.std.proofs.lemmas.Bool.{false≢true, eqb-false}
use Rattle.inputs.specs.declared.Why.{Why}
use Rattle.inputs.specs.declared.Why.TheVariants as whys
use Rattle.inputs.specs.Why as why
use Rattle.groups.specs.declared.Kind.{Kind}
use Rattle.groups.specs.State.{State}
use Rattle.groups.specs.declared.state.State as held
use Rattle.groups.specs.States.{state, but, ended, completed, ended_one, allowed, close, mark}
use Rattle.groups.specs.StatesLaws.{close-none, close-front, close-one, close-odd, close-even}
use Rattle.groups.specs.Held.{Moved, led}

-- a reason is never the number that stands for none
pub reason-known : (w : Why) → why.number_of w ≡ 0 → ⊥
reason-known whys.Form e = absurd (omega arith)
reason-known whys.Groups e = absurd (omega arith)
reason-known whys.Offset e = absurd (omega arith)
reason-known whys.Column e = absurd (omega arith)
reason-known whys.Count e = absurd (omega arith)
reason-known whys.Base64 e = absurd (omega arith)
reason-known whys.Value e = absurd (omega arith)

-- a group of more than two digits stands alone, and the kind has such
abbrev pub Alone : Kind → State → Type 0
Alone f s = s.wide ≡ true → (s.several ≡ false) × (f.lines || f.whole ≡ true)

module _ (f : Kind) (s : State) (a : Alone f s) where
  -- then a list that is refused is refused for the same reason at the group's end
  pub allowed-form : allowed f (but why.form s) ≡ but why.form s
  allowed-form = go s.wide refl s.several refl f.lines refl f.whole refl
    where
      go : (w : Bool) → s.wide ≡ w → (v : Bool) → s.several ≡ v → (l : Bool) → f.lines ≡ l → (h : Bool) → f.whole ≡ h
          → cond w (cond v (but why.groups (but why.form s)) (cond l (but why.form s) (cond h (but why.form s) (but why.groups (but why.form s))))) (but why.form s)
          ≡ but why.form s
      go false p v q l r h t = refl
      go true p true q l r h t = absurd (false≢true (sym (a p).0 ∙ q))
      go true p false q true r h t = refl
      go true p false q false r true t = refl
      go true p false q false r false t = absurd (false≢true (sym (ap (λ (b : Bool). b || f.whole) r ∙ t) ∙ (a p).1))

-- where a list stands at a group's end: as before, or at a fault of form, or after the group
data Closed (s : State) : State → Type 0 where
  kept : (t : State) → t ≡ s → Closed s t
  formed : (t : State) → t ≡ but why.form s → Closed s t
  after : (t : State) → t.after ≡ true → Closed s t

allowed-after : (f : Kind) (t : State) → t.after ≡ true → (allowed f t).after ≡ true
allowed-after f t e = go t.wide t.several f.lines f.whole
  where
    go : (w v l h : Bool) → (cond w (cond v (but why.groups t) (cond l t (cond h t (but why.groups t)))) t).after ≡ true
    go false v l h = e
    go true true l h = e
    go true false true h = e
    go true false false true = e
    go true false false false = e

module _ (f : Kind) (s : State) (a : Alone f s) where
  closed : Closed s (close f s)
  closed = go (eqb s.digits 0) refl (eqb s.front 0) refl (eqb s.digits 1) refl f.single refl (eqb s.digits 3) refl
    where
      one : (d : Bool) → f.single ≡ d → Closed s (allowed f (ended_one f s))
      one true q = after _ (rw q (allowed-after f (ended false (completed s)) refl))
      one false q = formed _ (rw q (allowed-form f s a))

      go : (b : Bool) → eqb s.digits 0 ≡ b → (c : Bool) → eqb s.front 0 ≡ c → (d : Bool) → eqb s.digits 1 ≡ d → (e : Bool) → f.single ≡ e
          → (o : Bool) → eqb s.digits 3 ≡ o → Closed s (close f s)
      go true p true q d r e t o u = kept _ (sym (close-none f s (eqb-true s.digits 0 p) (eqb-true s.front 0 q)))
      go true p false q d r e t o u = formed _ (sym (close-front f s (eqb-true s.digits 0 p) (eqb-false s.front 0 q)))
      go false p c q true r e t o u = subst (Closed s) (close-one f s (eqb-true s.digits 1 r)) (one e t)
      go false p c q false r e t true u = formed _ (sym (close-odd f s (eqb-true s.digits 3 u)))
      go false p c q false r e t false u =
          subst (Closed s) (close-even f s (eqb-false s.digits 0 p) (eqb-false s.digits 1 r) (eqb-false s.digits 3 u))
          (after _ (allowed-after f (ended (ltb 2 s.digits) s) refl))

  -- a list that is refused at a group's end is refused for the same reason at a mark after it
  pub mark-kept : (w : ℕ) → (w ≡ 0 → ⊥) → s.why ≡ 0 → w ≡ (close f s).why → w ≡ (mark (close f s)).why
  mark-kept w n z = go (close f s) closed
    where
      go : (t : State) → Closed s t → w ≡ t.why → w ≡ (mark t).why
      go _ (kept t e) p = absurd (n (p ∙ ap (λ (u : State). u.why) e ∙ z))
      go _ (formed t e) p = rw e (by s.after (p ∙ ap (λ (u : State). u.why) e))
        where
          by : (b : Bool) → w ≡ why.form → w ≡ (cond b (state s.front s.digits s.octet s.complete false s.some s.several s.wide why.form) (but why.form (but why.form s))).why
          by true q = q
          by false q = q
      go _ (after t e) p = rw e p

-- what is handed on
pub refused : (f : Kind) (r : Result held.State Why) (w : Why) (s : State) → IsErrAnd r (λ e. e ≡ w) → why.number_of w ≡ s.why → Moved f r s
refused f (Ok t) w s h p = elim h [ ]
refused f (Err e) w s h p = ap why.number_of h ∙ p

pub refused-led : (f : Kind) (t : held.State) (r : Result ⊤ Why) (w : Why) (s : State) → IsErrAnd r (λ e. e ≡ w) → why.number_of w ≡ s.why → Moved f (led t r) s
refused-led f t (Ok u) w s h p = refused f (Ok t) w s h p
refused-led f t (Err e) w s h p = refused f (Err e) w s h p
