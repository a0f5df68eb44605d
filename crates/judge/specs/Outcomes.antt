-- What the definitions say on each way through the code: one lemma for each return. Assumes nothing.
use Rattle.std.specs.Prelude.{◌≡◌, Bool, true, false, List, ℕ, ◌/◌, ◌%◌, ◌≤◌, ◌<◌, length, Ok, Err}
use Rattle.std.proofs.Math.Path.{sym}
use Rattle.std.proofs.Common.{◌∙◌}
use borrow.Author.Tests.{eq-eqb, ne_eqb, lt-ltb, le-ltb}
use Rattle.numbers.specs.Fault as fault
use Rattle.numbers.specs.Limit as limit
use Rattle.carriers.specs.declared.Carrier.{Carrier}
use Rattle.carriers.specs.Carriers.{address_width, as_text}
use Rattle.names.specs.Automaton.{Checked}
use Rattle.names.specs.Wire.{name_check}
use Rattle.texts.specs.TextCheck.{text_check}
use Rattle.addresses.specs.Addresses.{list_of, any_of, none_of}
use Rattle.svcparams.specs.Params.{params_fault}
use Rattle.judge.specs.declared.Side.{Side}
use Rattle.judge.specs.declared.Side.TheVariants.{Reading, Writing}
use Rattle.judge.specs.Place.{judged}
use Rattle.judge.specs.Judge.{name_of, refused_of, tail_fault, name_only_fault, judged_of}

module _ (side : Side) (c : Carrier) (name : List ℕ) (r : Checked) where
  pub name-written : side ≡ Writing → r ≡ name_check name → r ≡ name_of side c name
  name-written e q = rw e q

  pub name-text : side ≡ Reading → as_text c ≡ true → r ≡ text_check name → r ≡ name_of side c name
  name-text e t q = rw (e, t) q

  pub name-wire : side ≡ Reading → as_text c ≡ false → r ≡ name_check name → r ≡ name_of side c name
  name-wire e t q = rw (e, t) q

module _ (side : Side) (w : ℕ) (l : List (List ℕ)) where
  pub refused-reading : (b : Bool) → side ≡ Reading → b ≡ none_of w l → b ≡ refused_of side w l
  refused-reading b e q = rw e q

  pub refused-writing : (b : Bool) → side ≡ Writing → b ≡ any_of w l → b ≡ refused_of side w l
  refused-writing b e q = rw e q

module _ (side : Side) (w : ℕ) (a p : List ℕ) where
  pub tail_none : length a ≡ 0 → fault.addresses ≡ tail_fault side w a p
  unfolding tail_fault
  tail_none e = simp (eq-eqb _ _ e)

  pub tail-odd : (length a ≡ 0 → ⊥) → (length a % w ≡ 0 → ⊥) → fault.addresses ≡ tail_fault side w a p
  unfolding tail_fault
  tail-odd e m = simp (ne_eqb _ _ e, ne_eqb _ _ m)

  module _ (e : length a ≡ 0 → ⊥) (m : length a % w ≡ 0) where
    pub tail-many : limit.addresses < length a / w → fault.limit ≡ tail_fault side w a p
    unfolding tail_fault
    tail-many h = simp (ne_eqb _ _ e, eq-eqb _ _ m, lt-ltb _ _ h)

    module _ (h : length a / w ≤ limit.addresses) where
      pub tail-long : limit.parameters < length p → fault.limit ≡ tail_fault side w a p
      unfolding tail_fault
      tail-long k = simp (ne_eqb _ _ e, eq-eqb _ _ m, le-ltb _ _ h, lt-ltb _ _ k)

      module _ (k : length p ≤ limit.parameters) (b : Bool) (q : b ≡ refused_of side w (list_of w a)) where
        pub tail-dropped : b ≡ true → fault.dropped ≡ tail_fault side w a p
        unfolding tail_fault
        tail-dropped t = simp (ne_eqb _ _ e, eq-eqb _ _ m, le-ltb _ _ h, le-ltb _ _ k, sym q ∙ t)

        pub tail-parameters : (r : ℕ) → b ≡ false → r ≡ params_fault p → r ≡ tail_fault side w a p
        unfolding tail_fault
        tail-parameters r t s = simp (ne_eqb _ _ e, eq-eqb _ _ m, le-ltb _ _ h, le-ltb _ _ k, sym q ∙ t) s

module _ (side : Side) (c : Carrier) (priority : ℕ) (name : List ℕ) (full : Bool) (a p : List ℕ) where
  pub judged-priority : priority ≡ 0 → judged fault.priority 0 ≡ judged_of side c priority name full a p
  unfolding judged_of
  judged-priority e = simp (eq-eqb _ _ e)

  module _ (e : priority ≡ 0 → ⊥) where
    pub judged-full : (k : ℕ) → Ok tt ≡ name_of side c name → full ≡ true → k ≡ tail_fault side (address_width c) a p
        → judged k 0 ≡ judged_of side c priority name full a p
    unfolding judged_of
    judged-full k n f q = simp (ne_eqb _ _ e, sym n, f, sym q)

    pub judged-name-only : (k : ℕ) → Ok tt ≡ name_of side c name → full ≡ false → k ≡ name_only_fault c
        → judged k 0 ≡ judged_of side c priority name full a p
    unfolding judged_of
    judged-name-only k n f q = simp (ne_eqb _ _ e, sym n, f, sym q)
