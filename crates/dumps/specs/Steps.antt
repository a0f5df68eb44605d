-- What follows from a text being read as octets, for one character of it: the state that it moves to, and the octets then. Assumes nothing.
use Rattle.std.specs.Prelude.{◌≡◌, refl, Bool, true, false, List, ◌∷◌, ℕ, ◌+◌, ◌-◌, ◌%◌, ◌≤◌, ◌<◌, ltb, leb, eqb, length, get_or, set, take}
use Rattle.std.proofs.Common.{sym, ap, subst, ◌∙◌, arith, leb-true, leb-false, ltb-true, ltb-false, eqb-true}
use Rattle.std.proofs.lemmas.Bool.{eqb-false}
use Rattle.inputs.specs.Read.{Octets, Bad, Long}
use Rattle.dumps.specs.declared.Style.{Style}
use Rattle.dumps.specs.Turn.{Turn}
use Rattle.dumps.specs.Turn as turns
use Rattle.dumps.specs.State.{State}
use Rattle.dumps.specs.Mode as mode
use Rattle.dumps.specs.States.{moved}
use Rattle.dumps.specs.Dumps.{repeated_of, take_of, Turned, Ended, read_from}
use Rattle.dumps.specs.DumpsLaws.{fill_none, fill-early, fill-part, fill-long, fill-whole, lay-none, lay-long, lay-one}
use Rattle.dumps.specs.DumpsLaws.{take-bad, take-laid, take_no, take_long, from-go, from-bad, from-long}

-- a reading ended with m octets, which are bs
pub record Result (d : Ended) (m : ℕ) (bs : List ℕ) : Type 0 where
  pub is : d.read ≡ Octets m
  pub octets : take m d.out ≡ bs

module _ (f : Style) (s : State) (x n size i : ℕ) (out xs : List ℕ) (m : ℕ) (bs : List ℕ) (r : Result (read_from f s n size i out (x ∷ xs)) m bs) where
  module _ {q : Turn} {out' : List ℕ} (t : Turned (take_of f s x n out) q out') where
    goes_on : {u : State} {k : ℕ} → q ≡ turns.Go u k → Result (read_from f u k size (i + 1) out' xs) m bs
    goes_on {u} {k} g =
        subst (λ (d : Ended). Result d m bs)
        (from-go f s x n size i out xs u k (sym t.answered ∙ g) ∙ ap (λ (o : List ℕ). read_from f u k size (i + 1) o xs) (sym t.leaves))
        r

    not-bad : {w : ℕ} → q ≡ turns.Bad w → ⊥
    not-bad {w} g =
        let e : Bad i w ≡ Octets m = sym (ap (λ (d : Ended). d.read) (from-bad f s x n size i out xs w (sym t.answered ∙ g))) ∙ r.is in
        let z : ◌≡◌ {A = ℕ} 0 1 = cc in
        absurd (omega arith)

    not-long : q ≡ turns.Long → ⊥
    not-long g =
        let e : Long ≡ Octets m = sym (ap (λ (d : Ended). d.read) (from-long f s x n size i out xs (sym t.answered ∙ g))) ∙ r.is in
        let z : ◌≡◌ {A = ℕ} 0 1 = cc in
        absurd (omega arith)

  module _ (t : State) (e : t ≡ moved f x n (get_or out s.beside 0) s) where
    pub step-bad : (t.why ≡ 0 → ⊥) → ⊥
    step-bad h = not-bad (take-bad f s x n out e refl h) refl

    module _ (h : t.why ≡ 0) where
      -- nothing is to be filled, and no octet is complete
      pub step-on : t.upto ≤ n → (t.mode ≡ mode.low → ⊥) → Result (read_from f t n size (i + 1) out xs) m bs
      step-on l k = goes_on (take-laid f s x n out e refl h (fill_none t.before n t.upto out l) refl (lay-none t n out k)) refl

      -- an octet is complete
      pub step-octet : t.upto ≤ n → t.mode ≡ mode.low → (n < length out) × Result (read_from f t (n + 1) size (i + 1) (set out n t.octet) xs) m bs
      step-octet l k = go (leb (length out) n) refl
        where
          go : (b : Bool) → leb (length out) n ≡ b → (n < length out) × Result (read_from f t (n + 1) size (i + 1) (set out n t.octet) xs) m bs
          go true p =
              absurd
              (not-long
              (take-laid f s x n out e refl h (fill_none t.before n t.upto out l) refl (lay-long t n out k (leb-true (length out) n p)))
              refl)
          go false p =
              let j : n < length out = leb-false (length out) n p in
              (j, goes_on (take-laid f s x n out e refl h (fill_none t.before n t.upto out l) refl (lay-one t n out k j)) refl)

      -- stars stand for whole lines
      pub record Fills : Type 0 where
        pub early : t.before < n
        pub whole : (t.upto - n) % (n - t.before) ≡ 0
        pub room : t.upto ≤ length out
        pub result : Result (read_from f t t.upto size (i + 1) (repeated_of (t.upto - n) t.before n out) xs) m bs

      pub step-fill : n < t.upto → (t.mode ≡ mode.low → ⊥) → Fills
      step-fill l k = go (leb n t.before) refl (eqb ((t.upto - n) % (n - t.before)) 0) refl (ltb (length out) t.upto) refl
        where
          go : (a : Bool) → leb n t.before ≡ a → (b : Bool) → eqb ((t.upto - n) % (n - t.before)) 0 ≡ b
              → (c : Bool) → ltb (length out) t.upto ≡ c → Fills
          go true p b q c u =
              absurd (not-bad (take_no f s x n out e refl h (fill-early t.before n t.upto out l (leb-true n t.before p)) refl) refl)
          go false p false q c u =
              let j = leb-false n t.before p in
              let d = eqb-false ((t.upto - n) % (n - t.before)) 0 q in
              absurd (not-bad (take_no f s x n out e refl h (fill-part t.before n t.upto out l j d) refl) refl)
          go false p true q true u =
              let j = leb-false n t.before p in
              let d = eqb-true ((t.upto - n) % (n - t.before)) 0 q in
              absurd
              (not-long (take_long f s x n out e refl h (fill-long t.before n t.upto out l j d (ltb-true (length out) t.upto u)) refl) refl)
          go false p true q false u =
              let j = leb-false n t.before p in
              let d = eqb-true ((t.upto - n) % (n - t.before)) 0 q in
              let v = ltb-false (length out) t.upto u in
              record {
                early = j;
                whole = d;
                room = v;
                result = goes_on
                    (take-laid f s x n out e refl h (fill-whole t.before n t.upto out l j d v refl) refl
                    (lay-none t t.upto (repeated_of (t.upto - n) t.before n out) k))
                    refl;
              }
