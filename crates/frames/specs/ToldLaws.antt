-- What the numbers of the answers say of an area, and that a number with its bodies is a framing. Assumes nothing.
use Rattle.std.specs.Prelude.{◌≡◌, refl, ◌↔◌, Bool, true, false, List, [], ◌∷◌, ℕ, ◌≤◌, ◌<◌, ltb, eqb, length, get_or, drop, Result, Ok, Err}
use Rattle.std.proofs.Common.{sym, ap, ◌∙◌, inl, inr, ⊎_elim, arith, ltb-true, ltb-false, eqb-true}
use Rattle.std.proofs.lemmas.Bool.{false≢true}
use Rattle.numbers.specs.Refusal as refusal
use Rattle.numbers.specs.declared.Refusal.{Refusal}
use Rattle.numbers.specs.declared.Refusal.TheVariants.{Framing}
use Rattle.carriers.specs.declared.Carrier.{Carrier}
use Rattle.carriers.specs.Carriers.{header_of, is_joined}
use Rattle.frames.specs.declared.Head.{Head}
use Rattle.frames.specs.declared.Step.{Step}
use Rattle.frames.specs.Frame.{size_in, head_in, first_of, Framed, fault, framed, framed_number, onto, frame}
use Rattle.frames.specs.Step.{part, step_at}
use Rattle.frames.specs.Walk.{prepend}
use Rattle.frames.specs.Told.{FramedTo, NoHeader, NothingFirst, StepSays}
use Rattle.frames.specs.HeadLaws.{head-short, head-none, mark-pad, mark-end, mark-other}
use Rattle.frames.specs.Laws.{frame-none, step_end, step-fault, step-framing, step-skipped, step_block}
use Rattle.frames.specs.WalkLaws.{prepend-none}

-- ---- an area

pub number-framed : (f : Framed) {bs : List (List ℕ)} → FramedTo 0 bs f → f ≡ framed bs
number-framed fault e = absurd (omega (arith, e.0))
number-framed (framed bs) e = ap framed e.1

-- a refusal's number is never 0
pub refusal-some : (r : Refusal) → 0 < refusal.number_of r
refusal-some Refusal.Carrier = omega arith
refusal-some Refusal.Input = omega arith
refusal-some Refusal.Framing = omega arith
refusal-some Refusal.Records = omega arith
refusal-some Refusal.Room = omega arith
refusal-some Refusal.Sheet = omega arith
refusal-some Refusal.Version = omega arith
refusal-some Refusal.SheetCarrier = omega arith
refusal-some Refusal.Tiling = omega arith
refusal-some Refusal.Large = omega arith

-- what is refused is what cannot be framed
pub refused-fault : (f : Framed) (r : Refusal) → refusal.number_of r ≡ framed_number f → (f ≡ fault) × (refusal.number_of r ≡ refusal.framing)
refused-fault fault r e = (refl, e)
refused-fault (framed bs) r e = absurd (omega (arith, refusal-some r, e))

-- ---- a header

module _ (c : Carrier) (s : List ℕ) where
  no_header : NoHeader c s → head_in c s ≡ Err Framing
  no_header n = go (ltb (length s) (header_of c)) refl
    where
      go : (b : Bool) → ltb (length s) (header_of c) ≡ b → head_in c s ≡ Err Framing
      go true t = head-short c s (ltb-true _ _ t)
      go false t = ⊎_elim (head-short c s) (head-none c s (ltb-false _ _ t)) n

  header-none : refusal.number_in (head_in c s) ≡ refusal.framing → NoHeader c s
  header-none = go (ltb (length s) (header_of c)) (eqb (size_in c s) 0) refl refl
    where
      go : (a b : Bool) → ltb (length s) (header_of c) ≡ a → eqb (size_in c s) 0 ≡ b → refusal.number_in (head_in c s) ≡ refusal.framing → NoHeader c s
      go true b t u e = inl (ltb-true _ _ t)
      go false true t u e = inr (eqb-true _ _ u)
      go false false t u e = absurd (omega (arith, rw (t, u) at e))

  pub head-exactly : (r : Result Head Refusal) → r ≡ head_in c s → (refusal.number_in r ≡ refusal.framing) ↔ NoHeader c s
  head-exactly r e = (λ n. header-none (sym (ap refusal.number_in e) ∙ n), λ n. ap refusal.number_in (e ∙ no_header n))

  first-none : refusal.number_in (first_of c s) ≡ refusal.framing → NothingFirst c s
  first-none n = go (is_joined c) refl
    where
      unmarked : (is_joined c ≡ true → (get_or s 0 0 ≡ 0 → ⊥) × (get_or s 0 0 ≡ 255 → ⊥)) → NothingFirst c s
      unmarked o = (o, header-none (sym (ap refusal.number_in (mark-other (get_or s 0 0) (head_in c s) (is_joined c) o)) ∙ n))

      go : (j : Bool) → is_joined c ≡ j → NothingFirst c s
      go false j = unmarked (λ i. absurd (false≢true (sym j ∙ i)))
      go true j =
          unmarked (λ _. (
            λ z. omega (arith, n, ap refusal.number_in (mark-pad (get_or s 0 0) (head_in c s) (is_joined c) j z)),
            λ z. omega (arith, n, ap refusal.number_in (mark-end (get_or s 0 0) (head_in c s) (is_joined c) j z)),
          ))

  pub first-exactly : (r : Result Head Refusal) → r ≡ first_of c s → (refusal.number_in r ≡ refusal.framing) ↔ NothingFirst c s
  first-exactly r e =
      (λ n. first-none (sym (ap refusal.number_in e) ∙ n), λ n. ap refusal.number_in (e ∙ mark-other (get_or s 0 0) (head_in c s) (is_joined c) n.0 ∙ no_header n.1))

-- ---- a step

pub step-says : (c : Carrier) (area : List ℕ) (at : ℕ) (r : Result Step Refusal) → at ≤ length area → r ≡ step_at c area at → StepSays c area at r
step-says c area at (Ok (Step.Block start end)) h e =
    record { broken = λ n. absurd (omega arith); whole = λ _. (step_block c area at (sym e)).3 ∙ one (frame c (drop end area)) }
  where
    one : (f : Framed) → onto true (part start end area) f ≡ prepend (part start end area ∷ []) f
    one fault = refl
    one (framed bs) = refl
step-says c area at (Ok (Step.Skipped end)) h e =
    record { broken = λ n. absurd (omega arith); whole = λ _. (step-skipped c area at (sym e)).2 ∙ sym (prepend-none (frame c (drop end area))) }
step-says c area at (Ok Step.End) h e =
    record { broken = λ n. absurd (omega arith); whole = λ _. step_end c area at (sym e) ∙ sym (ap (prepend []) (frame-none c)) }
step-says c area at (Err r) h e =
    record {
      broken = λ _. ap framed_number (step-fault c area at (sym e) h);
      whole = λ n. absurd (omega (arith, n, ap refusal.number_of (step-framing c area at (sym e))));
    }
