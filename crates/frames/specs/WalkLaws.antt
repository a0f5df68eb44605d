-- How a walk begins, goes on and ends: the invariant of a loop over `next_block`. Assumes nothing.
use Rattle.std.specs.Prelude.{◌≡◌, refl, Bool, true, false, List, [], ◌∷◌, ◌++◌, ℕ, drop, Ok, Err}
use Rattle.std.proofs.Common.{sym, ap, ◌∙◌, append-nil, arith}
use Rattle.std.proofs.Math.Path.{subst⁻¹}
use Rattle.std.proofs.Math.Seq.{append_snoc}
use Rattle.numbers.specs.declared.Refusal.{Refusal}
use Rattle.carriers.specs.declared.Carrier.{Carrier}
use Rattle.frames.specs.declared.Step.{Step}
use Rattle.frames.specs.Frame.{Framed, fault, framed, onto, frame}
use Rattle.frames.specs.Step.{part, step_at}
use Rattle.frames.specs.Skip.{Skips}
use Rattle.frames.specs.Walk.{prepend, Walked}
use Rattle.carriers.specs.Carriers.{Apart}
use Rattle.frames.specs.Laws.{step_end, step-fault, step_block}
use Rattle.frames.specs.SkipLaws.{skips-within, skips-alike, skips-step}

-- carriers 2 to 5
pub apart-false : (j : Bool) → Apart j → j ≡ false
apart-false true a = absurd a
apart-false false a = refl

pub false-apart : {j : Bool} → j ≡ false → Apart j
false-apart e = subst⁻¹ Apart e tt

pub prepend-none : (f : Framed) → prepend [] f ≡ f
prepend-none fault = refl
prepend-none (framed cs) = refl

-- an own option's body joins the bodies before it
pub prepend-onto : (bs : List (List ℕ)) (b : List ℕ) (f : Framed) → prepend bs (onto true b f) ≡ prepend (bs ++ (b ∷ [])) f
prepend-onto bs b fault = refl
prepend-onto bs b (framed cs) = ap framed (sym (append_snoc bs b cs))

module _ (c : Carrier) (area : List ℕ) where
  pub walked_start : Walked c area 0 []
  walked_start = record { within = omega arith; frames = sym (prepend-none (frame c area)) }

  module _ {at : ℕ} {bs : List (List ℕ)} (w : Walked c area at bs) where
    pub walked_block : {start end : ℕ} → step_at c area at ≡ Ok (Step.Block start end) → Walked c area end (bs ++ (part start end area ∷ []))
    walked_block {start} {end} e =
        let m = step_block c area at e in
        record { within = m.2; frames = w.frames ∙ ap (prepend bs) m.3 ∙ prepend-onto bs (part start end area) (frame c (drop end area)) }

    pub walked-skips : {to : ℕ} → Skips c area at to → Walked c area to bs
    walked-skips s = record { within = skips-within s; frames = w.frames ∙ ap (prepend bs) (skips-alike s) }

    pub walked-skipped : {end : ℕ} → step_at c area at ≡ Ok (Step.Skipped end) → Walked c area end bs
    walked-skipped e = walked-skips (skips-step c area at e)

    pub walked_end : step_at c area at ≡ Ok Step.End → frame c area ≡ framed bs
    walked_end e = w.frames ∙ ap (prepend bs) (step_end c area at e) ∙ ap framed (append-nil bs)

    pub walked-fault : {r : Refusal} → step_at c area at ≡ Err r → frame c area ≡ fault
    walked-fault e = w.frames ∙ ap (prepend bs) (step-fault c area at e w.within)
