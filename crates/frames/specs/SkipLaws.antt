-- How foreign options are passed over: none at first, then one whole option after another. Assumes nothing.
use Rattle.std.specs.Prelude.{◌≡◌, refl, Bool, false, List, ℕ, ◌+◌, ◌-◌, ◌≤◌, length, get_or, take, drop, Ok}
use Rattle.std.proofs.Common.{sym, ap, ap₂, ◌∙◌, arith, length-drop, ne_eqb}
use Rattle.octets.specs.Numbers.{number_at}
use Rattle.octets.specs.ListsLaws.{take_rest}
use Rattle.carriers.specs.declared.Carrier.{Carrier}
use Rattle.carriers.specs.Carriers.{code_of, header_of, bare_code, octets}
use Rattle.frames.specs.declared.Head.{Head}
use Rattle.frames.specs.declared.Step.{Step}
use Rattle.frames.specs.Frame.{code_in, size_in, head_in, or_mark, first_of, frame}
use Rattle.frames.specs.Step.{head_at, step_at}
use Rattle.frames.specs.Skip.{Wide, Skips, none, more, Passes}
use Rattle.frames.specs.HeadLaws.{head-option}
use Rattle.frames.specs.Laws.{step-first, step-skipped, option-fits}

-- a whole option at an index, as the code finds it: its header is all there, its code is another, and its body does not run past the end
pub record Foreign (code : ℕ) (reserved : Bool) (area : List ℕ) (at n : ℕ) : Type 0 where
  pub header : 4 ≤ length area - at
  pub other : bare_code reserved (number_at 2 0 (take (length area - at) (drop at area))) ≡ code → ⊥
  pub says : n ≡ number_at 2 2 (take (length area - at) (drop at area))
  pub whole : n ≤ length area - (at + 4)

module _ {code : ℕ} {reserved : Bool} {area : List ℕ} {at n : ℕ} (f : Foreign code reserved area at n) {c : Carrier} (w : Wide code reserved c) where
  other_at : code_in c (drop at area) ≡ code_of c → ⊥
  other_at e = f.other (rw (take_rest at area, ← w.width, ← w.reserved_is, ← w.code_is) e)

  size-at : size_in c (drop at area) ≡ 4 + n
  size-at = rw (w.width, w.octets) (ap (λ (k : ℕ). 4 + k) (ap (number_at 2 2) (sym (take_rest at area)) ∙ sym f.says))

  head_at_lem : first_of c (drop at area) ≡ Ok (Head.Option false (octets (4 + n)))
  head_at_lem =
      let room : header_of c ≤ length (drop at area) = omega (arith, w.width, f.header, length-drop at area) in
      let size = size-at in
      ap (λ (j : Bool). or_mark j (get_or (drop at area) 0 0) (head_in c (drop at area))) w.apart
      ∙ head-option c (drop at area) room (λ z. omega arith)
      ∙ ap₂ (λ (b : Bool) (k : ℕ). Ok (Head.Option b (octets k))) (ne_eqb _ _ other_at) size

  foreign-step : step_at c area at ≡ Ok (Step.Skipped (at + 4 + n))
  foreign-step =
      let end : at + (4 + n) ≡ at + 4 + n = omega arith in
      step-first c area at (omega (arith, f.header))
      ∙ ap (head_at c (length area - at) at) head_at_lem
      ∙ option-fits c (length area - at) at false (4 + n) (omega (arith, f.header, f.whole))
      ∙ ap (λ (k : ℕ). Ok (Step.Skipped k)) end

-- ---- a run of options

module _ {c : Carrier} {area : List ℕ} {from : ℕ} where
  pub skips-forward : {to : ℕ} → Skips c area from to → from ≤ to
  skips-forward (none h) = omega arith
  skips-forward (more {at} s e) = omega (arith, skips-forward s, (step-skipped c area at e).0)

  pub skips-within : {to : ℕ} → Skips c area from to → to ≤ length area
  skips-within (none h) = h
  skips-within (more {at} s e) = (step-skipped c area at e).1

  -- the area is framed alike from both indices
  pub skips-alike : {to : ℕ} → Skips c area from to → frame c (drop from area) ≡ frame c (drop to area)
  skips-alike (none h) = refl
  skips-alike (more {at} s e) = skips-alike s ∙ (step-skipped c area at e).2

  pub skips-then : {at to : ℕ} → Skips c area from at → Skips c area at to → Skips c area from to
  skips-then s (none h) = s
  skips-then s (more t e) = more (skips-then s t) e

-- a step over an option that is not the carrier's own
pub skips-step : (c : Carrier) (area : List ℕ) (at : ℕ) {end : ℕ} → step_at c area at ≡ Ok (Step.Skipped end) → Skips c area at end
skips-step c area at e = let m = step-skipped c area at e in more (none (omega (arith, m.0, m.1))) e

module _ {code : ℕ} {reserved : Bool} {area : List ℕ} {from : ℕ} where
  pub passes_none : from ≤ length area → Passes code reserved area from from
  passes_none h = record { within = h; skips = λ w. none h }

  pub passes-more : {at n : ℕ} → Passes code reserved area from at → Foreign code reserved area at n → Passes code reserved area from (at + 4 + n)
  passes-more {at} {n} g f = record {
    within = omega (arith, f.header, f.whole);
    skips = λ w. more (g.skips w) (foreign-step f w);
  }
