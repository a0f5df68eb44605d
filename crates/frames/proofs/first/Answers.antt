-- `frames::first` meets its contract: each return is one of the laws of `or_mark`, and so has its number. Assumes nothing.
use Rattle.std.proofs.Common.{◌≡◌, sym, ap, ◌∙◌, arith, get_or, true}
use Rattle.std.proofs.lemmas.Bool.{false≢true}
use Rattle.carriers.specs.declared.Facts.{Facts}
use Rattle.carriers.specs.Carriers.{is_joined}
use Rattle.frames.specs.Frame.{head_in}
use Rattle.frames.specs.HeadLaws.{mark-pad, mark-end, mark-other}
use Rattle.frames.specs.ToldLaws.{first-exactly}
use Rattle.frames.proofs.first.Goals.{then-f+else-code-eq-PAD+else-code, else-f}
use Rattle.frames.proofs.first.Goals as goal

pub returns-then-code-eq-PAD : goal.returns-then-code-eq-PAD
returns-then-code-eq-PAD c =
    let joined : is_joined c.args.c ≡ c.facts-f.result.joined = sym (ap (λ (f : Facts). f.joined) c.facts-f.ensures) in
    let a = c.args in
    let e = sym (mark-pad (get_or a.s.now 0 0) (head_in a.c a.s.now) (is_joined a.c) (joined ∙ c.if-f.true) (omega arith)) in
    record { value = e; variant = first-exactly a.c a.s.now _ e }

pub returns-then-code : goal.returns-then-code
returns-then-code c =
    let joined : is_joined c.args.c ≡ c.facts-f.result.joined = sym (ap (λ (f : Facts). f.joined) c.facts-f.ensures) in
    let a = c.args in
    let e = sym (mark-end (get_or a.s.now 0 0) (head_in a.c a.s.now) (is_joined a.c) (joined ∙ c.if-f.true) (omega arith)) in
    record { value = e; variant = first-exactly a.c a.s.now _ e }

pub returns : goal.returns
returns c =
    let joined : is_joined c.args.c ≡ c.facts-f.result.joined = sym (ap (λ (f : Facts). f.joined) c.facts-f.ensures) in
    let a = c.args in
    let other : is_joined a.c ≡ true → (get_or a.s.now 0 0 ≡ 0 → ⊥) × (get_or a.s.now 0 0 ≡ 255 → ⊥) =
    elim c.if-f.branch [
      | then-f+else-code-eq-PAD+else-code w ↦ λ _. (w.if-code-eq-PAD.false, w.if-code.false)
      | else-f w ↦ λ j. absurd (false≢true (sym (joined ∙ w.if-f.false) ∙ j))
    ] in
    let e = c.head_in.ensures.value ∙ sym (mark-other (get_or a.s.now 0 0) (head_in a.c a.s.now) (is_joined a.c) other) in
    record { value = e; variant = first-exactly a.c a.s.now _ e }
