-- `forms::read_headed` meets its contract: the tests in order, and an outcome for each answer of the dump. Assumes nothing.
use Rattle.std.proofs.Common.{◌≡◌, refl, sym, ap, ◌∙◌, arith, ℕ, length, Option, Some, None, unwrap_or}
use Rattle.inputs.specs.Read.{read_in}
use Rattle.inputs.specs.Why as why
use Rattle.forms.specs.FormsLaws.{line-end, headed-late, headed-first, headed-missing, headed-octets, headed-stopped, dump-within}
use Rattle.forms.proofs.read_headed.Goals as goal
use Rattle.forms.proofs.read_headed.Goals.{in_default-via-in-Some+else-end-packet, in_default-via-in_default}

nowhere : (o : Option ℕ) → ((k : ℕ) → o ≡ Some k → ⊥) → (n : ℕ) → unwrap_or o n ≡ n
nowhere None h n = refl
nowhere (Some k) h n = absurd (h k refl)

pub returns-then-end-at : goal.returns-then-end-at
returns-then-end-at c =
    let a = c.args in
    let first-line = line-end _ _ _ c.begin-first.ensures.0 c.place-end.ensures.0 in
    headed-late a.at (why.number_of a.why) a.text.now _ c.place-end.result first-line c.if-end-at.true

pub back-requires : goal.back-requires
back-requires c =
    let t = c.args.text.now in
    let k = c.in-Some.packet in
    let q = dump-within k t c.in-Err.unread (omega (arith, c.in-Some.ensures.inside)) c.read.ensures (ap read_in c.in-Err.is) in
    omega (arith, c.well_formed)

pub returns-in-Ok : goal.returns-in-Ok
returns-in-Ok c =
    let a = c.args in
    let k = c.in-Some.packet in
    let first-line = line-end _ _ _ c.begin-first.ensures.0 c.place-end.ensures.0 in
    headed-octets a.at (why.number_of a.why) a.text.now _ c.place-end.result first-line k c.if-end-at.false c.in-Some.ensures.at c.if-end-packet.true
    (λ e. absurd (omega (arith, c.in-Some.ensures.inside))) c.style.ensures c.read.ensures (ap read_in c.in-Ok.is)

pub returns-in-Err : goal.returns-in-Err
returns-in-Err c =
    let a = c.args in
    let k = c.in-Some.packet in
    let first-line = line-end _ _ _ c.begin-first.ensures.0 c.place-end.ensures.0 in
    headed-stopped a.at (why.number_of a.why) a.text.now _ c.place-end.result first-line k c.if-end-at.false c.in-Some.ensures.at c.if-end-packet.true
    (λ e. absurd (omega (arith, c.in-Some.ensures.inside))) c.style.ensures c.read.ensures c.in-Err.unread c.back.result (ap read_in c.in-Err.is)
    c.back.ensures

pub returns-in_default : goal.returns-in_default
returns-in_default c =
    let a = c.args in
    let t = a.text.now in
    let end = c.place-end.result in
    let first-line = line-end _ _ _ c.begin-first.ensures.0 c.place-end.ensures.0 in
    elim c.in_default.branch [
      | in_default-via-in-Some+else-end-packet w ↦
          headed-first a.at (why.number_of a.why) t _ end first-line w.in-Some.packet c.if-end-at.false w.in-Some.ensures.at
          w.if-end-packet.false c.read_braced.ensures
      | in_default-via-in_default w ↦
          let none = sym (nowhere c.packet.result w.in_default.not-Some (length t)) ∙ c.packet.ensures.at in
          headed-missing a.at (why.number_of a.why) t _ end first-line none c.if-end-at.false c.read_braced.ensures
    ]
