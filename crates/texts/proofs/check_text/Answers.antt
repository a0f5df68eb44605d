-- `texts::check_text` meets its contract: the first octet is looked at by itself. Assumes nothing.
use Rattle.std.proofs.Common.{arith, List, ℕ, ap, not}
use Rattle.names.specs.AnsweredLaws.{told}
use Rattle.texts.specs.Outcomes.{no-octet, first-other, by_first}
use Rattle.texts.specs.Right.{right}
use borrow.Author.Tests.{not-true, not-false}
use Rattle.texts.proofs.check_text.Goals as goal

pub returns-in_default : goal.returns-in_default
returns-in_default c = let e = no-octet c.args.s.now (omega arith) in record { value = e; right = right _ _ e }

pub returns-then-not-is_alnum : goal.returns-then-not-is_alnum
returns-then-not-is_alnum c =
    let s : List ℕ = c.args.s.now in
    let e = first-other s (λ e. omega arith) (told c.is_alnum.ensures (not-true _ (ap not c.if-not-is_alnum.true))) in
    record { value = e; right = right _ _ e }

pub returns : goal.returns
returns c =
    let e =
    by_first
    c.args.s.now
    c.min-n.result
    (λ e. omega arith)
    (told c.is_alnum.ensures (not-false _ (ap not c.if-not-is_alnum.false)))
    c.min-n.ensures
    c.after_letter.ensures
    c.name_of.ensures in
    record { value = e; right = right _ _ e }
