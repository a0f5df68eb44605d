-- `hexes::count` meets its contract. The loop's invariant: the octets counted, with those of what is left, decide. Assumes nothing.
use Rattle.std.proofs.Common.{sym, ◌∙◌, ap, not}
use borrow.Author.Tests.{not-true, not-false}
use Rattle.hexes.specs.Turns.{count-separator, count-pair, count-single, count-first, count-second, count-done}
use Rattle.hexes.proofs.count.Goals as goal

pub loop-rest-preserved-then-is_separator : goal.loop-rest-preserved-then-is_separator
loop-rest-preserved-then-is_separator c =
    count-separator _ c.loop-rest.invariant c.in-len1-up.len_at_least (sym c.is_separator.ensures ∙ c.if-is_separator.true)

pub returns-in_default-rest : goal.returns-in_default-rest
returns-in_default-rest c =
    count-single c.loop-rest.invariant c.in-len1-up.len_at_least c.in_default-rest.len_below (sym c.is_separator.ensures ∙ c.if-is_separator.false)

pub returns-then-not-is_digit : goal.returns-then-not-is_digit
returns-then-not-is_digit c =
    count-first _ c.in-len1-up.len_at_least c.in-len1-up-rest.len_at_least c.loop-rest.invariant (sym c.is_separator.ensures ∙ c.if-is_separator.false)
    (sym c.is_digit.ensures ∙ not-true _ (ap not c.if-not-is_digit.true))

pub returns-then-not-is_digit-2 : goal.returns-then-not-is_digit-2
returns-then-not-is_digit-2 c =
    count-second _ c.in-len1-up.len_at_least c.in-len1-up-rest.len_at_least c.loop-rest.invariant (sym c.is_separator.ensures ∙ c.if-is_separator.false)
    (sym c.is_digit.ensures ∙ not-false _ (ap not c.if-not-is_digit.false))
    (sym c.is_digit-in-len1-up.ensures ∙ not-true _ (ap not c.if-not-is_digit-2.true))

pub loop-rest-preserved : goal.loop-rest-preserved
loop-rest-preserved c =
    count-pair _ c.in-len1-up.len_at_least c.in-len1-up-rest.len_at_least c.loop-rest.invariant (sym c.is_separator.ensures ∙ c.if-is_separator.false)
    (sym c.is_digit.ensures ∙ not-false _ (ap not c.if-not-is_digit.false))
    (sym c.is_digit-in-len1-up.ensures ∙ not-false _ (ap not c.if-not-is_digit-2.false))

pub returns : goal.returns
returns c = c.then_some.ensures ∙ count-done c.loop-rest.invariant c.in_default.len_below
