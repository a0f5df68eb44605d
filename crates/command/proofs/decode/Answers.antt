-- `command::decode` meets its contract: by whether values are given, and by the carrier. Assumes nothing.
use Rattle.std.proofs.Common.{sym}
use borrow.Author.Tests.{not-true, not-false}
use Rattle.command.specs.Numbers.{input_of}
use Rattle.command.proofs.decode.Goals as goal

pub returns-then-not-a : goal.returns-then-not-a
unfolding input_of
returns-then-not-a c = rw (sym c.number_in-form.ensures, not-true _ c.if-not-a.true) c.read.ensures

pub returns-in-Some : goal.returns-in-Some
unfolding input_of
returns-in-Some c = rw (sym c.number_in-form.ensures, not-false _ c.if-not-a.false, c.in-Some.is) c.read_values.ensures

pub returns-in-None : goal.returns-in-None
unfolding input_of
returns-in-None c = rw (sym c.number_in-form.ensures, not-false _ c.if-not-a.false, c.in-None.is) c.read-in-None.ensures
