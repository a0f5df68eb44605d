-- `arguments::asked::Asked::with_argument` meets its contract: the argument is what the system gives. Assumes nothing.
use Rattle.std.proofs.Common.{take}
use Rattle.arguments.specs.Line.{word}
use Rattle.arguments.proofs.asked.Asked.with_argument.Goals as goal

pub returns-in-Ok : goal.returns-in-Ok
returns-in-Ok g c =
    record { argument = word (take c.in-Ok.n c.arg.new.buf); is = c.with_next.ensures }
