-- `dumps::state::State::counted` meets its contract: an offset that is not the number of octets before its line. Assumes nothing.
use Rattle.std.proofs.Common.{ap}
use Rattle.dumps.specs.State.{State}
use Rattle.dumps.specs.Held.{state_in}
use Rattle.dumps.specs.StatesLaws.{counted-other}
use Rattle.dumps.proofs.state.State.counted.Goals as goal

pub returns-then-self-n-2 : goal.returns-then-self-n-2
returns-then-self-n-2 c =
    ap (λ (s : State). s.why) (counted-other c.args.f c.args.n (state_in c.args.self) c.if-self-f.false c.if-self.false c.if-self-n-2.true)
