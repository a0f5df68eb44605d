use Rattle.std.proofs.Common.{◌≡◌, drop}
use Rattle.octets.specs.Numbers.{words}
use Rattle.ips.specs.Ips.{zeros_ahead, longest_from}
use Rattle.ips.proofs.run_in.Given as goal

abbrev pub invariant-loop-i : goal.invariant-loop-i
invariant-loop-i l = (l.n ≡ zeros_ahead (drop l.i (words l.a))) × (l.best ≡ longest_from l.i (drop l.i (words l.a)))
