use Rattle.std.proofs.Common.{map, take}
use Rattle.octets.specs.Over.{Wrote}
use Rattle.octets.specs.Numbers.{words}
use Rattle.ips.specs.Ips.{hex, led}
use Rattle.ips.proofs.put_led.Given as goal

abbrev pub invariant-loop-k : goal.invariant-loop-k
invariant-loop-k l = Wrote l.at (led 58 (map hex (take l.k (words l.s)))) l.initial.out l.next l.out
