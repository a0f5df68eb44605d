use Rattle.std.proofs.Common.{◌≡◌, ◌≤◌, drop}
use Rattle.forms.specs.Places.{begins_in, packet_from, packet_of}
use Rattle.forms.proofs.places.packet.Given as goal

abbrev pub invariant-loop-i : goal.invariant-loop-i
invariant-loop-i l = (l.line ≤ l.i) × (packet_from (begins_in l.so_far) l.line l.i (drop l.i l.text) ≡ packet_of l.text)
