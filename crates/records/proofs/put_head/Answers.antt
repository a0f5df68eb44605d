-- `records::put_head` meets its contract: its fields, one after another. Assumes nothing.
use Rattle.std.proofs.Common.{◌≡◌, Bool, true, false, refl}
use Rattle.std.specs.Int.{from_bool}
use Rattle.octets.specs.OverLaws.{then}
use Rattle.records.specs.Records.{mode_of}
use Rattle.records.proofs.put_head.Goals as goal

-- a mode is the number of a `bool`
mode-number : (full : Bool) → from_bool full ≡ mode_of full
mode-number true = refl
mode-number false = refl

pub returns : goal.returns
returns c =
    rw (c.from.ensures, mode-number c.args.full)
    at (then c.put16-after_priority.ensures (then c.put32-after_lifetime.ensures (then c.put8-after_mode.ensures c.put_name.ensures)))
