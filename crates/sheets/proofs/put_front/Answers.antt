-- `sheets::put_front` meets its contract: letters, version, carrier and count, one after the other. Assumes nothing.
use Rattle.octets.specs.OverLaws.{then}
use Rattle.sheets.specs.Sheets.{front_of}
use Rattle.sheets.proofs.put_front.Goals as goal

pub returns : goal.returns
unfolding front_of
returns c =
    let n = c.number.ensures in
    then c.copy-at_version.ensures (then c.put16-at_carrier.ensures (then (rw n at c.put8-at_count.ensures) c.put8.ensures))
