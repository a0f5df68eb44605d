-- `ips::put_next` meets its contract: a colon, and the field. Assumes nothing.
use Rattle.octets.specs.OverLaws.{then}
use Rattle.ips.proofs.put_next.Goals as goal

pub returns : goal.returns
returns c =
    then c.put_code-next.ensures c.put_hex.ensures
