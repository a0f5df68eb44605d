-- `ips::put_dotted` meets its contract: a dot, and the octet. Assumes nothing.
use Rattle.octets.specs.OverLaws.{then}
use Rattle.ips.proofs.put_dotted.Goals as goal

pub returns : goal.returns
returns c =
    then c.put_code-next.ensures c.put_decimal.ensures
