-- `hexes::is_digit` meets its contract. Assumes nothing.
use Rattle.hexes.specs.Hexes.{digit}
use Rattle.hexes.proofs.is_digit.Goals as goal

pub returns : goal.returns
unfolding digit
returns c = c.is_ascii_hexdigit.ensures.value
