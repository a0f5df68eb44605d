-- `hexes::digit_of` meets its contract. Assumes nothing.
use Rattle.std.proofs.Common.{lt-ltb, le-ltb}
use Rattle.hexes.specs.Hexes.{digit_of}
use Rattle.hexes.proofs.digit_of.Goals as goal

pub returns-then-v-lt10 : goal.returns-then-v-lt10
unfolding digit_of
returns-then-v-lt10 c = simp (lt-ltb _ _ c.if-v-lt10.true)

pub returns : goal.returns
unfolding digit_of
returns c = simp (le-ltb _ _ c.if-v-lt10.false)
