-- Words for laws of framing: bodies in front of others, a walk that has come to an index, each body, carriers without an end code.
-- Assumes nothing: these are definitions.
use Rattle.std.specs.Prelude.{◌≡◌, List, ◌++◌, ℕ, ◌≤◌, length, drop}
use Rattle.carriers.specs.declared.Carrier.{Carrier}
use Rattle.frames.specs.Frame.{Framed, fault, framed, frame}

-- bodies in front of what follows
abbrev pub prepend : List (List ℕ) → Framed → Framed
prepend bs fault = fault
prepend bs (framed cs) = framed (bs ++ cs)

-- the walk has met the bodies bs, and goes on at an index
pub record Walked (c : Carrier) (area : List ℕ) (at : ℕ) (bs : List (List ℕ)) : Type 0 where
  pub within : at ≤ length area
  pub frames : frame c area ≡ prepend bs (frame c (drop at area))
