-- A service parameter, and the keys of several (RULES P1). Assumes nothing: these are definitions.
use Rattle.std.specs.Prelude.{ℕ, List, [], ◌∷◌}

-- a key and a value; the length between them is the value's (RULES P1)
pub record Param : Type 0 where
  pub key : ℕ
  pub value : List ℕ

-- their keys, in the order in which they stand (RULES P2)
unfoldable pub keys : List Param → List ℕ
keys [] = []
keys (kv ∷ kvs) = kv.key ∷ keys kvs
