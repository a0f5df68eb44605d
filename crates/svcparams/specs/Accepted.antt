-- What a field of service parameters without a fault is, in terms of its layout alone: it is parameters one after another, and of these
-- RULES P1 to P8 hold. Assumes nothing: these are definitions.
use Rattle.std.specs.Prelude.{◌≡◌, ◌⊎◌, List, [], ◌∷◌, ◌++◌, ℕ, ◌<◌, length}
use Rattle.octets.specs.Lists.{All}
use Rattle.octets.specs.Numbers.{be, numbers_of}
use Rattle.octets.specs.Fields.{put_counted}
use Rattle.svcparams.specs.Key as key
use Rattle.svcparams.specs.Param.{Param, keys}

-- ---- lists

-- each number is less than every later one (RULES P2)
abbrev pub Ascending : List ℕ → Type 0
Ascending [] = Unit
Ascending (k ∷ ks) = All (λ x. k < x) ks × Ascending ks

-- a number is one of the list (RULES P3, P4, P6)
abbrev pub In : ℕ → List ℕ → Type 0
In k [] = ⊥
In k (x ∷ xs) = (x ≡ k) ⊎ In k xs

-- ---- the field (RULES P1; RFC 9460 §2.2)

-- a parameter's key, length and value, and then l (RULES P1)
abbrev pub put : Param → List ℕ → List ℕ
put kv l = be 2 kv.key ++ put_counted 2 kv.value l

-- parameters one after another (RULES P1)
abbrev pub field_of : List Param → List ℕ
field_of [] = []
field_of (kv ∷ kvs) = put kv (field_of kvs)

-- a key and a length of 16 bits (RULES P1)
pub record Fits (kv : Param) : Type 0 where
  pub key : kv.key < 65536
  pub size : length kv.value < 65536

-- p is the parameters kvs, whose keys rise strictly and are below the invalid one (RULES P2; RFC 9460 §2.2, §14.3.2)
pub record Ordered (p : List ℕ) (kvs : List Param) : Type 0 where
  pub laid : p ≡ field_of kvs
  pub fits : All Fits kvs
  pub rise : Ascending (keys kvs)
  pub valid : All (λ k. k < key.invalid) (keys kvs)

-- a parameter is an address hint (RULES P3; RFC 9463 §3.1.8)
abbrev pub Hinted : List Param → Type 0
Hinted kvs = In key.ipv4hint (keys kvs) ⊎ In key.ipv6hint (keys kvs)

-- ---- values

-- v is the list of keys ws: not empty, of 16 bits, strictly rising, without 0, each one of the keys ks (RULES P4; RFC 9460 §8)
pub record Mandatory (ks v ws : List ℕ) : Type 0 where
  pub laid : v ≡ numbers_of ws
  pub some : 0 < length ws
  pub narrow : All (λ w. w < 65536) ws
  pub rise : Ascending ws
  pub nonzero : All (λ w. 0 < w) ws
  pub present : All (λ w. In w ks) ws

-- strings one after another, each after its 8-bit length (RULES P5)
abbrev pub strings_of : List (List ℕ) → List ℕ
strings_of [] = []
strings_of (s ∷ ss) = put_counted 1 s (strings_of ss)

-- v is one or more strings, each of 1 to 255 octets (RULES P5; RFC 9460 §7.1.1)
pub record Alpn (v : List ℕ) (ss : List (List ℕ)) : Type 0 where
  pub laid : v ≡ strings_of ss
  pub some : 0 < length ss
  pub sizes : All (λ s. (0 < length s) × (length s < 256)) ss

-- the value is one that its key allows among the keys ks (RULES P4 to P8): no-default-alpn is empty and stands beside alpn, else the
-- parameters are not self-consistent (RULES P6; RFC 9460 §7.1.1, §2.4.3); a port has 2 octets (RULES P7; RFC 9460 §7.2)
pub record Allowed (ks : List ℕ) (kv : Param) : Type 0 where
  pub mandatory : kv.key ≡ key.mandatory → (ws : List ℕ) × Mandatory ks kv.value ws
  pub alpn : kv.key ≡ key.alpn → (ss : List (List ℕ)) × Alpn kv.value ss
  pub no_default_alpn : kv.key ≡ key.no_default_alpn → (length kv.value ≡ 0) × In key.alpn ks
  pub port : kv.key ≡ key.port → length kv.value ≡ 2

-- ---- the whole field

-- parameters that are in order, with no address hint and with values that their keys allow (RULES P1 to P8)
pub record Accepted (p : List ℕ) : Type 0 where
  pub params : List Param
  pub ordered : Ordered p params
  pub unhinted : Hinted params → ⊥
  pub values : All (Allowed (keys params)) params
