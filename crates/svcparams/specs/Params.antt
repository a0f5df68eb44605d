-- The first fault of a field of service parameters: 16-bit keys, 16-bit lengths and values, one after another (RULES P1; RFC 9460 §2.2). The
-- order of faults over the whole field: tiling and keys, then hints, then values (RULES T3). Assumes nothing: these are definitions.
use Rattle.std.specs.Prelude.{ℕ, zero, suc, ◌+◌, ◌-◌, ◌%◌, Bool, true, false, cond, not, ◌&&◌, ◌||◌, List, [], ◌∷◌, length, take, drop, ltb, leb, eqb}
use Rattle.octets.specs.Numbers.{at16, words}
use Rattle.numbers.specs.Fault as fault
use Rattle.svcparams.specs.Key as key
use Rattle.svcparams.specs.Param.{Param, keys}

-- ---- one parameter

-- how many octets the parameter that stands first has, its key and length among them; 0 if none stands there whole
unfoldable pub size_of : List ℕ → ℕ
size_of s = cond (ltb (length s) 4) 0 (cond (ltb (length s) (4 + at16 s 2)) 0 (4 + at16 s 2))

abbrev pub first : List ℕ → Param
first s = record { key = at16 s 0; value = take (size_of s - 4) (drop 4 s) }

-- ---- the field, tiled by parameters (RFC 9460 §2.2)

-- a field's parameters, or that they do not tile it
pub data Tiled : Type 0 where
  bad : Tiled
  tiled : List Param → Tiled

abbrev pub onto : Param → Tiled → Tiled
onto kv bad = bad
onto kv (tiled kvs) = tiled (kv ∷ kvs)

-- `s` begins with a parameter of so many octets; `go k` tiles what follows the first octet of `s` and k more
abbrev pub after : List ℕ → ℕ → (ℕ → Tiled) → Tiled
after s zero go = bad
after s (suc k) go = onto (first s) (go k)

-- the field with its first k octets still to be skipped
unfoldable pub pairs_from : ℕ → List ℕ → Tiled
pairs_from zero [] = tiled []
pairs_from (suc k) [] = bad
pairs_from zero (x ∷ xs) = after (x ∷ xs) (size_of (x ∷ xs)) (λ k. pairs_from k xs)
pairs_from (suc k) (x ∷ xs) = pairs_from k xs

abbrev pub pairs : List ℕ → Tiled
pairs p = pairs_from 0 p

-- ---- keys

-- the first is at least `least`, and each is above the one before it
unfoldable pub rising : ℕ → List ℕ → Bool
rising least [] = true
rising least (k ∷ ks) = leb least k && rising (k + 1) ks

unfoldable pub has : ℕ → List ℕ → Bool
has k [] = false
has k (x ∷ xs) = eqb x k || has k xs

-- keys rise strictly and the invalid key is refused (RULES P2; RFC 9460 §2.2, §14.3.2)
abbrev pub ordered : ℕ → List ℕ → Bool
ordered least ks = rising least ks && not (has key.invalid ks)

-- address hints are refused: the addresses stand in a field of their own (RULES P3; RFC 9463 §3.1.8)
abbrev pub is_hint : ℕ → Bool
is_hint k = eqb k key.ipv4hint || eqb k key.ipv6hint

unfoldable pub has_hint : List ℕ → Bool
has_hint [] = false
has_hint (k ∷ ks) = is_hint k || has_hint ks

-- ---- values

unfoldable pub all_in : List ℕ → List ℕ → Bool
all_in [] ks = true
all_in (w ∷ ws) ks = has w ks && all_in ws ks

-- mandatory: a non-empty list of 16-bit keys, strictly rising, without 0, each among the keys ks (RULES P4; RFC 9460 §8)
unfoldable pub mandatory_good : List ℕ → List ℕ → Bool
mandatory_good v ks = not (eqb (length v) 0) && eqb (length v % 2) 0 && rising 1 (words v) && all_in (words v) ks

-- strings, each after its 8-bit length of at least 1, with k octets of the one before still to come
unfoldable pub strings_from : ℕ → List ℕ → Bool
strings_from zero [] = true
strings_from (suc k) [] = false
strings_from zero (x ∷ xs) = not (eqb x 0) && strings_from x xs
strings_from (suc k) (x ∷ xs) = strings_from k xs

-- alpn: one or more strings (RULES P5; RFC 9460 §7.1.1)
unfoldable pub alpn_good : List ℕ → Bool
alpn_good v = not (eqb (length v) 0) && strings_from 0 v

-- no-default-alpn: empty, and alpn is among the keys ks (RULES P6; RFC 9460 §7.1.1, §2.4.3)
abbrev pub no_default_alpn_good : List ℕ → List ℕ → Bool
no_default_alpn_good v ks = eqb (length v) 0 && has key.alpn ks

-- the value v of the key k, where ks are the keys of the same parameters: mandatory, alpn and no-default-alpn as above; port has 2 octets
-- (RULES P7; RFC 9460 §7.2); the value of any other key is carried as it is (RULES P8)
unfoldable pub value_good : ℕ → List ℕ → List ℕ → Bool
value_good k v ks =
    cond (eqb k key.mandatory) (mandatory_good v ks)
    (cond (eqb k key.alpn) (alpn_good v)
    (cond (eqb k key.no_default_alpn) (no_default_alpn_good v ks)
    (cond (eqb k key.port) (eqb (length v) 2) true)))

unfoldable pub all_good : List Param → List ℕ → Bool
all_good [] ks = true
all_good (kv ∷ kvs) ks = value_good kv.key kv.value ks && all_good kvs ks

-- ---- the first fault, or 0

abbrev pub list_fault : List Param → ℕ
list_fault kvs =
    cond (not (ordered 0 (keys kvs))) fault.parameters
    (cond (has_hint (keys kvs)) fault.hint
    (cond (not (all_good kvs (keys kvs))) fault.value
    0))

abbrev pub tiled_fault : Tiled → ℕ
tiled_fault bad = fault.parameters
tiled_fault (tiled kvs) = list_fault kvs

unfoldable pub params_fault : List ℕ → ℕ
params_fault p = tiled_fault (pairs p)
