-- Where the fields of one record stand in a sheet, by its lengths and its mode alone (RULES S2: priority 2, lifetime 4, mode 1, name length 1,
-- name; in mode 1 also address count 1, addresses, parameter length 2, parameters). Assumes nothing: these are definitions.
use Rattle.std.specs.Prelude.{◌≡◌, Bool, true, false, cond, List, ℕ, ◌+◌, ◌-◌, ◌*◌, ◌≤◌, ◌<◌, ltb, eqb, length, get_or, take, drop}
use Rattle.octets.specs.Numbers.{at16, at32}
use Rattle.carriers.specs.declared.Carrier.{Carrier}
use Rattle.carriers.specs.Carriers.{address_width}
use Rattle.blocks.specs.Block.{Fields}
use Rattle.records.specs.Records.{head_size, lifetime_at, mode_at, name_length_at}

-- each part as its first index and its length, and the index after the record
pub record Spot : Type 0 where
  pub good : Bool  -- whether a whole record with mode 0 or 1 stands there; else all numbers are 0
  pub priority : ℕ
  pub lifetime : ℕ
  pub full : Bool  -- mode 1; in mode 0 there are no addresses and no parameters
  pub name : ℕ
  pub nlen : ℕ
  pub addresses : ℕ
  pub alen : ℕ
  pub parameters : ℕ
  pub plen : ℕ
  pub next : ℕ

-- no record: a field runs past the sheet's end, or the mode is not 0 or 1
abbrev pub nowhere : Spot
nowhere =
    record {
      good = false;
      priority = 0;
      lifetime = 0;
      full = false;
      name = 0;
      nlen = 0;
      addresses = 0;
      alen = 0;
      parameters = 0;
      plen = 0;
      next = 0;
    }

-- a record with a name of n octets and, so far, nothing after it
abbrev pub named_at : List ℕ → ℕ → ℕ → Spot
named_at s at n =
    record {
      good = true;
      priority = at16 s at;
      lifetime = at32 s (at + lifetime_at);
      full = false;
      name = at + head_size;
      nlen = n;
      addresses = at + head_size + n;
      alen = 0;
      parameters = at + head_size + n;
      plen = 0;
      next = at + head_size + n;
    }

-- with addresses of n octets at a and parameters of m octets at q
abbrev pub with_parts : Spot → ℕ → ℕ → ℕ → ℕ → Spot
with_parts p a n q m =
    record {
      good = true;
      priority = p.priority;
      lifetime = p.lifetime;
      full = true;
      name = p.name;
      nlen = p.nlen;
      addresses = a;
      alen = n;
      parameters = q;
      plen = m;
      next = q + m;
    }

-- parameters of m octets at q
abbrev pub parameters_at : List ℕ → Spot → ℕ → ℕ → ℕ → ℕ → Spot
parameters_at s p a n q m = cond (ltb (length s - q) m) nowhere (with_parts p a n q m)

-- addresses of n octets at a, then the parameter length
abbrev pub addresses_at : List ℕ → Spot → ℕ → ℕ → Spot
addresses_at s p a n =
    cond (ltb (length s - a) n) nowhere
    (cond (ltb (length s - (a + n)) 2) nowhere
    (parameters_at s p a n (a + n + 2) (at16 s (a + n))))

-- what mode 1 adds after the name: address count, addresses, parameter length, parameters
unfoldable pub full_at : Carrier → List ℕ → Spot → Spot
full_at c s p =
    cond (ltb (length s - p.next) 1) nowhere
    (addresses_at s p (p.next + 1) (get_or s p.next 0 * address_width c))

-- mode 0 name only, 1 full
abbrev pub by_mode : Carrier → List ℕ → ℕ → Spot → Spot
by_mode c s mode p = cond (eqb mode 0) p (cond (eqb mode 1) (full_at c s p) nowhere)

-- the record whose first octet stands at `at`
unfoldable pub spot_of : Carrier → List ℕ → ℕ → Spot
spot_of c s at =
    cond (ltb (length s - at) head_size) nowhere
    (cond (ltb (length s - at - head_size) (get_or s (at + name_length_at) 0)) nowhere
    (by_mode c s (get_or s (at + mode_at) 0) (named_at s at (get_or s (at + name_length_at) 0))))

-- the fields that stand there
abbrev pub fields_at : List ℕ → Spot → Fields
fields_at s p =
    record {
      priority = p.priority;
      lifetime = p.lifetime;
      full = p.full;
      name = take p.nlen (drop p.name s);
      addresses = take p.alen (drop p.addresses s);
      parameters = take p.plen (drop p.parameters s);
    }

-- every part lies within a sheet of n octets, and a record at `at` ends after it
pub record Inside (n at : ℕ) (p : Spot) : Type 0 where
  pub name : p.name + p.nlen ≤ n
  pub addresses : p.addresses + p.alen ≤ n
  pub parameters : p.parameters + p.plen ≤ n
  pub next : p.next ≤ n
  pub further : p.good ≡ true → at + head_size ≤ p.next

-- the numbers are of their widths
pub record Sized (p : Spot) : Type 0 where
  pub priority : p.priority < 65536
  pub lifetime : p.lifetime < 4294967296
  pub nlen : p.nlen < 256
  pub alen : p.alen ≤ 4080  -- 255 addresses of 16 octets
  pub plen : p.plen < 65536
