-- What the code finds at an index of a sheet shows what stands there. Assumes nothing: these are definitions.
use Rattle.std.specs.Prelude.{◌≡◌, true, false, List, ℕ, ◌≤◌, Option, Some, None, length, take, drop}
use Rattle.blocks.specs.Parts.{fields_in}
use Rattle.taking.specs.declared.Record.{Record}
use Rattle.taking.specs.declared.Tail.{Tail}
use Rattle.taking.specs.Spot.{Spot, fields_at, Inside, Sized}

-- the record r is that of the spot p, from index `at` on; the spot lies within the sheet, and its numbers are of their widths
pub record Shown (s : List ℕ) (at : ℕ) (p : Spot) (r : Record) : Type 0 where
  pub good : p.good ≡ true
  pub fields : fields_in r.parts ≡ fields_at s p
  pub name : r.name ≡ p.name
  pub next : r.next ≡ p.next
  pub inside : Inside (length s) at p
  pub sized : Sized p

-- a record is found exactly if one stands there
abbrev pub Shows : List ℕ → ℕ → Spot → Option Record → Type 0
Shows s at p None = p.good ≡ false
Shows s at p (Some r) = Shown s at p r

-- the same of what follows a record's name
pub record Listed (s : List ℕ) (p : Spot) (l : Tail) : Type 0 where
  pub good : p.good ≡ true
  pub addresses : l.addresses.now ≡ take p.alen (drop p.addresses s)
  pub parameters : l.parameters.now ≡ take p.plen (drop p.parameters s)
  pub rest : l.rest.now ≡ drop p.next s
  pub next : p.next ≤ length s

abbrev pub Lists : List ℕ → Spot → Option Tail → Type 0
Lists s p None = p.good ≡ false
Lists s p (Some l) = Listed s p l
