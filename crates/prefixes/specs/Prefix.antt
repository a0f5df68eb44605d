-- Leading parts, of octets and of records alike (RULES D3: "The octets defined for the first are a leading part of the second's exactly if the first
-- sheet's records are the first records of the second, in order"). Assumes nothing: these are definitions.
use Rattle.std.specs.Prelude.{◌≡◌, Bool, true, false, List, ◌++◌, ℕ}
use Rattle.octets.specs.Lists.{flat}
use Rattle.carriers.specs.declared.Carrier.{Carrier}
use Rattle.carriers.specs.declared.Carrier.TheVariants.{Dhcp4}
use Rattle.carriers.specs.Carriers.{is_joined}
use Rattle.frames.specs.Area.{Area}

-- b begins with a; something may follow, or nothing (RULES D3)
abbrev pub Leading : {A : Type 0} → List A → List A → Type 0
Leading {A} a b = (rest : List A) × (b ≡ a ++ rest)

-- no encoding e of what P holds of is the beginning of another: if two encodings, each followed by anything, are equal, so are the things
-- encoded and what follows (the reason of RULES D3)
abbrev pub SelfDelimiting : {A : Type 0} → (A → Type 0) → (A → List ℕ) → Type 0
SelfDelimiting {A} P e = (a b : A) (x y : List ℕ) → P a → P b → e a ++ x ≡ e b ++ y → (a ≡ b) × (x ≡ y)

-- the octets that RULES D3 speaks of: in carriers 2 to 5 those that are written, in carrier 1 the data of the options that are written, joined;
-- the law `joined-defined` says that these are the records' instances one after another (RULES D6)
abbrev pub JoinedBy : Bool → List ℕ → List ℕ → Type 0
JoinedBy true octets joined = (bodies : List (List ℕ)) × Area Dhcp4 octets bodies × (joined ≡ flat bodies)
JoinedBy false octets joined = joined ≡ octets

abbrev pub JoinedOctets : Carrier → List ℕ → List ℕ → Type 0
JoinedOctets c = JoinedBy (is_joined c)
