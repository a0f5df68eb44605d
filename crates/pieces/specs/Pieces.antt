-- Joined octets as options 162 (RULES E2: 255 octets of data each and a last one with 1 to 255; nothing for no records).
-- Assumes nothing: these are definitions.
use Rattle.std.specs.Prelude.{List, [], ◌∷◌, ℕ, zero, suc, ◌+◌, ◌*◌, ◌/◌, length, take, drop}
use Rattle.carriers.specs.declared.Carrier.TheVariants.{Dhcp4}
use Rattle.frames.specs.Emit.{options_of}

-- n pieces from the front of l, 255 octets each as long as there are so many (RULES E2)
abbrev pub chunks : ℕ → List ℕ → List (List ℕ)
chunks zero l = []
chunks (suc n) l = take 255 l ∷ chunks n (drop 255 l)

-- as many as l has: the last is what is left, 1 to 255 octets; none of no octets (RULES E2)
unfoldable pub pieces : List ℕ → List (List ℕ)
pieces l = chunks ((length l + 254) / 255) l

-- an option for each piece (RULES E2)
unfoldable pub cut_of : List ℕ → List ℕ
cut_of l = options_of Dhcp4 (pieces l)

-- octets of the options of n joined octets (RULES E2)
abbrev pub cut_octets : ℕ → ℕ
cut_octets n = n + 2 * ((n + 254) / 255)
