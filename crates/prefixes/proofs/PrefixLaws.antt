-- RULES D3, its first half: of two sheets of one carrier that writing accepts, the octets of the first are a leading part of the second's
-- exactly if the first sheet's records are the first records of the second, in order. In carrier 1 these are the joined octets before they
-- are cut into options. Assumes nothing.
use Rattle.std.specs.Prelude.{◌≡◌, ◌↔◌, Bool, true, false, cond, List, [], ◌++◌, map, ℕ, ◌^◌, ◌<◌, length}
use Rattle.std.proofs.Common.{sym, ap, ap₂, ◌∙◌, append_assoc, arith}
use Rattle.octets.specs.Numbers.{be}
use Rattle.octets.specs.Lists.{All, flat}
use Rattle.octets.specs.Fields.{put_counted}
use Rattle.carriers.specs.declared.Carrier.{Carrier}
use Rattle.carriers.specs.declared.Carrier.TheVariants.{Dhcp4}
use Rattle.carriers.specs.Carriers.{as_text, Plain}
use Rattle.carriers.proofs.CarriersLaws.{by-joined}
use Rattle.names.specs.Names.{IsName}
use Rattle.texts.specs.Texts.{wire_of, text_of}
use Rattle.texts.specs.Convert.{wire-text}
use Rattle.blocks.specs.Block.{Fields, head_with, fields_of, layout}
use Rattle.blocks.specs.Exactly.{layout-injective}
use Rattle.frames.specs.WalkLaws.{false-apart}
use Rattle.frames.specs.HeadLaws.{header-pos}
use Rattle.frames.proofs.EmitLaws.{option-length}
use Rattle.layouts.specs.Layouts.{carried_of, own_option, instance_of, stream_of}
use Rattle.layouts.specs.LayoutsLaws.{writable-fits, writable-body, writable-emits}
use Rattle.written.specs.Accepted.{Sound, Accepted}
use Rattle.written.proofs.AcceptedLaws.{writable}
use Rattle.prefixes.specs.Prefix.{Leading, SelfDelimiting}
use Rattle.prefixes.proofs.DelimitingLaws.{flat-exactly, counted-apart, option-apart}

-- ---- a record by its body

-- a name is given by its text
name-injective : (text : Bool) (m n : List ℕ) → IsName m → IsName n → cond text (text_of m) m ≡ cond text (text_of n) n → m ≡ n
name-injective true m n a b e = sym (wire-text m a) ∙ ap wire_of e ∙ wire-text n b
name-injective false m n a b e = e

-- so is a record by its fields as the carrier has them
carried-injective : (c : Carrier) (r q : Fields) → IsName r.name → IsName q.name → carried_of c r ≡ carried_of c q → r ≡ q
carried-injective c r q m n e =
    ap₂ (λ (f : Fields) (n : List ℕ). fields_of (head_with f.priority f.lifetime f.full) n f.addresses f.parameters) e
    (name-injective (as_text c) r.name q.name m n (ap (λ (f : Fields). f.name) e))

-- and an accepted record by its body
body-injective : (c : Carrier) (r q : Fields) → Sound c r → Sound c q → layout c (carried_of c r) ≡ layout c (carried_of c q) → r ≡ q
body-injective c r q h k e =
    carried-injective c r q h.allowed.named k.allowed.named
    (layout-injective c (carried_of c r) (carried_of c q) (writable-fits c r (writable c r h)) (writable-fits c q (writable c q k)) e)

-- ---- the octets of a record say where they end

-- carriers 2 to 5
module _ (c : Carrier) (p : Plain c) where
  own-some : (r : Fields) → Sound c r → 0 < length (own_option c r)
  own-some r h = omega (arith, option-length c (layout c (carried_of c r)), header-pos c)

  own-apart : SelfDelimiting (Sound c) (own_option c)
  own-apart r q x y h k e =
      let emits = writable-emits c r p (writable c r h) in
      let emits' = writable-emits c q p (writable c q k) in
      let both = option-apart c (layout c (carried_of c r)) (layout c (carried_of c q)) x y emits emits' e in
      (body-injective c r q h k both.0, both.1)

-- carrier 1
instance-some : (r : Fields) → Sound Dhcp4 r → 0 < length (instance_of r)
instance-some r h = omega arith

instance-open : (r : Fields) (x : List ℕ) → instance_of r ++ x ≡ put_counted 2 (layout Dhcp4 r) x
instance-open r x =
    append_assoc (be 2 (length (layout Dhcp4 r))) (layout Dhcp4 r ++ []) x
    ∙ ap (λ (l : List ℕ). be 2 (length (layout Dhcp4 r)) ++ l) (append_assoc (layout Dhcp4 r) [] x)

instance-apart : SelfDelimiting (Sound Dhcp4) instance_of
instance-apart r q x y h k e =
    let room : length (layout Dhcp4 r) < 256 ^ 2 = omega (arith, writable-body Dhcp4 r (writable Dhcp4 r h)) in
    let room' : length (layout Dhcp4 q) < 256 ^ 2 = omega (arith, writable-body Dhcp4 q (writable Dhcp4 q k)) in
    let both = counted-apart 2 (layout Dhcp4 r) (layout Dhcp4 q) x y room room' (sym (instance-open r x) ∙ e ∙ instance-open q y) in
    (body-injective Dhcp4 r q h k both.0, both.1)

-- ---- two sheets

own-exactly : (c : Carrier) → Plain c → (rs qs : List Fields) → All (Sound c) rs → All (Sound c) qs
    → Leading (flat (map (own_option c) rs)) (flat (map (own_option c) qs)) ↔ Leading rs qs
own-exactly c p = flat-exactly (Sound c) (own_option c) (own-some c p) (own-apart c p)

-- the octets of the first lead the second's exactly if the records do
pub prefix-exactly : (c : Carrier) (s t : List ℕ) (rs qs : List Fields) → Accepted s c rs → Accepted t c qs
    → Leading (stream_of c rs) (stream_of c qs) ↔ Leading rs qs
prefix-exactly =
    by-joined
    (λ c. (s t : List ℕ) (rs qs : List Fields) → Accepted s c rs → Accepted t c qs → (Leading (stream_of c rs) (stream_of c qs) ↔ Leading rs qs))
    (λ s t rs qs a b. flat-exactly (Sound Dhcp4) instance_of instance-some instance-apart rs qs a.sound b.sound)
    (λ c e s t rs qs a b. rw e (own-exactly c (false-apart e) rs qs a.sound b.sound))
