-- RULES D2: a block yields records exactly if RFC 9463, 9464, 9460 and the limits allow it, and which records these are.
-- Assumes nothing.
use Rattle.std.specs.Prelude.{◌≡◌, refl, ◌↔◌, List, [], ◌∷◌, ◌++◌, map, ℕ, ◌+◌, ◌≤◌, ◌<◌, length}
use Rattle.std.proofs.Common.{sym, ap, ap₂, subst, ◌∙◌, true≢false, arith}
use Rattle.octets.specs.Numbers.{Bytes}
use Rattle.octets.specs.Lists.{All}
use Rattle.octets.specs.Fields.{put_counted}
use Rattle.carriers.specs.declared.Carrier.{Carrier}
use Rattle.carriers.specs.declared.Carrier.TheVariants.{Dhcp4}
use Rattle.carriers.specs.Carriers.{header_of}
use Rattle.carriers.proofs.CarriersLaws.{other-joined}
use Rattle.blocks.specs.Block.{Fields, layout, Fits, Possible}
use Rattle.judge.specs.declared.Side.TheVariants.{Reading}
use Rattle.judge.specs.Allowed.{Allowed}
use Rattle.records.specs.Records.{Outcome, faulty, kept, further, keep_of}
use Rattle.records.specs.Yielded.{outcome_of}
use Rattle.reading.specs.Reading.{alone, yield_of}
use Rattle.reading.specs.Result.{Yield, yields, single}
use Rattle.reading.specs.InstanceLaws.{counted-ahead}
use Rattle.layouts.specs.Layouts.{joined_of}
use Rattle.exactly.specs.Answers.{BodyIs, keeps, Instances, none, one_more, BlockIs, one_body, no_instance, instances}
use Rattle.exactly.specs.Yielding.{Yielding, YieldingAll}
use Rattle.exactly.proofs.BlockLaws.{body_is, block-is}

-- ---- one body

keeps-yielding : {c : Carrier} {b : List ℕ} {r : Fields} → BodyIs c b (kept r) → Yielding c b r
keeps-yielding (keeps {f} l a) = record { fields = f; laid = l.0; fits = l.1; allowed = a; kept = refl }

yielding-keeps : {c : Carrier} {b : List ℕ} {r : Fields} → Yielding c b r → BodyIs c b (kept r)
yielding-keeps {c} {b} {r} y = subst (λ (r : Fields). BodyIs c b (kept r)) (sym y.kept) (keeps (y.laid, y.fits) y.allowed)

-- a body yields r exactly if it is the layout of allowed fields of which r is kept
pub body-exactly : (c : Carrier) (b : List ℕ) (r : Fields) → Bytes b → Possible c b → (outcome_of c b ≡ kept r) ↔ Yielding c b r
body-exactly c b r h m = let i = body_is c b (kept r) h m in (λ e. keeps-yielding (i.0 e), λ y. i.1 (yielding-keeps y))

-- ---- one block of carriers 2 to 5

single-yields : (n : ℕ) (o : Outcome) (rs : List Fields) → single (further n o) ≡ yields rs → (r : Fields) × (rs ≡ r ∷ []) × (o ≡ kept r)
single-yields n (faulty j) rs e = let z : ◌≡◌ {A = ℕ} 0 1 = cc in absurd (omega arith)
single-yields n (kept r) rs e = (r, (cc), refl)

module _ (c : Carrier) (b : List ℕ) (rs : List Fields) (octets : Bytes b) (possible : Possible c b) where
  single-exactly : (alone c b ≡ yields rs) ↔ ((r : Fields) × (rs ≡ r ∷ []) × Yielding c b r)
  single-exactly = (
    λ e. (let k = single-yields (header_of c) (outcome_of c b) rs e in (k.0, k.1, (body-exactly c b k.0 octets possible).0 k.2)),
    λ y. ap (λ (o : Outcome). single (further (header_of c) o)) ((body-exactly c b y.0 octets possible).1 y.2) ∙ ap yields (sym y.1),
  )

-- a block of another carrier than 1 yields the one record of its body, exactly if its body yields one
pub block-exactly : (c : Carrier) → (c ≡ Dhcp4 → ⊥) → (b : List ℕ) (rs : List Fields) → Bytes b → Possible c b
    → (yield_of c b ≡ yields rs) ↔ ((r : Fields) × (rs ≡ r ∷ []) × Yielding c b r)
block-exactly c n b rs octets possible = rw (other-joined c n) (single-exactly c b rs octets possible)

-- ---- the block of carrier 1

-- l is the instances of allowed fields fs, one after another, and rs the records that are kept of them
abbrev Made : List ℕ → List Fields → List Fields → Type 0
Made l rs fs =
    (l ≡ joined_of fs)
    × All (λ (f : Fields). Fits Dhcp4 f × (length (layout Dhcp4 f) < 65536)) fs
    × All (Allowed Reading Dhcp4) fs
    × (rs ≡ map (keep_of Dhcp4) fs)

instances-made : {at : ℕ} {l : List ℕ} {rs : List Fields} → Instances at l (yields rs) → (fs : List Fields) × Made l rs fs
instances-made none = ([], (refl, tt, tt, refl))
instances-made (one_more {body = body} {rest = rest} {r = r} b i later) =
    let y : Yielding Dhcp4 body r = keeps-yielding i in
    let m = instances-made later in
    let k = m.1 in
    let laid = b.are ∙ sym (counted-ahead body rest) ∙ ap₂ (λ (x l : List ℕ). put_counted 2 x [] ++ l) y.laid k.0 in
    let small : length (layout Dhcp4 y.fields) < 65536 = rw y.laid at b.small in
    (y.fields ∷ m.0, (laid, ((y.fits, small), k.1), (y.allowed, k.2), ap₂ (λ (r : Fields) (rs : List Fields). r ∷ rs) y.kept k.3))

made-instances : (at : ℕ) (fs : List Fields) → All (λ (f : Fields). Fits Dhcp4 f × (length (layout Dhcp4 f) < 65536)) fs → All (Allowed Reading Dhcp4) fs
    → Instances at (joined_of fs) (yields (map (keep_of Dhcp4) fs))
made-instances at [] fits allowed = none
made-instances at (f ∷ fs) fits allowed =
    one_more (record { small = fits.0.1; are = counted-ahead (layout Dhcp4 f) (joined_of fs) }) (keeps (refl, fits.0.0) allowed.0)
    (made-instances (at + 2 + length (layout Dhcp4 f)) fs fits.1 allowed.1)

block-instances : {b : List ℕ} {y : Yield} (rs : List Fields) → BlockIs Dhcp4 b y → y ≡ yields rs → (b ≡ [] → ⊥) × Instances 0 b (yields rs)
block-instances rs (one_body e i) q = absurd (true≢false e)
block-instances rs (no_instance e n) q = let z : ◌≡◌ {A = ℕ} 0 1 = cc in absurd (omega arith)
block-instances {b} rs (instances e some i) q = (some, subst (Instances 0 b) q i)

-- octets that there are have a first instance, and an instance has octets
made_some : (fs : List Fields) → (joined_of fs ≡ [] → ⊥) → 1 ≤ length fs
made_some [] n = absurd (n refl)
made_some (f ∷ fs) n = omega arith

some-made : (fs : List Fields) → 1 ≤ length fs → joined_of fs ≡ [] → ⊥
some-made [] h e = omega arith
some-made (f ∷ fs) h e = let z : length (joined_of (f ∷ fs)) ≡ 0 = ap length e in omega arith

-- the joined data yield records exactly if they are one instance or more of allowed fields
pub joined-exactly : (b : List ℕ) (rs : List Fields) → Bytes b → (yield_of Dhcp4 b ≡ yields rs) ↔ YieldingAll b rs
joined-exactly b rs h = (λ e. all (block-instances rs ((block-is Dhcp4 b (yields rs) h tt).0 e) refl), λ y. (block-is Dhcp4 b (yields rs) h tt).1 (block y))
  where
    all : (b ≡ [] → ⊥) × Instances 0 b (yields rs) → YieldingAll b rs
    all i =
        let m = instances-made i.1 in
        let k = m.1 in
        record { fields = m.0; some = made_some m.0 (λ e. i.0 (k.0 ∙ e)); laid = k.0; fits = k.1; allowed = k.2; kept = k.3 }

    block : YieldingAll b rs → BlockIs Dhcp4 b (yields rs)
    block y =
        let i : Instances 0 b (yields rs) = rw (y.laid, y.kept) (made-instances 0 y.fields y.fits y.allowed) in
        instances refl (λ e. some-made y.fields y.some (sym y.laid ∙ e)) i
