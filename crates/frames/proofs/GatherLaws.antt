-- The walks of `gather` and `join` over an area of carrier 1, as they begin, go on and end. Assumes nothing.
use Rattle.std.specs.Prelude.{◌≡◌, refl, List, [], ◌∷◌, ◌++◌, ℕ, ◌+◌, ◌-◌, ◌≤◌, length, drop, Ok, Err}
use Rattle.std.proofs.Common.{sym, ap, ◌∙◌, subst, append-nil, arith, length-append, length-drop, length-take-le}
use Rattle.std.proofs.Math.Path.{subst⁻¹}
use Rattle.octets.specs.Over.{Wrote}
use Rattle.octets.specs.OverLaws.{over-length, wrote_none, then}
use Rattle.numbers.specs.Refusal as refusal
use Rattle.numbers.specs.declared.Refusal.{Refusal}
use Rattle.carriers.specs.declared.Carrier.TheVariants.{Dhcp4}
use Rattle.frames.specs.declared.Step.{Step}
use Rattle.frames.specs.declared.Gathered.{Gathered}
use Rattle.frames.specs.declared.Gathered.TheVariants.{Absent, One, Many}
use Rattle.octets.specs.Lists.{flat}
use Rattle.octets.specs.ListsLaws.{flat_append}
use Rattle.frames.specs.Frame.{Framed, fault, framed, framed_number, bodies_in, frame}
use Rattle.frames.specs.Step.{part, step_at}
use Rattle.frames.specs.Walk.{prepend, Walked}
use Rattle.frames.specs.Gather.{Several, Tells, GatheredFrom, Joins}
use Rattle.frames.specs.Laws.{step_block, step-skipped, step-framing, step-body}
use Rattle.frames.specs.WalkLaws.{prepend-none, walked_start, walked_block, walked-skipped, walked_end, walked-fault}
use Rattle.frames.specs.ToldLaws.{number-framed, refused-fault}

-- ---- how many there are

-- two bodies in front of whatever follows
several-prepend : (bs : List (List ℕ)) (f : Framed) → 2 ≤ length bs → Several (prepend bs f)
several-prepend bs fault h = λ z. absurd (omega arith)
several-prepend bs (framed cs) h = λ _. omega (arith, length-append bs cs)

-- where something was found, there is a body
found-one : (area : List ℕ) (bs : List (List ℕ)) (found : Gathered) → (found ≡ Absent → ⊥) → Tells area (framed bs) (Ok found) → 1 ≤ length bs
found-one area bs Absent more t = absurd (more refl)
found-one area bs (One a z) more t = omega (arith, ap length t.2.1)
found-one area bs (Many from) more t = omega (arith, t.2 refl)

-- the bodies met before an index, at most one, and what was found of them; where something was found, none before `from`
pub record Gathering (area : List ℕ) (at from : ℕ) (found : Gathered) : Type 0 where
  pub bodies : List (List ℕ)
  pub walked : Walked Dhcp4 area at bodies
  pub tells : Tells area (framed bodies) (Ok found)
  pub first : Walked Dhcp4 area from []

pub gathering-start : (area : List ℕ) → Gathering area 0 0 Absent
gathering-start area = record { bodies = []; walked = walked_start Dhcp4 area; tells = (refl, refl); first = walked_start Dhcp4 area }

module _ {area : List ℕ} {at start end : ℕ} (e : step_at Dhcp4 area at ≡ Ok (Step.Block start end)) where
  -- the first own option
  pub gathering-first : {from : ℕ} → Gathering area at from Absent → Gathering area end at (One start end)
  gathering-first g =
      let m = step_block Dhcp4 area at e in
      let none : g.bodies ≡ [] = g.tells.1 in
      record {
        bodies = g.bodies ++ (part start end area ∷ []);
        walked = walked_block Dhcp4 area g.walked e;
        tells = (m.1, m.2, (refl, ap (λ (l : List (List ℕ)). l ++ (part start end area ∷ [])) none));
        first = subst (Walked Dhcp4 area at) none g.walked;
      }

  -- one after those that were found: there are several, whatever follows
  pub gathering-second : {from : ℕ} {found : Gathered} → Gathering area at from found → (found ≡ Absent → ⊥) → GatheredFrom area (Ok (Many from))
  gathering-second {from} {found} g more =
      let two = walked_block Dhcp4 area g.walked e in
      let long : 2 ≤ length (g.bodies ++ (part start end area ∷ []))
      = omega (arith, found-one area g.bodies found more g.tells, length-append g.bodies (part start end area ∷ [])) in (
        g.first.within,
        g.first.frames ∙ prepend-none (frame Dhcp4 (drop from area)),
        subst⁻¹ Several two.frames (several-prepend (g.bodies ++ (part start end area ∷ [])) (frame Dhcp4 (drop end area)) long),
      )

module _ {area : List ℕ} {at from : ℕ} {found : Gathered} (g : Gathering area at from found) where
  pub gathering-skipped : {end : ℕ} → step_at Dhcp4 area at ≡ Ok (Step.Skipped end) → Gathering area end from found
  gathering-skipped e = record { bodies = g.bodies; walked = walked-skipped Dhcp4 area g.walked e; tells = g.tells; first = g.first }

  pub gathering-end : step_at Dhcp4 area at ≡ Ok Step.End → GatheredFrom area (Ok found)
  gathering-end e = subst⁻¹ (λ (f : Framed). Tells area f (Ok found)) (walked_end Dhcp4 area g.walked e) g.tells

  pub gathering-fault : {r : Refusal} → step_at Dhcp4 area at ≡ Err r → GatheredFrom area (Err r)
  gathering-fault e =
      let broken = walked-fault Dhcp4 area g.walked e in
      (ap framed_number broken ∙ sym (ap refusal.number_of (step-framing Dhcp4 area at e)), ap bodies_in broken)

-- ---- the bodies one after another

pub flat-snoc : (bs : List (List ℕ)) (b : List ℕ) → flat (bs ++ (b ∷ [])) ≡ flat bs ++ b
flat-snoc bs b = flat_append bs (b ∷ []) ∙ ap (λ (l : List ℕ). flat bs ++ l) (append-nil b)

pub part_length : (start end : ℕ) (s : List ℕ) → end ≤ length s → length (part start end s) ≡ end - start
part_length start end s h = length-take-le (end - start) (drop start s) (simp length-drop (omega arith))

-- the bodies met before an index stand at the front of the buffer
pub record Joining (area out : List ℕ) (at n : ℕ) (out' : List ℕ) : Type 0 where
  pub bodies : List (List ℕ)
  pub walked : Walked Dhcp4 area at bodies
  pub wrote : Wrote 0 (flat bodies) out n out'
  pub behind : n ≤ at

pub joining-start : (area out : List ℕ) → Joining area out 0 0 out
joining-start area out = record { bodies = []; walked = walked_start Dhcp4 area; wrote = wrote_none (omega arith); behind = omega arith }

module _ {area out : List ℕ} {at n : ℕ} {out' : List ℕ} (j : Joining area out at n out') where
  pub joining-length : length out' ≡ length out
  joining-length = ap length j.wrote.laid ∙ over-length 0 (flat j.bodies) out j.wrote.room

  -- a body has room, since what was written is behind its place in the area
  pub joining-room : {start end : ℕ} → length area ≤ length out → step_at Dhcp4 area at ≡ Ok (Step.Block start end) → n + length (part start end area) ≤ length out'
  joining-room {start} {end} h e =
      let m = step_block Dhcp4 area at e in
      omega (arith, step-body Dhcp4 area at e, part_length start end area m.2, j.behind, joining-length)

  pub joining-block : {start end : ℕ} {n' : ℕ} {out'' : List ℕ} → step_at Dhcp4 area at ≡ Ok (Step.Block start end) → Wrote n (part start end area) out' n' out''
      → Joining area out end n' out''
  joining-block {start} {end} {n'} {out''} e w =
      let m = step_block Dhcp4 area at e in
      let b = step-body Dhcp4 area at e in
      record {
        bodies = j.bodies ++ (part start end area ∷ []);
        walked = walked_block Dhcp4 area j.walked e;
        wrote = subst⁻¹ (λ (l : List ℕ). Wrote 0 l out n' out'') (flat-snoc j.bodies (part start end area)) (then j.wrote w);
        behind = omega (arith, w.next, part_length start end area m.2, j.behind);
      }

  pub joining-skipped : {end : ℕ} → step_at Dhcp4 area at ≡ Ok (Step.Skipped end) → Joining area out end n out'
  joining-skipped e =
      let m = step-skipped Dhcp4 area at e in
      record { bodies = j.bodies; walked = walked-skipped Dhcp4 area j.walked e; wrote = j.wrote; behind = omega (arith, j.behind) }

  pub joining-end : step_at Dhcp4 area at ≡ Ok Step.End → Joins (frame Dhcp4 area) out (Ok n) out'
  joining-end e =
      subst⁻¹ (λ (f : Framed). Joins f out (Ok n) out') (walked_end Dhcp4 area j.walked e) (record { number = refl; octets = λ _. j.wrote })

  pub joining-fault : {r : Refusal} → step_at Dhcp4 area at ≡ Err r → Joins (frame Dhcp4 area) out (Err r) out'
  joining-fault {r} e =
      let number = ap refusal.number_of (step-framing Dhcp4 area at e) in
      subst⁻¹ (λ (f : Framed). Joins f out (Err r) out') (walked-fault Dhcp4 area j.walked e)
      (record { number = number; octets = λ n. absurd (omega (arith, n, number)) })

-- what the answer tells of the area, and of the buffer
pub joins-broken : (f : Framed) (out out' : List ℕ) {r : Refusal} → Joins f out (Err r) out' → (f ≡ fault) × (refusal.number_of r ≡ refusal.framing)
joins-broken f out out' {r} j = refused-fault f r j.number

pub joins-whole : (f : Framed) (out out' : List ℕ) (n : ℕ) → Joins f out (Ok n) out'
    → (bs : List (List ℕ)) × (f ≡ framed bs) × Wrote 0 (flat bs) out n out'
joins-whole f out out' n j = (bodies_in f, number-framed f (sym j.number, refl), j.octets refl)
