-- The theorems of service parameters: a field of octets is its parameters one after another, in one way only; it has no fault exactly if
-- it is accepted; and its fault is the first in the order tiling and keys, hints, values. Assumes nothing.
use Rattle.std.specs.Prelude.{◌≡◌, refl, Bool, true, false, cond, not, ◌↔◌, ◌⊎◌, List, [], ◌∷◌, ℕ}
use Rattle.std.proofs.Common.{ap, ◌∙◌, inl, inr, arith}
use Rattle.octets.specs.Numbers.{Bytes}
use Rattle.numbers.specs.Fault as fault
use Rattle.svcparams.specs.Key as key
use Rattle.svcparams.specs.Params.{Tiled, bad, tiled, pairs, ordered, has_hint, all_good, tiled_fault, params_fault}
use Rattle.svcparams.specs.Param.{Param, keys}
use Rattle.octets.specs.Lists.{All}
use Rattle.svcparams.specs.Accepted.{In, field_of, Fits, Ordered, Hinted, Allowed, Accepted}
use Rattle.svcparams.specs.FieldLaws.{tiled-field, field-tiled}
use Rattle.svcparams.proofs.VerdictLaws.{hinted-fault, forbidden-fault, allowed-fault, unordered-fault, Verdict, unordered, hinted, forbidden, accepted, verdict}

-- ---- the layout

-- parameters tile a field exactly if the field is these parameters one after another, their keys and lengths of 16 bits
pub tiled-exactly : (p : List ℕ) (kvs : List Param) → Bytes p → (pairs p ≡ tiled kvs) ↔ ((p ≡ field_of kvs) × All Fits kvs)
tiled-exactly p kvs o = (tiled-field p kvs o, λ h. ap pairs h.0 ∙ field-tiled kvs h.1)

-- a field is parameters one after another in one way only
pub field-once : (kvs lws : List Param) → All Fits kvs → All Fits lws → field_of kvs ≡ field_of lws → kvs ≡ lws
field-once kvs lws f g e =
    let a = field-tiled kvs f in
    let b = field-tiled lws g in
    let d : pairs (field_of kvs) ≡ pairs (field_of lws) = ap pairs e in
    cc

-- ---- the fault

-- no fault exactly if the field is accepted
pub params-exactly : (p : List ℕ) → Bytes p → (params_fault p ≡ 0) ↔ Accepted p
params-exactly p o = (λ z. go (verdict p o) z, λ a. allowed-fault p a.params a.ordered a.unhinted a.values)
  where
    go : Verdict p (params_fault p) → params_fault p ≡ 0 → Accepted p
    go (unordered e n) z = absurd (omega arith)
    go (hinted e kvs w h) z = absurd (omega arith)
    go (forbidden e kvs w u v) z = absurd (omega arith)
    go (accepted e a) z = a

-- the fault of tiling and keys exactly if the field is no parameters in order, whatever their values
pub parameters-exactly : (p : List ℕ) → Bytes p → (params_fault p ≡ fault.parameters) ↔ ((kvs : List Param) → Ordered p kvs → ⊥)
parameters-exactly p o = (λ z. go (verdict p o) z, unordered-fault p o)
  where
    go : Verdict p (params_fault p) → params_fault p ≡ fault.parameters → (kvs : List Param) → Ordered p kvs → ⊥
    go (unordered e n) z = n
    go (hinted e kvs w h) z = absurd (omega arith)
    go (forbidden e kvs w u v) z = absurd (omega arith)
    go (accepted e a) z = absurd (omega arith)

-- the fault of hints exactly if it is parameters in order with a hint, whatever their values
pub hint-exactly : (p : List ℕ) → Bytes p → (params_fault p ≡ fault.hint) ↔ ((kvs : List Param) × Ordered p kvs × Hinted kvs)
hint-exactly p o = (λ z. go (verdict p o) z, λ h. hinted-fault p h.0 h.1 h.2)
  where
    go : Verdict p (params_fault p) → params_fault p ≡ fault.hint → (kvs : List Param) × Ordered p kvs × Hinted kvs
    go (unordered e n) z = absurd (omega arith)
    go (hinted e kvs w h) z = (kvs, w, h)
    go (forbidden e kvs w u v) z = absurd (omega arith)
    go (accepted e a) z = absurd (omega arith)

-- the fault of values exactly if it is parameters in order, without a hint, and not every value is allowed
pub value-exactly : (p : List ℕ) → Bytes p
    → (params_fault p ≡ fault.value) ↔ ((kvs : List Param) × Ordered p kvs × (Hinted kvs → ⊥) × (All (Allowed (keys kvs)) kvs → ⊥))
value-exactly p o = (λ z. go (verdict p o) z, λ h. forbidden-fault p h.0 h.1 h.2 o h.3)
  where
    go : Verdict p (params_fault p) → params_fault p ≡ fault.value
        → (kvs : List Param) × Ordered p kvs × (Hinted kvs → ⊥) × (All (Allowed (keys kvs)) kvs → ⊥)
    go (unordered e n) z = absurd (omega arith)
    go (hinted e kvs w h) z = absurd (omega arith)
    go (forbidden e kvs w u v) z = (kvs, w, u, v)
    go (accepted e a) z = absurd (omega arith)

-- ---- no-default-alpn

beside : (ks : List ℕ) (kvs : List Param) → All (Allowed ks) kvs → In key.no_default_alpn (keys kvs) → In key.alpn ks
unfolding keys
beside ks [] a i = absurd i
beside ks (kv ∷ kvs) a (inl e) = (a.0.no_default_alpn e).1
beside ks (kv ∷ kvs) a (inr i) = beside ks kvs a.1 i

-- an accepted field has no-default-alpn only beside alpn: it is self-consistent (RULES P6; RFC 9460 §7.1.1)
pub self-consistent : (p : List ℕ) (a : Accepted p) → In key.no_default_alpn (keys a.params) → In key.alpn (keys a.params)
self-consistent p a i = beside (keys a.params) a.params a.values i

-- no-default-alpn without alpn has the fault of values, whatever its own and the other values, once keys and hints are as they should be
pub alpn-needed : (p : List ℕ) (kvs : List Param) → Bytes p → Ordered p kvs → (Hinted kvs → ⊥)
    → In key.no_default_alpn (keys kvs) → (In key.alpn (keys kvs) → ⊥) → params_fault p ≡ fault.value
alpn-needed p kvs o w u i n = (value-exactly p o).1 (kvs, w, u, λ a. n (beside (keys kvs) kvs a i))

-- ---- the number of a field's fault

-- one of the four numbers, also where p is no octets
abbrev pub FaultNumber : ℕ → Type 0
FaultNumber n = (n ≡ 0) ⊎ ((n ≡ fault.parameters) ⊎ ((n ≡ fault.hint) ⊎ (n ≡ fault.value)))

pub fault-number : (p : List ℕ) → FaultNumber (params_fault p)
unfolding params_fault
fault-number p = tile (pairs p)
  where
    judge : (a b d : Bool) → FaultNumber (cond (not a) fault.parameters (cond b fault.hint (cond (not d) fault.value 0)))
    judge false b d = inr (inl refl)
    judge true true d = inr (inr (inl refl))
    judge true false false = inr (inr (inr refl))
    judge true false true = inl refl

    tile : (t : Tiled) → FaultNumber (tiled_fault t)
    tile bad = inr (inl refl)
    tile (tiled kvs) = judge (ordered 0 (keys kvs)) (has_hint (keys kvs)) (all_good kvs (keys kvs))
