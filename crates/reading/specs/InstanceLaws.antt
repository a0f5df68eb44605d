-- The instances of joined data, one after another from the front. Assumes nothing.
use Rattle.std.specs.Prelude.{◌≡◌, refl, cond, length}
use Rattle.std.proofs.Common.{sym, ◌∙◌, add-zero, arith, length-append, drop_of_length-le, take_at, drop_at}
use Rattle.std.proofs.Math.Path.{ap, ap₂}
use Rattle.std.proofs.Math.Bool.{true, false}
use mathlib.Core.List.{List, [], ◌∷◌, ◌++◌, append-nil}
use Prim.Native.Nat.{ℕ, zero, suc, ◌+◌, ◌-◌, ◌≤◌, ◌<◌}
use borrow.Author.Tests.{lt-ltb, le-ltb, ne_eqb}
use Rattle.std.proofs.Math.Dec.{ltb}
use Rattle.std.proofs.Math.ListN.{get_or, take, drop, length-drop}
use Rattle.std.proofs.Math.Seq.{drop-drop, get_or-drop, append_snoc}
use Rattle.octets.specs.Numbers.{at16}
use Rattle.octets.specs.Fields.{put_counted}
use Rattle.numbers.specs.Fault as fault
use Rattle.carriers.specs.declared.Carrier.TheVariants.{Dhcp4}
use Rattle.frames.specs.Step.{part}
use Rattle.blocks.specs.Block.{Fields}
use Rattle.judge.specs.Place.{judged}
use Rattle.records.specs.Records.{kept, further}
use Rattle.records.specs.Yielded.{outcome_of}
use Rattle.reading.specs.Walks.{before}
use Rattle.reading.specs.Reading.{ahead, instances_from, joined_yield}
use Rattle.reading.specs.Result.{Yield, discarded, yields}

-- octets to be skipped are skipped
pub instances-skip : (k at : ℕ) (l : List ℕ) → instances_from k at l ≡ instances_from 0 (at + k) (drop k l)
unfolding instances_from
instances-skip zero at [] = refl
instances-skip (suc k) at [] = refl
instances-skip zero at (x ∷ xs) = rw (add-zero at)
instances-skip (suc k) at (x ∷ xs) =
    let same : at + 1 + k ≡ at + suc k = omega arith in
    instances-skip k (at + 1) xs ∙ ap (λ (n : ℕ). instances_from 0 n (drop k xs)) same

-- a fault by which the data end too early
abbrev short : Yield
short = discarded (judged fault.field 0)

-- what octets yield, by the length that stands first
instances-first : (at : ℕ) (l : List ℕ) → 0 < length l
    → instances_from 0 at l
    ≡ cond (ltb (length l) 2) short
    (cond (ltb (length l - 2) (at16 l 0)) short
    (ahead (further (at + 2) (outcome_of Dhcp4 (take (at16 l 0) (drop 2 l)))) (instances_from 0 (at + 2 + at16 l 0) (drop (suc (1 + at16 l 0)) l))))
unfolding instances_from
instances-first at [] h = absurd (omega arith)
instances-first at (x ∷ xs) h =
    let l : List ℕ = x ∷ xs in
    let same : at + 1 + (1 + at16 l 0) ≡ at + 2 + at16 l 0 = omega arith in
    ap (λ (y : Yield). cond (ltb (length l) 2) short
    (cond (ltb (length l - 2) (at16 l 0)) short (ahead (further (at + 2) (outcome_of Dhcp4 (take (at16 l 0) (drop 2 l)))) y)))
    (instances-skip (1 + at16 l 0) (at + 1) xs ∙ ap (λ (n : ℕ). instances_from 0 n (drop (1 + at16 l 0) xs)) same)

-- the length says more than is left
pub instances-past : (at : ℕ) (l : List ℕ) → 2 ≤ length l → length l - 2 < at16 l 0 → instances_from 0 at l ≡ discarded (judged fault.field 0)
instances-past at l h k =
    let fits : ltb (length l) 2 ≡ false = le-ltb (length l) 2 h in
    let past : ltb (length l - 2) (at16 l 0) ≡ true = lt-ltb (length l - 2) (at16 l 0) k in
    instances-first at l (omega arith) ∙ simp (fits, past)

-- ---- the instance at an index of joined data

module _ (joined : List ℕ) (at : ℕ) (inside : at < length joined) where
  rest : List ℕ
  rest = drop at joined

  rest-length : length rest ≡ length joined - at
  unfolding rest
  rest-length = length-drop at joined

  at16-rest : at16 rest 0 ≡ at16 joined at
  unfolding rest
  at16-rest =
      let p : get_or (drop at joined) 0 0 ≡ get_or joined at 0 = get_or-drop at joined 0 0 ∙ ap (λ (n : ℕ). get_or joined n 0) (add-zero at) in
      let q : get_or (drop at joined) 1 0 ≡ get_or joined (at + 1) 0 = get_or-drop at joined 1 0 in
      cc

  -- no room for a length
  pub instance-short : length joined - at < 2 → instances_from 0 at (drop at joined) ≡ discarded (judged fault.field 0)
  unfolding rest
  instance-short h =
      let e : ltb (length rest) 2 ≡ true = lt-ltb (length rest) 2 (omega (arith, rest-length)) in
      instances-first at rest (omega (arith, rest-length)) ∙ simp e

  module _ (long : ℕ) (q : long ≡ at16 joined at) (header : 2 ≤ length joined - at) where
    header-fits : ltb (length rest) 2 ≡ false
    header-fits = le-ltb (length rest) 2 (omega (arith, rest-length))

    -- fewer octets than the length says
    pub instance-past : length joined - (at + 2) < long → instances_from 0 at (drop at joined) ≡ discarded (judged fault.field 0)
    unfolding rest
    instance-past k =
        instances-past at rest (omega (arith, rest-length)) (omega (arith, rest-length, at16-rest))

    -- an instance, and what follows it
    pub instance-whole : long ≤ length joined - (at + 2)
        → instances_from 0 at (drop at joined)
        ≡ ahead (further (at + 2) (outcome_of Dhcp4 (part (at + 2) (at + 2 + long) joined))) (instances_from 0 (at + 2 + long) (drop (at + 2 + long) joined))
    unfolding rest
    instance-whole k =
        let f : ltb (length rest - 2) (at16 rest 0) ≡ false = le-ltb (length rest - 2) (at16 rest 0) (omega (arith, rest-length, at16-rest)) in
        let size : at16 rest 0 ≡ at + 2 + long - (at + 2) = omega (arith, at16-rest) in
        let body : take (at16 rest 0) (drop 2 rest) ≡ part (at + 2) (at + 2 + long) joined =
        ap₂ (λ (n : ℕ) (l : List ℕ). take n l) size (drop-drop 2 at joined) in
        let past : at + suc (1 + at16 rest 0) ≡ at + 2 + long = omega (arith, at16-rest) in
        let after : drop (suc (1 + at16 rest 0)) rest ≡ drop (at + 2 + long) joined =
        drop-drop (suc (1 + at16 rest 0)) at joined ∙ ap (λ (n : ℕ). drop n joined) past in
        let next : at + 2 + at16 rest 0 ≡ at + 2 + long = omega (arith, at16-rest) in
        instances-first at rest (omega (arith, rest-length))
        ∙ simp (header-fits, f)
        (ap₂ (λ (b l : List ℕ). ahead (further (at + 2) (outcome_of Dhcp4 b)) (instances_from 0 (at + 2 + at16 rest 0) l)) body after
        ∙ ap (λ (n : ℕ). ahead (further (at + 2) (outcome_of Dhcp4 (part (at + 2) (at + 2 + long) joined))) (instances_from 0 n (drop (at + 2 + long) joined))) next)

pub instances-end : (joined : List ℕ) (at : ℕ) → length joined ≤ at → instances_from 0 at (drop at joined) ≡ yields []
unfolding instances_from
instances-end joined at h = ap (instances_from 0 at) (drop_of_length-le joined h)

-- ---- records in front of what later instances yield

pub before-none : (y : Yield) → before [] y ≡ y
before-none (discarded j) = refl
before-none (yields rs) = refl

pub before-ahead : (rs : List Fields) (r : Fields) (y : Yield) → before rs (ahead (kept r) y) ≡ before (rs ++ (r ∷ [])) y
before-ahead rs r (discarded j) = refl
before-ahead rs r (yields qs) = ap yields (sym (append_snoc rs r qs))

-- no instance at all, and one or more
pub joined-none : (joined : List ℕ) → length joined ≡ 0 → joined_yield joined ≡ discarded (judged fault.field 0)
unfolding joined_yield
joined-none joined h = simp h

pub joined-some : (joined : List ℕ) → (length joined ≡ 0 → ⊥) → joined_yield joined ≡ instances_from 0 0 joined
unfolding joined_yield
joined-some joined h = simp (ne_eqb (length joined) 0 h)

-- ---- an instance as it is written

-- the length that stands first is that of the body after it
counted-size : (x l : List ℕ) → length x < 65536 → length x ≡ at16 (put_counted 2 x l) 0
counted-size x l h = omega arith

-- a body of fewer than 65,536 octets after its length, and what follows
pub instance-ahead : (at : ℕ) (x l : List ℕ) → length x < 65536
    → instances_from 0 at (put_counted 2 x l) ≡ ahead (further (at + 2) (outcome_of Dhcp4 x)) (instances_from 0 (at + 2 + length x) l)
instance-ahead at x l h =
    let s : List ℕ = put_counted 2 x l in
    let n : ℕ = length x in
    let long : length s ≡ 2 + n + length l = simp length-append (omega arith) in
    let size : at16 s 0 ≡ n = sym (counted-size x l h) in
    let fits : ltb (length s) 2 ≡ false = le-ltb (length s) 2 (omega arith) in
    let whole : ltb (length s - 2) (at16 s 0) ≡ false = le-ltb (length s - 2) (at16 s 0) (omega arith) in
    let body : take (at16 s 0) (drop 2 s) ≡ x = ap (λ (m : ℕ). take m (x ++ l)) size ∙ take_at x l n refl in
    let past : suc (1 + at16 s 0) ≡ suc (suc n) = omega (arith, size) in
    let after : drop (suc (1 + at16 s 0)) s ≡ l = ap (λ (m : ℕ). drop m s) past ∙ drop_at x l n refl in
    instances-first at s (omega arith)
    ∙ simp (fits, whole)
    (ap₂ (λ (b r : List ℕ). ahead (further (at + 2) (outcome_of Dhcp4 b)) (instances_from 0 (at + 2 + at16 s 0) r)) body after
    ∙ ap (λ (m : ℕ). ahead (further (at + 2) (outcome_of Dhcp4 x)) (instances_from 0 (at + 2 + m) l)) size)

pub counted-ahead : (x l : List ℕ) → put_counted 2 x [] ++ l ≡ put_counted 2 x l
counted-ahead x l = rw (append-nil x)
