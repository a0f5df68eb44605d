-- Which numbers the judge gives: 0, or 21 to 28 (RULES R21 to R28). Assumes nothing.
use Rattle.std.specs.Prelude.{◌≡◌, ◌<◌, refl, Bool, true, false, cond, not, List, ℕ, ◌/◌, ◌%◌, ◌≤◌, ltb, eqb, length, Ok, Err}
use Rattle.std.proofs.Common.{inl, inr, arith}
use Rattle.numbers.specs.Fault as fault
use Rattle.numbers.specs.declared.Fault.{Fault}
use Rattle.numbers.specs.declared.Fault.TheVariants.{Field, Priority, Name, Addresses, Limit, Dropped, Parameters, Hint, Value, Padding}
use Rattle.numbers.specs.Limit as limit
use Rattle.carriers.specs.declared.Carrier.{Carrier}
use Rattle.carriers.specs.Carriers.{address_width, as_text}
use Rattle.addresses.specs.Addresses.{list_of}
use Rattle.svcparams.specs.Params.{params_fault}
use Rattle.svcparams.proofs.Exactly as params
use Rattle.blocks.specs.Block.{Fields}
use Rattle.judge.specs.declared.Side.{Side}
use Rattle.judge.specs.Place.{judged}
use Rattle.judge.specs.Judge.{name_of, refused_of, tail_fault, name_only_fault, on_name, judged_of, fault_of}
use Rattle.judge.specs.Passed.{FaultNumber}
use Rattle.names.specs.Automaton.{Checked}

within : (k : ℕ) → fault.priority ≤ k → k ≤ fault.value → FaultNumber k
within k l h = inr (l, h)

of_params : (k : ℕ) → params.FaultNumber k → FaultNumber k
of_params k (inl e) = inl e
of_params k (inr (inl e)) = within k (omega arith) (omega arith)
of_params k (inr (inr (inl e))) = within k (omega arith) (omega arith)
of_params k (inr (inr (inr e))) = within k (omega arith) (omega arith)

tail-number : (side : Side) (w : ℕ) (a p : List ℕ) → FaultNumber (tail_fault side w a p)
unfolding tail_fault
tail-number side w a p =
    go (eqb (length a) 0) (eqb (length a % w) 0) (ltb limit.addresses (length a / w)) (ltb limit.parameters (length p)) (refused_of side w (list_of w a))
  where
    go : (none whole many long refused : Bool)
        → FaultNumber (cond none fault.addresses
        (cond (not whole) fault.addresses (cond many fault.limit (cond long fault.limit (cond refused fault.dropped (params_fault p))))))
    go true whole many long refused = within _ (omega arith) (omega arith)
    go false false many long refused = within _ (omega arith) (omega arith)
    go false true true long refused = within _ (omega arith) (omega arith)
    go false true false true refused = within _ (omega arith) (omega arith)
    go false true false false true = within _ (omega arith) (omega arith)
    go false true false false false = of_params (params_fault p) (params.fault-number p)

name-only-number : (c : Carrier) → FaultNumber (name_only_fault c)
name-only-number c = go (as_text c)
  where
    go : (text : Bool) → FaultNumber (cond text fault.addresses 0)
    go true = within _ (omega arith) (omega arith)
    go false = inl refl

pub fault-number : (side : Side) (c : Carrier) (f : Fields) → FaultNumber (fault_of side c f)
unfolding judged_of
fault-number side c f = go (eqb f.priority 0) (name_of side c f.name) f.full
  where
    tail : ℕ
    tail = tail_fault side (address_width c) f.addresses f.parameters

    go : (zero : Bool) (n : Checked) (full : Bool)
        → FaultNumber (cond zero (judged fault.priority 0)
        (on_name n (λ place. judged fault.name place) (judged (cond full tail (name_only_fault c)) 0))).fault
    go true n full = within _ (omega arith) (omega arith)
    go false (Err place) full = within _ (omega arith) (omega arith)
    go false (Ok tt) true = tail-number side (address_width c) f.addresses f.parameters
    go false (Ok tt) false = name-only-number c

-- a fault has a number
pub number-some : (k : Fault) → fault.number_of k ≡ 0 → ⊥
number-some k e =
    let some : 0 < fault.number_of k = elim k as (λ k. 0 < fault.number_of k) [
      | Field ↦ omega arith
      | Priority ↦ omega arith
      | Name ↦ omega arith
      | Addresses ↦ omega arith
      | Limit ↦ omega arith
      | Dropped ↦ omega arith
      | Parameters ↦ omega arith
      | Hint ↦ omega arith
      | Value ↦ omega arith
      | Padding ↦ omega arith
    ] in
    omega arith
