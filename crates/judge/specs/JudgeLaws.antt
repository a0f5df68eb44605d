-- What each answer of the judge says of the fields: fault 0 is exactly `Passed`, and the bounds that follow. Assumes nothing.
use Rattle.std.specs.Prelude.{◌≡◌, Bool, not, ◌↔◌, List, ℕ, ◌/◌, ◌%◌, Ok, Err}
use Rattle.std.proofs.Math.Path.{refl}
use Rattle.std.proofs.Common.{sym, ap, ◌∙◌, true≢false, arith}
use Rattle.std.proofs.Math.Bool.{true, false, cond}
use Rattle.std.proofs.lemmas.Bool.{false≢true}
use Rattle.std.proofs.Math.Dec.{ltb, eqb}
use Rattle.std.proofs.Math.ListN.{length}
use borrow.Author.Tests.{eqb-true, eqb-false, ltb-false}
use Rattle.numbers.specs.Fault as fault
use Rattle.numbers.specs.Limit as limit
use Rattle.carriers.specs.declared.Carrier.{Carrier}
use Rattle.carriers.specs.Carriers.{address_width, as_text}
use Rattle.carriers.proofs.CarriersLaws.{by_address}
use Rattle.names.specs.Automaton.{Checked}
use Rattle.names.specs.Names.{IsName}
use Rattle.names.specs.Exact as names
use Rattle.texts.specs.Texts.{IsText}
use Rattle.texts.specs.Exact as texts
use Rattle.addresses.specs.Addresses.{Width, list_of}
use Rattle.addresses.specs.AddressesLaws.{four, sixteen}
use Rattle.svcparams.specs.Params.{params_fault}
use Rattle.blocks.specs.Block.{Fields}
use Rattle.judge.specs.declared.Side.{Side}
use Rattle.judge.specs.declared.Side.TheVariants.{Reading, Writing}
use Rattle.judge.specs.Place.{judged}
use Rattle.judge.specs.Judge.{name_of, refused_of, tail_fault, name_only_fault, on_name, judged_of, fault_of}
use Rattle.judge.specs.Passed.{PassedTail, Passed}
use Rattle.judge.specs.Outcomes.{tail-parameters, judged-full, judged-name-only}

-- a carrier's addresses have 4 octets or 16
pub carrier-width : (c : Carrier) → Width (address_width c)
carrier-width = by_address Width four sixteen

-- ---- 23 to 28

module _ (side : Side) (w : ℕ) (a p : List ℕ) where
  pub tail-passed : tail_fault side w a p ≡ 0 → PassedTail side w a p
  unfolding tail_fault
  tail-passed =
      go (eqb (length a) 0) (eqb (length a % w) 0) (ltb limit.addresses (length a / w)) (ltb limit.parameters (length p))
      (refused_of side w (list_of w a)) refl refl refl refl refl
    where
      go : (none whole many long refused : Bool) → eqb (length a) 0 ≡ none → eqb (length a % w) 0 ≡ whole
          → ltb limit.addresses (length a / w) ≡ many → ltb limit.parameters (length p) ≡ long → refused_of side w (list_of w a) ≡ refused
          → cond none fault.addresses
          (cond (not whole) fault.addresses (cond many fault.limit (cond long fault.limit (cond refused fault.dropped (params_fault p))))) ≡ 0
          → PassedTail side w a p
      go true whole many long refused n h m l r e = absurd (omega arith)
      go false false many long refused n h m l r e = absurd (omega arith)
      go false true true long refused n h m l r e = absurd (omega arith)
      go false true false true refused n h m l r e = absurd (omega arith)
      go false true false false true n h m l r e = absurd (omega arith)
      go false true false false false n h m l r e =
          let some : length a ≡ 0 → ⊥ = eqb-false _ _ n in
          record {
            some = omega arith;
            whole = eqb-true _ _ h;
            few = ltb-false _ _ m;
            short = ltb-false _ _ l;
            usable = r;
            sound = e;
          }

  pub passed-tail : PassedTail side w a p → tail_fault side w a p ≡ 0
  passed-tail k =
      let some : length a ≡ 0 → ⊥ = λ e. omega (arith, k.some) in
      sym (tail-parameters side w a p some k.whole k.few k.short _ refl 0 k.usable (sym k.sound))

name-only-passed : (c : Carrier) → name_only_fault c ≡ 0 → as_text c ≡ false
name-only-passed c = go (as_text c) refl
  where
    go : (text : Bool) → as_text c ≡ text → cond text fault.addresses 0 ≡ 0 → as_text c ≡ false
    go true t e = absurd (omega arith)
    go false t e = t

-- ---- 21 to 28

module _ (side : Side) (c : Carrier) (f : Fields) where
  pub fault-passed : fault_of side c f ≡ 0 → Passed side c f
  unfolding judged_of
  fault-passed = go (eqb f.priority 0) (name_of side c f.name) f.full refl refl refl
    where
      go : (zero : Bool) (n : Checked) (full : Bool) → eqb f.priority 0 ≡ zero → name_of side c f.name ≡ n → f.full ≡ full
          → (cond zero (judged fault.priority 0)
          (on_name n (λ place. judged fault.name place)
          (judged (cond full (tail_fault side (address_width c) f.addresses f.parameters) (name_only_fault c)) 0))).fault ≡ 0
          → Passed side c f
      go true n full p m u e = absurd (omega arith)
      go false (Err place) full p m u e = absurd (omega arith)
      go false (Ok tt) true p m u e =
          record {
            service = eqb-false _ _ p;
            named = m;
            tail = λ _. tail-passed side (address_width c) f.addresses f.parameters e;
            name_only = λ v. absurd (true≢false (sym u ∙ v));
          }
      go false (Ok tt) false p m u e =
          record {
            service = eqb-false _ _ p;
            named = m;
            tail = λ v. absurd (false≢true (sym u ∙ v));
            name_only = λ _. name-only-passed c e;
          }

  pub passed-fault : Passed side c f → fault_of side c f ≡ 0
  passed-fault k = go f.full refl
    where
      go : (full : Bool) → f.full ≡ full → fault_of side c f ≡ 0
      go true u =
          let t = sym (passed-tail side (address_width c) f.addresses f.parameters (k.tail u)) in
          ap (λ j. j.fault) (sym (judged-full side c f.priority f.name f.full f.addresses f.parameters k.service 0 (sym k.named) u t))
      go false u =
          let t : 0 ≡ name_only_fault c = simp (k.name_only u) in
          ap (λ j. j.fault) (sym (judged-name-only side c f.priority f.name f.full f.addresses f.parameters k.service 0 (sym k.named) u t))

  pub judge-exactly : (fault_of side c f ≡ 0) ↔ Passed side c f
  judge-exactly = (fault-passed, passed-fault)

-- ---- names that pass

module _ (c : Carrier) (name : List ℕ) where
  pub read-text : as_text c ≡ true → name_of Reading c name ≡ Ok tt → IsText name
  read-text t e = (texts.good name).0 (rw t at e)

  pub read_name : as_text c ≡ false → name_of Reading c name ≡ Ok tt → IsName name
  read_name t e = (names.good name).0 (rw t at e)

  pub written-name : name_of Writing c name ≡ Ok tt → IsName name
  written-name e = (names.good name).0 e
