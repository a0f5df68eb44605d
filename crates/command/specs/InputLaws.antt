-- What each test of the command says of what is done, and that each status is one of the four. Assumes nothing.
use Rattle.std.specs.Prelude.{◌≡◌, refl, Bool, true, false, List, ℕ, min, length, take, leb, ℤ, pos, Option, Some, None}
use Rattle.std.proofs.Common.{sym, subst, ◌∙◌, arith, take_all}
use Rattle.std.proofs.Math.Path.{ap}
use borrow.Author.Tests.{leb-true, leb-false}
use Rattle.carriers.specs.Told.{carrier_in}
use Rattle.vetting.specs.Vetting.{vet_of}
use Rattle.vetting.specs.Vetting as vetting
use Rattle.inputs.specs.Read.{Read, Octets, Bad, Long}
use Rattle.decoding.specs.Decoding.{Answer, Answered}
use Rattle.arguments.specs.declared.asked.Asked.{Asked}
use Rattle.arguments.specs.declared.Command.{Command}
use Rattle.arguments.specs.declared.Command.TheVariants as command
use Rattle.files.specs.Status.{Exited, refused, failed}
use Rattle.files.specs.StatusLaws.{failed-exited, refused-exited, delivered-exited, answers-exited}
use Rattle.command.specs.Numbers.{reading_of, write_number, performing, Performs, takes, Takes}
use Rattle.command.specs.NumbersLaws.{read-exited, shows-exited}

-- ---- by the command

performing-exited : (c : Option Command) (a : Asked) (s : List ℕ) (r : ℤ) → performing c a s r → Exited r
performing-exited None a s r h = delivered-exited r h
performing-exited (Some command.Read) a s r h = read-exited a.strict (reading_of (carrier_in a.carrier) s) r h
performing-exited (Some command.Write) a s r h = answers-exited (write_number s) r h
performing-exited (Some command.Show) a s r h = shows-exited (vetting.told (vet_of s)) r h
performing-exited (Some command.Octets) a s r h = delivered-exited r h
performing-exited (Some command.Help) a s r h = delivered-exited r h
performing-exited (Some command.Version) a s r h = delivered-exited r h

-- ---- by the input

-- no more octets are taken than there are
take-some : (k e : ℕ) (l : List ℕ) → e ≡ min k (length l) → take e l ≡ take k l
take-some k e l m = go (leb k (length l)) refl
  where
    go : (b : Bool) → leb k (length l) ≡ b → take e l ≡ take k l
    go true h = let q : e ≡ k = omega (arith, leb-true k (length l) h) in ap (λ (n : ℕ). take n l) q
    go false h = let q = leb-false k (length l) h in take_all e l (omega arith) ∙ sym (take_all k l (omega arith))

pub answered-as : {i j : Answer} {r : Read} {out' : List ℕ} → i ≡ j → Answered i r out' → Answered j r out'
answered-as {i} {j} {r} {out'} e h = subst (λ (k : Answer). Answered k r out') e h

-- the status, by what was answered
module _ (a : Asked) {i : Answer} {r : Read} {out' : List ℕ} (h : Answered i r out') where
  taken : (x : ℤ) → takes a r out' x → Takes a i x
  taken x t = subst (λ (l : List ℕ). takes a i.read l x) h.leaves (subst (λ (k : Read). takes a k out' x) h.answered t)

  -- no more octets are taken than the buffer has
  pub takes-octets : {n m : ℕ} → r ≡ Octets n → m ≡ min n (length out') → (x : ℤ) → Performs a (take m out') x → Takes a i x
  takes-octets {n} {m} e f x p =
      let q = subst (λ (l : List ℕ). Performs a l x) (take-some n m out' f) p in
      taken x (subst (λ (k : Read). takes a k out' x) (sym e) q)

  pub takes-bad : {at w : ℕ} → r ≡ Bad at w → (x : ℤ) → x ≡ pos failed → Takes a i x
  takes-bad {at} {w} e x p = taken x (subst (λ (k : Read). takes a k out' x) (sym e) p)

  pub takes-long : r ≡ Long → (x : ℤ) → x ≡ pos refused → Takes a i x
  takes-long e x p = taken x (subst (λ (k : Read). takes a k out' x) (sym e) p)

takes-read : (a : Asked) (k : Read) (out : List ℕ) (x : ℤ) → takes a k out x → Exited x
takes-read a (Octets n) out x h =
    performing-exited a.command a (take n out) x h
takes-read a (Bad at w) out x h = failed-exited x h
takes-read a Long out x h = refused-exited x h

pub takes-exited : (a : Asked) (i : Answer) (x : ℤ) → Takes a i x → Exited x
takes-exited a i x h = takes-read a i.read i.out x h
