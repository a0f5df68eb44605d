-- `frames::head_in` meets its contract: each return is one of the laws of `head_in`, at what the calls before it ensure, and so has its number.
-- Assumes nothing.
use Rattle.std.proofs.Common.{◌≡◌, sym, ap, ap₂, ◌∙◌, Bool, List, ℕ, ◌+◌, ◌≤◌, arith, eqb-true, length, eqb, Ok}
use Rattle.std.proofs.lemmas.Bool.{eqb-false}
use Rattle.octets.specs.Numbers.{number_at}
use Rattle.carriers.specs.declared.Carrier.{Carrier}
use Rattle.carriers.specs.declared.Facts.{Facts}
use Rattle.carriers.specs.Carriers.{facts_of, header_of, head_width, bare_code, octets}
use Rattle.carriers.proofs.CarriersLaws.{headed}
use Rattle.frames.specs.declared.Head.{Head}
use Rattle.frames.specs.Frame.{whole_size, code_in, size_in}
use Rattle.frames.specs.HeadLaws.{head-short, head-none, head-option}
use Rattle.frames.specs.ToldLaws.{head-exactly}
use Rattle.frames.proofs.head_in.Goals as goal

-- a row of the table: its width, of one octet or two
few : (c : Carrier) {f : Facts} → f ≡ facts_of c → (f.width ≡ head_width c) × (head_width c ≤ 2)
few c e = (ap (λ (f : Facts). f.width) e, (headed c).few)

-- the octets of an option, as its length was read
said : (c : Carrier) (s : List ℕ) {f : Facts} {n : ℕ} → f ≡ facts_of c → n ≡ number_at f.width f.width s
    → whole_size f.eights (f.width + f.width) n ≡ size_in c s
said c s {f} e r =
    ap (whole_size f.eights (f.width + f.width)) r ∙ ap (λ (f : Facts). whole_size f.eights (f.width + f.width) (number_at f.width f.width s)) e

pub returns-then-s-header : goal.returns-then-s-header
returns-then-s-header c =
    let width = few c.args.c c.facts-f.ensures in
    let a = c.args in
    let e = sym (head-short a.c a.s.now (omega (arith, width))) in
    record { value = e; variant = head-exactly a.c a.s.now _ e }

pub returns-then-none : goal.returns-then-none
returns-then-none c =
    let width = few c.args.c c.facts-f.ensures in
    let room : header_of c.args.c ≤ length c.args.s.now = omega (arith, width) in
    let size : c.whole_size-size.result.0 ≡ size_in c.args.c c.args.s.now =
    c.whole_size-size.ensures ∙ said c.args.c c.args.s.now c.facts-f.ensures (c.wide16.ensures.value ∙ c.header_in-h.ensures.lower_value) in
    let a = c.args in
    let none = sym (head-none a.c a.s.now room (sym size ∙ eqb-true _ _ (sym c.none.ensures ∙ c.if-none.true))) in
    record { value = none; variant = head-exactly a.c a.s.now _ none }

pub returns : goal.returns
returns c =
    let width = few c.args.c c.facts-f.ensures in
    let room : header_of c.args.c ≤ length c.args.s.now = omega (arith, width) in
    let size : c.whole_size-size.result.0 ≡ size_in c.args.c c.args.s.now =
    c.whole_size-size.ensures ∙ said c.args.c c.args.s.now c.facts-f.ensures (c.wide16.ensures.value ∙ c.header_in-h.ensures.lower_value) in
    let f = c.facts-f.result in
    let a = c.args in
    let s = a.s.now in
    let code : c.bare_code.result ≡ code_in a.c s =
    c.bare_code.ensures ∙ ap (bare_code f.reserved) c.header_in-h.ensures.code_value
    ∙ ap (λ (f : Facts). bare_code f.reserved (number_at f.width 0 s)) c.facts-f.ensures in
    let option =
    ap₂ (λ (own : Bool) (n : ℕ). Ok (Head.Option own (octets n))) (ap₂ eqb code (ap (λ (f : Facts). f.code) c.facts-f.ensures)) size
    ∙ sym (head-option a.c s room (λ z. eqb-false _ _ (sym c.none.ensures ∙ c.if-none.false) (size ∙ z))) in
    record { value = option; variant = head-exactly a.c s _ option }

pub overflow_add-header : goal.overflow_add-header
overflow_add-header c =
    let width = few c.args.c c.facts-f.ensures in
    omega (arith, width)

pub header_in-h-requires : goal.header_in-h-requires
header_in-h-requires c =
    let width = few c.args.c c.facts-f.ensures in
    let p = (headed c.args.c).some in (omega arith, omega arith, omega arith)

pub whole_size-size-requires : goal.whole_size-size-requires
whole_size-size-requires c =
    let width = few c.args.c c.facts-f.ensures in
    omega (arith, width)
