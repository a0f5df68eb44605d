-- `telling::Teller::dropped` meets its contract: the addresses lie within the body. Assumes nothing.
use Rattle.std.proofs.Common.{sym, arith, ℕ, ◌+◌, ◌≤◌, ◌≡◌, List, true, length}
use Rattle.octets.specs.Numbers.{Bytes}
use Rattle.octets.specs.NumbersLaws.{bytes-at}
use Rattle.carriers.specs.declared.Carrier.{Carrier}
use Rattle.blocks.specs.Block.{Fields}
use Rattle.blocks.specs.Parse.{fields, parse}
use Rattle.blocks.specs.Parts.{fields_in}
use Rattle.findings.specs.SizesLaws.{addresses-inside}
use Rattle.findings.specs.Troubles.{addresses_at}
use Rattle.telling.proofs.Teller.dropped.Goals as goal

-- the addresses of what a body is split into end within it
inside : (c : Carrier) (b : List ℕ) (f : Fields) {at n : ℕ} → Bytes b → fields f ≡ parse c b → f.full ≡ true → at ≡ addresses_at c n → n ≡ length f.name
    → at + length f.addresses ≤ length b
inside c b f h e u q n = rw (q, n) (addresses-inside c b f h (sym e) u)

pub overflow_add-start : goal.overflow_add-start
overflow_add-start g c =
    let octets = bytes-at c.args.body.now (λ i. omega (arith, c.type_inv.body i)) in
    let e = c.of.ensures in
    omega (
      arith,
      inside c.args.self.now.carrier c.args.body.now (fields_in c.in-Ok.parts) octets c.in-Ok.ensures.result_value c.if-parts.true
          (rw e.0 at c.addresses_at-at.ensures) e.1,
      c.requires,
    )

pub addresses-requires : goal.addresses-requires
addresses-requires g c =
    let octets = bytes-at c.args.body.now (λ i. omega (arith, c.type_inv.body i)) in
    let e = c.of.ensures in
    omega (
      arith,
      inside c.args.self.now.carrier c.args.body.now (fields_in c.in-Ok.parts) octets c.in-Ok.ensures.result_value c.if-parts.true
          (rw e.0 at c.addresses_at-at.ensures) e.1,
      c.requires,
    )
