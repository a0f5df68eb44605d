-- `writing::put_record` meets its contract: in carrier 1 the instance, else the option or attribute. Assumes nothing.
use Rattle.std.proofs.Common.{◌≡◌, arith}
use Rattle.carriers.specs.declared.Carrier.TheVariants.{Dhcp4}
use Rattle.blocks.specs.Parts.{fields_in}
use Rattle.writing.specs.LayingLaws.{instance-asked, instance-laid, option-asked, option-laid}
use Rattle.writing.proofs.put_record.Goals as goal

pub put_instance-requires : goal.put_instance-requires
put_instance-requires c =
    let a = c.args in
    let all = instance-asked a.c (fields_in a.p.now) c.in-Dhcp4.is c.requires.writable a.at c.requires.in_bounds in
    record { writable = all.0; in_bounds = all.1 }

pub put_option-requires : goal.put_option-requires
put_option-requires c =
    let a = c.args in
    let other : a.c ≡ Dhcp4 → ⊥ = λ e. grind (arith, c.in-Dhcp6.is, e) in
    let all = option-asked a.c (fields_in a.p.now) other a.at c.requires.in_bounds in
    record { plain = all.0; writable = c.requires.writable; in_bounds = all.1 }

pub returns-in-Dhcp4 : goal.returns-in-Dhcp4
returns-in-Dhcp4 c = let a = c.args in instance-laid a.c (fields_in a.p.now) c.in-Dhcp4.is c.put_instance.ensures

pub returns-in-Dhcp6 : goal.returns-in-Dhcp6
returns-in-Dhcp6 c =
    let a = c.args in
    let other : a.c ≡ Dhcp4 → ⊥ = λ e. grind (arith, c.in-Dhcp6.is, e) in
    option-laid a.c (fields_in a.p.now) other c.put_option.ensures
