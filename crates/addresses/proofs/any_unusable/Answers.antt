-- `addresses::any_unusable` meets its contract: one is to be dropped where fewer are kept, or where one is found. Assumes nothing.
use Rattle.std.proofs.Common.{sym, ap₂, ◌∙◌, ltb}
use Rattle.addresses.specs.Addresses.{list_of}
use Rattle.addresses.specs.AddressesLaws.{list_length, fewer-any}
use Rattle.addresses.proofs.any_unusable.Goals as goal

pub returns-then-s-lt65536 : goal.returns-then-s-lt65536
returns-then-s-lt65536 c =
    let args = c.args in
    let more = list_of args.w args.s.now in
    ap₂ ltb c.kept_count.ensures.value (sym (list_length args.w args.s.now)) ∙ fewer-any args.w more
