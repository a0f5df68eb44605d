-- `chars::put_number` meets its contract: the digits that are written are those of the number in decimal. Assumes nothing.
use Rattle.std.proofs.Common.{sym, ◌∙◌, arith}
use Rattle.chars.specs.AsciiLaws.{decimal-digits}
use Rattle.chars.specs.PutsLaws.{puts-as}
use Rattle.chars.proofs.put_number.Goals as goal

pub returns : goal.returns
returns c =
    let a = c.args in
    record { prefix_len = c.put_all.ensures.prefix_len; puts = puts-as (c.decimal-k.ensures.digits ∙ sym (decimal-digits c.decimal-k.result a.n (omega arith) c.decimal-k.ensures.len)) c.put_all.ensures.puts }
