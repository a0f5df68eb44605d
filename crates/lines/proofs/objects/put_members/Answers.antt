-- `lines::objects::put_members` meets its contract: its parts one after another. Assumes nothing.
use Rattle.chars.specs.PutsLaws.{puts_then}
use Rattle.lines.specs.Objects.{members_of}
use Rattle.lines.proofs.objects.put_members.Goals as goal

pub returns : goal.returns
unfolding members_of
returns c =
    let back = puts_then c.put_member-block.ensures (puts_then c.put_member-octet.ensures c.put_all.ensures.puts) in
    let whole = puts_then c.put_member-status.ensures (puts_then c.put_member-number.ensures (puts_then c.put_member-errno.ensures back)) in
    record { prefix_len = c.put_all.ensures.prefix_len; puts = whole }
