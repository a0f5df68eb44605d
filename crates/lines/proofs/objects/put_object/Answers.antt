-- `lines::objects::put_object` meets its contract: its parts one after another. Assumes nothing.
use Rattle.chars.specs.PutsLaws.{puts_then}
use Rattle.lines.specs.Objects.{object_of}
use Rattle.lines.proofs.objects.put_object.Goals as goal

pub returns : goal.returns
unfolding object_of
returns c =
    let whole = puts_then c.put_all-from.ensures.puts (puts_then c.put_inner-end.ensures (puts_then c.put_all-next.ensures.puts c.put_members.ensures.puts)) in
    record { prefix_len = c.put_members.ensures.prefix_len; puts = whole }
