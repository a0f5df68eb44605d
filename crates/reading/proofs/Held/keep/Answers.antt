-- `reading::Held::keep` meets its contract: a slot more, or that there are more records. Assumes nothing.
use Rattle.std.proofs.Common.{refl, inl, inr, Ok}
use Rattle.records.specs.Examined.{verdict_in}
use Rattle.reading.proofs.Seeing.{grown}
use Rattle.reading.proofs.Held.keep.Goals as goal

pub returns-in-Ok : goal.returns-in-Ok
returns-in-Ok c = let a = c.args in inl (grown a.self.now (verdict_in (Ok a.e)) _ _ c.in-Ok.ensures c.slot_of.ensures, refl)

pub returns-in-Err : goal.returns-in-Err
returns-in-Err c = rw c.in-Err.ensures.1 (inr (c.in-Err.ensures.0, refl))
