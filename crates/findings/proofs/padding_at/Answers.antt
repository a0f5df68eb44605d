-- `findings::padding_at` meets its contract, by the two ends that padding can follow. Assumes nothing.
use Rattle.findings.specs.PlacesLaws.{padding-after-name, padding-after-fields}
use Rattle.findings.proofs.padding_at.Goals as goal

pub returns-then-b-name_end-clause-value : goal.returns-then-b-name_end-clause-value
returns-then-b-name_end-clause-value c = padding-after-name _ c.near16-name_end.ensures.value c.if-b-name_end.true

pub returns-clause-value : goal.returns-clause-value
returns-clause-value c = padding-after-fields _ c.near16-name_end.ensures.value c.if-b-name_end.false c.near16.ensures.value c.near16-2.ensures.value
