-- `findings::Lengths::address_length_at` meets its contract. Assumes nothing.
use Rattle.std.proofs.Common.{rules}
use Rattle.findings.specs.PlacesLaws.{length-text, length-wire}
use Rattle.findings.proofs.Lengths.address_length_at.Goals as goal

pub returns-then-as_text : goal.returns-then-as_text
returns-then-as_text c = search (rules, length-text)

pub returns : goal.returns
returns c = search (rules, length-wire)
