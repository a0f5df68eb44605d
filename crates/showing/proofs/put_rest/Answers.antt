-- `showing::put_rest` meets its contract: lists in mode 1, and else that there are none. Assumes nothing.
use Rattle.blocks.specs.Parts.{fields_in}
use Rattle.chars.specs.PutsLaws.{puts-as}
use Rattle.showing.specs.PartLaws.{rest-full, rest-short}
use Rattle.showing.proofs.put_rest.Goals as goal

pub returns-then-p : goal.returns-then-p
returns-then-p c = let a = c.args in puts-as (rest-full a.json a.c (fields_in a.p.now) c.if-p.true) c.put_lists.ensures

pub returns : goal.returns
returns c = let a = c.args in puts-as (rest-short a.json a.c (fields_in a.p.now) c.if-p.false) c.put_either.ensures
