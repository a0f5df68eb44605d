-- `showing::put_sheet` meets its contract: what taking answers decides what is shown. Assumes nothing.
use Rattle.showing.specs.SheetLaws.{shown-nothing, shown-sheet}
use Rattle.showing.proofs.put_sheet.Goals as goal

pub returns-in_default : goal.returns-in_default
returns-in_default c = shown-nothing _ _ c.in_default.ensures c.min.ensures

pub returns : goal.returns
returns c = shown-sheet _ _ c.in-Ok.ensures c.put_head-from.ensures c.put_records-end.ensures c.put_json.ensures
