-- `layouts::put_body` meets its contract: that of the form's own function. Assumes nothing.
use Rattle.layouts.specs.LayoutsLaws.{writable-fits}
use Rattle.layouts.proofs.put_body.Goals as goal

pub put_attribute-requires-clause-fits : goal.put_attribute-requires-clause-fits
put_attribute-requires-clause-fits c = writable-fits _ _ c.requires.writable
