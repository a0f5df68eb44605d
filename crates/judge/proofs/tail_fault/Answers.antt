-- `judge::tail_fault` meets its contract: one outcome for each return. Assumes nothing.
use Rattle.judge.specs.Outcomes.{tail_none, tail-odd, tail-many, tail-long, tail-dropped, tail-parameters}
use Rattle.judge.proofs.tail_fault.Goals as goal

pub returns-then-n-eq0 : goal.returns-then-n-eq0
returns-then-n-eq0 c = tail_none _ _ _ _ c.if-n-eq0.true

pub returns-then-n-w-ne0 : goal.returns-then-n-w-ne0
returns-then-n-w-ne0 c = tail-odd _ _ _ _ c.if-n-eq0.false c.if-n-w-ne0.true

pub returns-then-n-w-gt-ADDRESSES : goal.returns-then-n-w-gt-ADDRESSES
returns-then-n-w-gt-ADDRESSES c = tail-many _ _ _ _ c.if-n-eq0.false c.if-n-w-ne0.false c.if-n-w-gt-ADDRESSES.true

pub returns-then-parameters-gt-PARAMETERS : goal.returns-then-parameters-gt-PARAMETERS
returns-then-parameters-gt-PARAMETERS c = tail-long _ _ _ _ c.if-n-eq0.false c.if-n-w-ne0.false c.if-n-w-gt-ADDRESSES.false c.if-parameters-gt-PARAMETERS.true

pub returns-then-refused : goal.returns-then-refused
returns-then-refused c = tail-dropped _ _ _ _ c.if-n-eq0.false c.if-n-w-ne0.false c.if-n-w-gt-ADDRESSES.false c.if-parameters-gt-PARAMETERS.false _ c.refused.ensures c.if-refused.true

pub returns : goal.returns
returns c = tail-parameters _ _ _ _ c.if-n-eq0.false c.if-n-w-ne0.false c.if-n-w-gt-ADDRESSES.false c.if-parameters-gt-PARAMETERS.false _ c.refused.ensures _ c.if-refused.false c.params_fault.ensures
