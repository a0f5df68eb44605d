-- `base64_text::Quantum::moved` meets its contract: a character that has no value leads nowhere. Assumes nothing.
use Rattle.std.proofs.Common.{ne_eqb, sym, ◌∙◌, refl}
use Rattle.base64_text.specs.Base64.{moved, filled}
use Rattle.base64_text.proofs.Quantum.moved.Goals as goal

pub returns-in_err-value : goal.returns-in_err-value
unfolding moved filled
returns-in_err-value c =
    rw (c.from_residual.ensures, sym c.is_blank.ensures ∙ c.if-is_blank.false, ne_eqb _ _ c.if-x-eq61.false, c.in_err-value.ensures) refl
