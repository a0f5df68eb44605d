-- `frames::skip_wide` meets its contract. The invariant: only whole options of other codes stand before `at`, which is within the area.
-- The measure is what is left of the area. Assumes nothing.
use Rattle.std.proofs.Common.{◌∙◌, arith}
use Rattle.frames.specs.SkipLaws.{passes_none, passes-more}
use Rattle.frames.proofs.skip_wide.Goals as goal

pub loop-at-init : goal.loop-at-init
loop-at-init c = passes_none c.requires

pub loop-at-preserved-then-h-eq0 : goal.loop-at-preserved-then-h-eq0
loop-at-preserved-then-h-eq0 c =
    passes-more c.loop-at.invariant
    (record {
      header = c.if-area-at-lt-WIDE_HEADER.false;
      other = λ q. c.if-bare_code-code.false (c.bare_code.ensures ∙ rw c.header_in-h.ensures.code_value q);
      says = omega (arith, c.if-h-eq0.true, c.from-n.ensures, c.header_in-h.ensures.lower_value);
      whole = c.if-area-start.false;
    })

pub loop-at-preserved : goal.loop-at-preserved
loop-at-preserved c =
    passes-more c.loop-at.invariant
    (record {
      header = c.if-area-at-lt-WIDE_HEADER.false;
      other = λ q. c.if-bare_code-code.false (c.bare_code.ensures ∙ rw c.header_in-h.ensures.code_value q);
      says = c.wide16-n.ensures.value ∙ c.header_in-h.ensures.lower_value;
      whole = c.if-area-start-2.false;
    })
