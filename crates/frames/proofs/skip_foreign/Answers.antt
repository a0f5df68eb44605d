-- `frames::skip_foreign` meets its contract: where it calls `skip_wide`, the row is that of a carrier with 16-bit lengths. Assumes nothing.
use Rattle.std.proofs.Common.{sym, ap, ◌∙◌, rules}
use Rattle.carriers.specs.declared.Facts.{Facts}
use Rattle.frames.specs.Skip.{none}
use Rattle.frames.proofs.skip_foreign.Goals as goal

pub returns-then-f : goal.returns-then-f
returns-then-f c = search (rules, none)

pub returns : goal.returns
returns c =
    let row = c.facts-f.ensures in
    c.skip_wide.ensures.skips
    (record {
      code_is = sym (ap (λ (f : Facts). f.code) row);
      reserved_is = sym (ap (λ (f : Facts). f.reserved) row);
      width = sym (ap (λ (f : Facts). f.width) row) ∙ c.if-f-ne-WIDE.false;
      octets = sym (ap (λ (f : Facts). f.eights) row) ∙ c.if-f-2.false;
      apart = sym (ap (λ (f : Facts). f.joined) row) ∙ c.if-f.false;
    })
