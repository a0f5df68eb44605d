-- `values::put_escaped` meets its contract: an octet after a backslash, as it is, or by its code. Assumes nothing.
use Rattle.std.proofs.Common.{⊎_elim, arith}
use Rattle.chars.specs.PutsLaws.{puts-as}
use Rattle.values.specs.ValueLaws.{escaped-low, escaped-high, escaped-plain, escaped-backslash, escaped-quotation, escaped-comma}
use Rattle.values.proofs.put_escaped.Goals as goal

pub returns-in-92 : goal.returns-in-92
returns-in-92 c = rw c.in-92.is (puts-as (escaped-backslash _) c.put_either.ensures)

pub returns-in-34 : goal.returns-in-34
returns-in-34 c = rw c.in-34.is (puts-as (escaped-quotation _) c.put_either-in-34.ensures)

pub returns-in-44 : goal.returns-in-44
returns-in-44 c = rw c.in-44.is (puts-as (escaped-comma _) c.put_either-in-44.ensures)

pub returns-in_default : goal.returns-in_default
returns-in_default c =
    let shown = c.if-is_ascii_graphic.ensures.cases in
    puts-as (escaped-plain _ (omega (arith, shown)) (omega (arith, shown)) (λ e. omega arith) (λ e. omega arith) (λ e. omega arith)) c.put.ensures.puts

pub returns-in_default-2 : goal.returns-in_default-2
returns-in_default-2 c =
    puts-as (⊎_elim (λ h. escaped-low _ (omega (arith, h))) (λ h. escaped-high _ (omega (arith, h))) c.if-is_ascii_graphic.ensures.cases) c.put_code.ensures
