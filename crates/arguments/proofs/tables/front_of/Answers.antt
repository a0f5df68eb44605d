-- `arguments::tables::front_of` meets its contract: the tests in order. Assumes nothing.
use Rattle.std.proofs.Common.{sym, ◌∙◌}
use Rattle.chars.specs.Ascii.{ascii}
use Rattle.arguments.specs.TablesLaws.{starts_begins}
use Rattle.arguments.proofs.tables.front_of.Goals as goal

pub returns-then-starts_with : goal.returns-then-starts_with
returns-then-starts_with c =
    let short = c.starts_with.ensures.value ∙ starts_begins (ascii "-o") c.args.word.now in
    simp (sym short ∙ c.if-starts_with.true)

pub returns-then-starts_with-2 : goal.returns-then-starts_with-2
returns-then-starts_with-2 c =
    let short = c.starts_with.ensures.value ∙ starts_begins (ascii "-o") c.args.word.now in
    let long = c.starts_with-2.ensures.value ∙ starts_begins (ascii "--output=") c.args.word.now in
    simp (sym short ∙ c.if-starts_with.false, sym long ∙ c.if-starts_with-2.true)

pub returns : goal.returns
returns c =
    let short = c.starts_with.ensures.value ∙ starts_begins (ascii "-o") c.args.word.now in
    let long = c.starts_with-2.ensures.value ∙ starts_begins (ascii "--output=") c.args.word.now in
    simp (sym short ∙ c.if-starts_with.false, sym long ∙ c.if-starts_with-2.false)
