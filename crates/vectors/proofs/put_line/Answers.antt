-- `vectors::put_line` meets its contract: by the length of the line. Assumes nothing.
use Rattle.std.proofs.Common.{ap, ◌∙◌, List, [], ℕ, drop, le-leb}
use borrow.Author.Tests.{lt-leb}
use Rattle.octets.specs.ListsLaws.{take_rest}
use Rattle.hexes.specs.Decoding.{decode_of}
use Rattle.chars.specs.PutsLaws.{puts-as}
use Rattle.vectors.specs.Answers.{case_text, decoded_text, line_text}
use Rattle.vectors.proofs.put_line.Goals as goal

pub returns-then-line-le2 : goal.returns-then-line-le2
unfolding line_text
returns-then-line-le2 c =
    simp (le-leb _ _ c.if-line-le2.true) (puts-as (ap (λ (l : ℕ). case_text l []) c.letter_of-letter.ensures) c.put_case.ensures)

pub returns : goal.returns
unfolding line_text
returns c =
    let s = c.args.line.now in
    let rest = ap (λ (x : List ℕ). decoded_text c.letter_of-letter.result (decode_of x 4096)) (take_rest 2 s) in
    let letter = ap (λ (l : ℕ). decoded_text l (decode_of (drop 2 s) 4096)) c.letter_of-letter.ensures in
    simp (lt-leb _ _ c.if-line-le2.false) (puts-as (rest ∙ letter) c.put_decoded.ensures)
