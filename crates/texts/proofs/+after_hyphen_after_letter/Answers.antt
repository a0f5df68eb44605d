-- The cycle of calls {after_hyphen, after_letter}: at each return one lemma of Outcomes says what the walk answers on the way there. Assumes nothing.
use Rattle.std.proofs.Common.{rules}
use Rattle.names.specs.AnsweredLaws.{told}
use Rattle.texts.specs.Outcomes.{
  hyphen-end,
  hyphen-hyphen,
  hyphen-letter,
  hyphen-other,
  hyphen_last,
  label-missing,
  label-opens,
  label-other,
  letter-end,
  letter-far,
  letter-hyphen,
  letter-last,
  letter-letter,
  letter-long,
  letter-other,
}
use Rattle.texts.proofs.+after_hyphen_after_letter.Goals as goal

pub after_hyphen-returns-then-left-eq0 : goal.after_hyphen-returns-then-left-eq0
after_hyphen-returns-then-left-eq0 c = search (rules, hyphen-end)

pub after_hyphen-returns-then-is_alnum : goal.after_hyphen-returns-then-is_alnum
after_hyphen-returns-then-is_alnum c = search (rules, hyphen-letter, told)

pub after_hyphen-returns-then-b-ne45 : goal.after_hyphen-returns-then-b-ne45
after_hyphen-returns-then-b-ne45 c = search (rules, hyphen-other, told)

pub after_hyphen-returns-then-label-le1 : goal.after_hyphen-returns-then-label-le1
after_hyphen-returns-then-label-le1 c = search (rules, hyphen_last, told)

pub after_hyphen-returns : goal.after_hyphen-returns
after_hyphen-returns c = search (rules, hyphen-hyphen, told)

pub after_letter-returns-then-left-eq0 : goal.after_letter-returns-then-left-eq0
after_letter-returns-then-left-eq0 c = search (rules, letter-end)

pub after_letter-returns-then-label-eq0 : goal.after_letter-returns-then-label-eq0
after_letter-returns-then-label-eq0 c = search (rules, letter-long, told)

pub after_letter-returns-then-is_alnum : goal.after_letter-returns-then-is_alnum
after_letter-returns-then-is_alnum c = search (rules, letter-letter, told)

pub after_letter-returns-then-label-le1 : goal.after_letter-returns-then-label-le1
after_letter-returns-then-label-le1 c = search (rules, letter-last, told)

pub after_letter-returns-then-b-eq45 : goal.after_letter-returns-then-b-eq45
after_letter-returns-then-b-eq45 c = search (rules, letter-hyphen, told)

pub after_letter-returns-then-b-ne46 : goal.after_letter-returns-then-b-ne46
after_letter-returns-then-b-ne46 c = search (rules, letter-other, told)

pub after_letter-returns-then-at-gt251 : goal.after_letter-returns-then-at-gt251
after_letter-returns-then-at-gt251 c = search (rules, letter-far, told)

pub after_letter-returns-then-rest-eq0 : goal.after_letter-returns-then-rest-eq0
after_letter-returns-then-rest-eq0 c = search (rules, label-missing, told)

pub after_letter-returns-then-is_alnum-2 : goal.after_letter-returns-then-is_alnum-2
after_letter-returns-then-is_alnum-2 c = search (rules, label-opens, told)

pub after_letter-returns : goal.after_letter-returns
after_letter-returns c = search (rules, label-other, told)
