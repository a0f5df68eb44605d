-- The cycle of calls {after_hyphen, after_letter}: at each return one lemma of Outcomes says what the walk answers on the way there. Assumes nothing.
use Rattle.std.proofs.Common.{rules}
use Rattle.names.specs.AnsweredLaws.{told, told-not, told-not-not}
use Rattle.names.specs.Outcomes.{bad-first-octet, cut-at-first, hyphen-cut, hyphen-hyphen, hyphen-letter, hyphen-other, label-opens, label-unfit, letter-cut, letter-hyphen, letter-letter, letter-other, root-first, root-last, root-more}
use Rattle.names.proofs.+after_hyphen_after_letter.Goals as goal

pub after_hyphen-returns-then-left-stop : goal.after_hyphen-returns-then-left-stop
after_hyphen-returns-then-left-stop c = search (rules, hyphen-cut)

pub after_hyphen-returns-then-is_alnum : goal.after_hyphen-returns-then-is_alnum
after_hyphen-returns-then-is_alnum c = search (rules, hyphen-letter, told)

pub after_hyphen-returns-then-hyphen_fits : goal.after_hyphen-returns-then-hyphen_fits
after_hyphen-returns-then-hyphen_fits c = search (rules, hyphen-hyphen, told)

pub after_hyphen-returns : goal.after_hyphen-returns
after_hyphen-returns c = search (rules, hyphen-other, told)

pub after_letter-returns-then-left-eq0 : goal.after_letter-returns-then-left-eq0
after_letter-returns-then-left-eq0 c = search (rules, letter-cut)

pub after_letter-returns-then-at-eq0 : goal.after_letter-returns-then-at-eq0
after_letter-returns-then-at-eq0 c = search (rules, root-first)

pub after_letter-returns-then-rest-gt0 : goal.after_letter-returns-then-rest-gt0
after_letter-returns-then-rest-gt0 c = search (rules, root-more)

pub after_letter-returns-then-b-eq0 : goal.after_letter-returns-then-b-eq0
after_letter-returns-then-b-eq0 c = search (rules, root-last)

pub after_letter-returns-then-not-label_fits : goal.after_letter-returns-then-not-label_fits
after_letter-returns-then-not-label_fits c = search (rules, label-unfit, told-not)

pub after_letter-returns-then-rest-eq0 : goal.after_letter-returns-then-rest-eq0
after_letter-returns-then-rest-eq0 c = search (rules, cut-at-first, told-not-not)

pub after_letter-returns-then-is_alnum : goal.after_letter-returns-then-is_alnum
after_letter-returns-then-is_alnum c = search (rules, label-opens, told, told-not-not)

pub after_letter-returns-then-left-stop : goal.after_letter-returns-then-left-stop
after_letter-returns-then-left-stop c = search (rules, bad-first-octet, told, told-not-not)

pub after_letter-returns-then-is_alnum-2 : goal.after_letter-returns-then-is_alnum-2
after_letter-returns-then-is_alnum-2 c = search (rules, letter-letter, told)

pub after_letter-returns-then-hyphen_fits : goal.after_letter-returns-then-hyphen_fits
after_letter-returns-then-hyphen_fits c = search (rules, letter-hyphen, told)

pub after_letter-returns : goal.after_letter-returns
after_letter-returns c = search (rules, letter-other, told)
