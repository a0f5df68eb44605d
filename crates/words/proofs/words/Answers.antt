-- `words::words` meets its contract: an arm for each number of the table. Assumes nothing.
use Rattle.std.proofs.Common.{rules, tests, refl}
use Rattle.words.specs.Words.{table, words_in}
use Rattle.words.proofs.words.Goals as goal

pub returns-in-0 : goal.returns-in-0
unfolding table words_in
returns-in-0 c = rw c.in-0.is refl

pub returns-in-1 : goal.returns-in-1
unfolding table words_in
returns-in-1 c = rw c.in-1.is refl

pub returns-in-2 : goal.returns-in-2
unfolding table words_in
returns-in-2 c = rw c.in-2.is refl

pub returns-in-3 : goal.returns-in-3
unfolding table words_in
returns-in-3 c = rw c.in-3.is refl

pub returns-in-4 : goal.returns-in-4
unfolding table words_in
returns-in-4 c = rw c.in-4.is refl

pub returns-in-5 : goal.returns-in-5
unfolding table words_in
returns-in-5 c = rw c.in-5.is refl

pub returns-in-20 : goal.returns-in-20
unfolding table words_in
returns-in-20 c = rw c.in-20.is refl

pub returns-in-21 : goal.returns-in-21
unfolding table words_in
returns-in-21 c = rw c.in-21.is refl

pub returns-in-22 : goal.returns-in-22
unfolding table words_in
returns-in-22 c = rw c.in-22.is refl

pub returns-in-23 : goal.returns-in-23
unfolding table words_in
returns-in-23 c = rw c.in-23.is refl

pub returns-in-24 : goal.returns-in-24
unfolding table words_in
returns-in-24 c = rw c.in-24.is refl

pub returns-in-25 : goal.returns-in-25
unfolding table words_in
returns-in-25 c = rw c.in-25.is refl

pub returns-in-26 : goal.returns-in-26
unfolding table words_in
returns-in-26 c = rw c.in-26.is refl

pub returns-in-27 : goal.returns-in-27
unfolding table words_in
returns-in-27 c = rw c.in-27.is refl

pub returns-in-28 : goal.returns-in-28
unfolding table words_in
returns-in-28 c = rw c.in-28.is refl

pub returns-in-29 : goal.returns-in-29
unfolding table words_in
returns-in-29 c = rw c.in-29.is refl

pub returns-in-40 : goal.returns-in-40
unfolding table words_in
returns-in-40 c = rw c.in-40.is refl

pub returns-in-41 : goal.returns-in-41
unfolding table words_in
returns-in-41 c = rw c.in-41.is refl

pub returns-in-42 : goal.returns-in-42
unfolding table words_in
returns-in-42 c = rw c.in-42.is refl

pub returns-in-43 : goal.returns-in-43
unfolding table words_in
returns-in-43 c = rw c.in-43.is refl

pub returns-in-44 : goal.returns-in-44
unfolding table words_in
returns-in-44 c = rw c.in-44.is refl

pub returns-in_default : goal.returns-in_default
unfolding table words_in
returns-in_default c = search (tests, rules)
