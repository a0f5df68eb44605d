-- The cycle of calls {after_hyphen, after_letter}: the measure of each is how many octets are left.
use Rattle.texts.proofs.+after_hyphen_after_letter.Given as goal

abbrev pub decreases-after_hyphen : goal.decreases-after_hyphen
decreases-after_hyphen l = l.left

abbrev pub decreases-after_letter : goal.decreases-after_letter
decreases-after_letter l = l.left
