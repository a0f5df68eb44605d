-- Why a name is no host name, by the octet at the first bad place (RULES N5) and by what stands beside it.
-- Assumes nothing: these are definitions.
use Rattle.std.specs.Prelude.{Bool, cond, List, [], ◌∷◌, ℕ, zero, suc, ◌+◌, ◌-◌, leb, eqb, length, get_or}
use Rattle.names.specs.Names.{alnum}
use Rattle.reasons.specs.declared.Mark.{Mark}
use Rattle.reasons.specs.declared.Mark.TheVariants.{Length, Label, After}
use Rattle.reasons.specs.Reason as reason

-- ---- wire form

-- what stands at a place, so many octets further on, where `left` octets of a label are still to come: a length octet, an octet of a label, or
-- what follows the root octet (RFC 1035 §3.1)
unfoldable pub mark_from : ℕ → ℕ → List ℕ → Mark
mark_from left at [] = Label
mark_from zero zero (x ∷ xs) = Length
mark_from (suc left) zero (x ∷ xs) = Label
mark_from zero (suc at) (x ∷ xs) = cond (eqb x 0) After (mark_from x at xs)
mark_from (suc left) (suc at) (x ∷ xs) = mark_from left at xs

abbrev pub mark_of : List ℕ → ℕ → Mark
mark_of s at = mark_from 0 at s

-- a bad length octet: the root octet where no label stands, a pointer, or a label that is too long by itself or for the name
abbrev pub length_reason : ℕ → ℕ
length_reason x = cond (eqb x 0) reason.empty (cond (leb 192 x) reason.pointer (cond (leb 64 x) reason.label reason.long))

-- a bad octet of a label
abbrev pub octet_reason : ℕ → ℕ
octet_reason x = cond (eqb x 95) reason.underscore (cond (eqb x 45) reason.hyphen reason.octet)

abbrev pub mark_reason : Mark → ℕ → ℕ
mark_reason Length x = length_reason x
mark_reason Label x = octet_reason x
mark_reason After x = reason.after

-- of a name in wire form that is bad at a place
unfoldable pub wire_reason : List ℕ → ℕ → ℕ
wire_reason s at =
    cond (eqb (length s) 0) reason.empty
    (cond (leb (length s) at) reason.cut
    (mark_reason (mark_of s at) (get_or s at 0)))

-- ---- text (RULES N4)

-- the octet before a place, a dot at the beginning: a label begins there as after a dot, and ends at the text's end as before one
abbrev pub before : List ℕ → ℕ → ℕ
before s at = cond (eqb at 0) 46 (get_or s (at - 1) 46)

-- a bad dot between two octets: no label stands before it, or one that ends with a hyphen, or none stands after it. Any other is too far
abbrev pub dot_reason : ℕ → ℕ → ℕ
dot_reason before next = cond (eqb before 46) reason.dot (cond (eqb before 45) reason.hyphen (cond (eqb next 46) reason.dot reason.long))

-- a bad hyphen between two octets, at a place: it begins its label or ends it, or with the octet after it the text or the label is too long
abbrev pub hyphen_reason : ℕ → ℕ → ℕ → ℕ
hyphen_reason before next at =
    cond (eqb before 46) reason.hyphen (cond (eqb next 46) reason.hyphen (cond (leb 252 at) reason.long reason.label))

-- a bad letter or digit at a place: one too many for the text or for the label
abbrev pub letter_reason : ℕ → ℕ
letter_reason at = cond (leb 253 at) reason.long reason.label

-- a bad octet x between two others, at a place
abbrev pub text_octet : ℕ → ℕ → ℕ → ℕ → ℕ
text_octet before next at x =
    cond (eqb x 95) reason.underscore
    (cond (eqb x 46) (dot_reason before next)
    (cond (eqb x 45) (hyphen_reason before next at)
    (cond (alnum x) (letter_reason at)
    reason.octet)))

-- of a name as text that is bad at a place: at its end the octet before it tells, a dot or a hyphen
unfoldable pub text_reason : List ℕ → ℕ → ℕ
text_reason s at =
    cond (eqb (length s) 0) reason.empty
    (cond (leb (length s) at) (cond (eqb (before s at) 46) reason.dot reason.hyphen)
    (text_octet (before s at) (get_or s (at + 1) 46) at (get_or s at 0)))

-- ---- in either form

abbrev pub name_reason : Bool → List ℕ → ℕ → ℕ
name_reason text s at = cond text (text_reason s at) (wire_reason s at)
