-- The theorems: the reason given at the first bad place of a name is true there, and the parameter given for a fault is the first that is
-- at fault, in the terms of `Claims`. Assumes nothing.
use Rattle.std.specs.Prelude.{◌≡◌, true, false, List, ℕ, Err}
use Rattle.octets.specs.Numbers.{Bytes}
use Rattle.numbers.specs.Fault as fault
use Rattle.names.specs.Wire.{name_check}
use Rattle.texts.specs.TextCheck.{text_check}
use Rattle.svcparams.specs.Params.{params_fault}
use Rattle.reasons.specs.Names.{name_reason}
use Rattle.reasons.specs.Params.{param_for}
use Rattle.reasons.specs.Claims.{WireWhy, TextWhy, FirstHint, FirstForbidden, FirstUnordered}
use Rattle.reasons.specs.WireWhy.{wire-true}
use Rattle.reasons.specs.TextWalk.{text-true}
use Rattle.reasons.specs.WrongWhy.{hint-true, value-true}
use Rattle.reasons.specs.OrderWhy.{unordered-true}

-- ---- names, in wire form and as text

pub wire-why : (s : List ℕ) (p : ℕ) → name_check s ≡ Err p → WireWhy s p (name_reason false s p)
wire-why s p e = wire-true s p e

pub text-why : (s : List ℕ) (p : ℕ) → text_check s ≡ Err p → TextWhy s p (name_reason true s p)
text-why s p e = text-true s p e

-- ---- parameters

module _ (p : List ℕ) (o : Bytes p) where
  pub unordered-first : params_fault p ≡ fault.parameters → FirstUnordered p (param_for fault.parameters p)
  unordered-first e = unordered-true p o e

  pub hint-first : params_fault p ≡ fault.hint → FirstHint p (param_for fault.hint p)
  hint-first e = hint-true p o e

  pub value-first : params_fault p ≡ fault.value → FirstForbidden p (param_for fault.value p)
  value-first e = value-true p o e
