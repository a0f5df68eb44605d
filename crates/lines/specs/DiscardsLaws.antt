-- A discarded block's line is the same by options and by numbers, where its key is one of 16 bits or none. Assumes nothing.
use Rattle.std.specs.Prelude.{◌≡◌, refl, List, ℕ, ◌<◌, Option, Some, None, unwrap_or}
use Rattle.std.proofs.Common.{lt-ltb}
use Rattle.std.specs.Option.{IfSome}
use Rattle.reasons.specs.declared.Reason.{Reason}
use Rattle.reasons.specs.declared.Reason.TheVariants.{Cut, Empty, Pointer, Label, Long, After, Underscore, Hyphen, Dot, Octet}
use Rattle.reasons.specs.Reason.{number_in}
use Rattle.reasons.specs.Params.{none}
use Rattle.lines.specs.Listed as listed
use Rattle.lines.specs.Discards.{reason_part, key_part, cause_of, discarded_of}

-- a reason has a number that is not 0
pub reason-same : (r : Option Reason) → listed.reason_part (number_in r) ≡ reason_part r
reason-same None = refl
reason-same (Some Cut) = refl
reason-same (Some Empty) = refl
reason-same (Some Pointer) = refl
reason-same (Some Label) = refl
reason-same (Some Long) = refl
reason-same (Some After) = refl
reason-same (Some Underscore) = refl
reason-same (Some Hyphen) = refl
reason-same (Some Dot) = refl
reason-same (Some Octet) = refl

pub key-same : (k : Option ℕ) → IfSome k (λ n. n < none) → listed.key_part (unwrap_or k none) ≡ key_part k
key-same None h = refl
key-same (Some k) h = rw (lt-ltb k none h) refl

pub discarded-same : (name : List ℕ) (block octet fault : ℕ) (r : Option Reason) (k : Option ℕ) → IfSome k (λ n. n < none)
    → listed.discarded_of name block octet fault (number_in r) (unwrap_or k none) ≡ discarded_of name block octet fault r k
unfolding listed.discarded_of listed.cause_of discarded_of cause_of
discarded-same name block octet fault r k h = rw (reason-same r, key-same k h) refl
