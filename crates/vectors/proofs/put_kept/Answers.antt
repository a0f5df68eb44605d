-- `vectors::put_kept` meets its contract: what is kept of at most 4,096 octets fits the buffer. Assumes nothing.
use Rattle.std.proofs.Common.{rules, arith, ap, ◌*◌, ◌≤◌, ℕ, length, length-take, List, mul-le-mul_right, div-mul-le_self}
use Rattle.octets.specs.Lists.{flat}
use Rattle.addresses.specs.Addresses.{kept_of, list_of}
use Rattle.addresses.specs.AddressesLaws.{flat-length, kept-wide, list-wide, kept-few, list_length}
use Rattle.octets.specs.OverLaws.{wrote-front}
use Rattle.chars.specs.PutsLaws.{puts-as}
use Rattle.vectors.specs.Answers.{hex_text}
use Rattle.vectors.proofs.put_kept.Goals as goal

-- what is kept of a list of addresses is no longer than the list
kept-short : (w : ℕ) (s : List ℕ) → length (flat (kept_of w (list_of w s))) ≤ length s
kept-short w s =
    let n = flat-length w (kept_of w (list_of w s)) (kept-wide w (list_of w s) (list-wide w s)) in
    let k = mul-le-mul_right w (kept-few w (list_of w s)) in
    let l = ap (λ (x : ℕ). x * w) (list_length w s) in
    omega (arith, div-mul-le_self (length s) w)

pub put_kept-n-requires : goal.put_kept-n-requires
put_kept-n-requires c =
    let a = c.args in
    record { width = search rules; s_in_bounds = omega (arith, kept-short a.w a.s.now) }

pub slice_bounds-put_hex-end : goal.slice_bounds-put_hex-end
slice_bounds-put_hex-end c = simp length-take (omega arith)

pub returns : goal.returns
returns c =
    puts-as (ap hex_text (wrote-front c.put_kept-n.ensures)) c.put_hex.ensures
