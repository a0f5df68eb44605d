-- What an answer of src/ says, from its two matches. Assumes nothing.
use Rattle.std.specs.Prelude.{◌≡◌, ℕ, Result, Err}
use Rattle.std.proofs.Common.{ap, ◌∙◌}
use Rattle.inputs.specs.declared.Unread.{Unread}
use Rattle.inputs.specs.Read.{read_in, unread_in}

pub unread-in : {r : Result ℕ Unread} {u v : Unread} → r ≡ Err u → u ≡ v → read_in r ≡ unread_in v
unread-in e f = ap read_in (e ∙ ap (λ (u : Unread). Err u) f)
