-- How long a sheet is. Assumes nothing.
use Rattle.std.specs.Prelude.{◌≡◌, refl, List, ℕ, ◌+◌, length}
use Rattle.std.proofs.Common.{ap, ◌∙◌, length-append}
use Rattle.carriers.specs.declared.Carrier.{Carrier}
use Rattle.blocks.specs.Block.{Fields}
use Rattle.sheets.specs.Sheets.{front_size, front_of, records_of, sheet_of}

pub length_front : (c : Carrier) (n : ℕ) → length (front_of c n) ≡ front_size
unfolding front_of
length_front c n = refl

pub length-sheet : (c : Carrier) (rs : List Fields) → length (sheet_of c rs) ≡ front_size + length (records_of c rs)
unfolding sheet_of
length-sheet c rs = length-append (front_of c (length rs)) (records_of c rs) ∙ ap (λ (n : ℕ). n + length (records_of c rs)) (length_front c (length rs))
