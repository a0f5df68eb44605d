-- The laws of a sheet as it is shown: its records as a loop meets them, and what taking answers. Assumes nothing.
use Rattle.std.specs.Prelude.{◌≡◌, refl, Bool, true, false, cond, List, [], ◌∷◌, ◌++◌, map, ℕ, min, length}
use Rattle.std.proofs.Common.{sym, ap, ◌∙◌}
use Rattle.carriers.specs.declared.Carrier.{Carrier}
use Rattle.blocks.specs.Block.{Fields}
use Rattle.blocks.specs.Parts.{fields_in}
use Rattle.sheets.specs.Sheets.{front_size}
use Rattle.taking.specs.declared.Record.{Record}
use Rattle.taking.specs.Taking.{take_of}
use Rattle.taking.specs.Took.{Refused, Sheet, took_of}
use Rattle.taking.specs.Spot.{spot_of}
use Rattle.taking.specs.Shown.{Shown}
use Rattle.taking.specs.Standing.{Standing}
use Rattle.taking.specs.StandingLaws.{took-refused, took-sheet}
use Rattle.taking.specs.TurnsLaws.{standing-done, shown-step, shown-first, shown-standing}
use Rattle.chars.specs.Ascii.{ascii}
use Rattle.chars.specs.Puts.{Puts}
use Rattle.chars.specs.PutsLaws.{puts_none, puts_then, puts-as}
use Rattle.values.specs.Values.{list_of, before_of}
use Rattle.values.specs.ListLaws.{Listed, listed_start, listed_next, listed-end}
use Rattle.showing.specs.Showing.{head_of, record_of, sheet_of, shown_as, shown_of}

-- ---- records

-- of the records rs those before index i are written from `at` on, and the others stand from i on; `first`: none is written yet
pub record Lined (json : Bool) (c : Carrier) (s : List ℕ) (i : ℕ) (first : Bool) (rs : List Fields) (at : ℕ) (l : List ℕ) (r : ℕ) (l' : List ℕ) : Type 0 where
  pub left : List Fields
  pub standing : Standing c s i left
  pub listed : Listed json (record_of json c) rs left (before_of json first) at l r l'

module _ (json : Bool) (c : Carrier) (s : List ℕ) {at : ℕ} {l : List ℕ} where
  pub lined-start : {r : ℕ} → r ≡ min at (length l) → (rs : List Fields) → Standing c s front_size rs → Lined json c s front_size true rs at l r l
  lined-start e rs h = record { left = rs; standing = h; listed = listed_start json (record_of json c) rs e }

  module _ {i r : ℕ} {first : Bool} {rs : List Fields} {l' : List ℕ} (d : Lined json c s i first rs at l r l') where
    pub lined-next : {x : Record} {r' : ℕ} {l'' : List ℕ} → Shown s i (spot_of c s i) x
        → Puts r (before_of json first ++ record_of json c (fields_in x.parts)) l' r' l'' → Lined json c s x.next false rs at l r' l''
    lined-next {x} h q =
        let turn = shown-step c s i h d.standing in
        let are : d.left ≡ fields_in x.parts ∷ turn.rest = turn.are ∙ ap (λ (f : Fields). f ∷ turn.rest) (sym (shown-first c s i h d.standing)) in
        record {
          left = turn.rest;
          standing = shown-standing c s i h d.standing;
          listed = listed_next json (record_of json c) d.listed are refl q;
        }

    pub lined-end : (spot_of c s i).good ≡ false → Puts at (list_of json (map (record_of json c) rs)) l r l'
    lined-end h = listed-end json (record_of json c) d.listed (standing-done d.standing h)

-- ---- what taking answers

module _ (json : Bool) (s : List ℕ) where
  pub shown-nothing : {at r k : ℕ} {l : List ℕ} → Refused k ≡ took_of (take_of s) → r ≡ min at (length l) → Puts at (shown_of json s) l r l
  shown-nothing e q = puts-as (sym (ap (shown_as json) (took-refused s e))) (puts_none _ _ q)

  pub shown-sheet : {c : Carrier} {n at r r' r'' : ℕ} {l l' l'' l''' : List ℕ} → Sheet c n ≡ took_of (take_of s) → Puts at (head_of json c n) l r l'
      → ((rs : List Fields) → Standing c s front_size rs → Puts r (list_of json (map (record_of json c) rs)) l' r' l'')
      → Puts r' (cond json (ascii "]}") []) l'' r'' l''' → Puts at (shown_of json s) l r'' l'''
  unfolding sheet_of
  shown-sheet {c} e p q t =
      let k = took-sheet s e in
      puts-as (sym (ap (shown_as json) k.1))
      (puts_then (puts-as (ap (head_of json c) (sym k.2)) p) (puts_then (q k.0 k.3) t))
