-- The ways out of the code that takes a sheet agree with `take_of`. Assumes nothing.
use Rattle.std.specs.Prelude.{◌≡◌, refl, Bool, true, false, ◌&&◌, eqb, nat_eq, List, [], ◌∷◌, ℕ, ◌≤◌, ◌<◌, length, get_or, take, drop, Option, Some, None, Result, Ok, Err, ok_or}
use Rattle.std.specs.Cmp.Lexicographic.{pointwise}
use Rattle.std.proofs.Common.{sym, ap, ◌∙◌, arith}
use Rattle.std.proofs.lemmas.Bool.{false≢true}
use borrow.Author.Tests.{lt-ltb, le-ltb, eq-eqb, ne_eqb}
use Rattle.octets.specs.Numbers.{at16}
use Rattle.numbers.specs.declared.Refusal as numbers
use Rattle.numbers.specs.declared.Refusal.TheVariants.{SheetCarrier}
use Rattle.numbers.specs.Refusal as refusal
use Rattle.numbers.specs.Refusal.{number_of}
use Rattle.numbers.specs.Limit as limit
use Rattle.carriers.specs.declared.Carrier.{Carrier}
use Rattle.carriers.specs.Carriers.{chosen_of}
use Rattle.sheets.specs.Sheets.{letters, edition, front_size, version_at, carrier_at, count_at}
use Rattle.octets.specs.Lists.{same}
use Rattle.taking.specs.Taking.{Headed, refuse, head, head_of, Records, none, records, records_from, take_found, take_records, take_carrier, take_of}
use Rattle.taking.specs.Took.{Unfit, Head, Took, Refused, Sheet, said_of, took_of, some}
use Rattle.taking.specs.TakenLaws.{headed-front}
use Rattle.taking.specs.StandingLaws.{Found, found}

-- ---- 2, 40, 41

-- what `==` of two slices answers
pub equal-same : (a b : List ℕ) → pointwise nat_eq a b ≡ same a b
unfolding same
equal-same [] [] = refl
equal-same [] (y ∷ ys) = refl
equal-same (x ∷ xs) [] = refl
equal-same (x ∷ xs) (y ∷ ys) = ap (λ (b : Bool). eqb x y && b) (equal-same xs ys)

module _ (s : List ℕ) where
  pub head-1 : limit.input < length s → Unfit refusal.input ≡ said_of (head_of s)
  unfolding head_of
  head-1 h = rw (lt-ltb limit.input (length s) h)

  module _ (h : length s ≤ limit.input) where
    pub head-2 : length s < front_size → Unfit refusal.sheet ≡ said_of (head_of s)
    unfolding head_of
    head-2 k = rw (le-ltb limit.input (length s) h, lt-ltb (length s) front_size k)

    module _ (k : front_size ≤ length s) where
      pub head-3 : false ≡ same (take version_at s) letters → Unfit refusal.sheet ≡ said_of (head_of s)
      unfolding head_of
      head-3 e = rw (le-ltb limit.input (length s) h, le-ltb (length s) front_size k, ← e)

      module _ (e : true ≡ same (take version_at s) letters) where
        pub head-4 : (at16 s version_at ≡ edition → ⊥) → Unfit refusal.version ≡ said_of (head_of s)
        unfolding head_of
        head-4 v = rw (le-ltb limit.input (length s) h, le-ltb (length s) front_size k, ← e, ne_eqb (at16 s version_at) edition v)

        pub head-5 : at16 s version_at ≡ edition → {x n : ℕ} → x ≡ get_or s carrier_at 0 → n ≡ get_or s count_at 0 → Head x n ≡ said_of (head_of s)
        unfolding head_of
        head-5 v ex en = rw (le-ltb limit.input (length s) h, le-ltb (length s) front_size k, ← e, eq-eqb (at16 s version_at) edition v, ex, en)

-- ---- 4 and 43

module _ (c : Carrier) (s : List ℕ) (n : ℕ) where
  pub records-1 : limit.records < n → Refused refusal.records ≡ took_of (take_records c n (drop front_size s))
  records-1 h = rw (lt-ltb limit.records n h)

  module _ (inside : front_size ≤ length s) (h : n ≤ limit.records) where
    pub records-2 : true ≡ some (records_from c n 0 (drop front_size s)) → Sheet c n ≡ took_of (take_records c n (drop front_size s))
    records-2 e = rw (le-ltb limit.records n h) (go (records_from c n 0 (drop front_size s)) e (found c s n 0 front_size inside))
      where
        go : (x : Records) → true ≡ some x → Found c s front_size n x → Sheet c n ≡ took_of (take_found c x)
        go none e f = absurd (false≢true (sym e))
        go (records rs) e f = ap (Sheet c) (sym f.1)

    pub records-3 : false ≡ some (records_from c n 0 (drop front_size s)) → Refused refusal.tiling ≡ took_of (take_records c n (drop front_size s))
    records-3 e = rw (le-ltb limit.records n h) (go (records_from c n 0 (drop front_size s)) e)
      where
        go : (x : Records) → false ≡ some x → Refused refusal.tiling ≡ took_of (take_found c x)
        go none e = refl
        go (records rs) e = absurd (false≢true e)

-- ---- 42, and the whole

module _ (s : List ℕ) where
  module _ (x n : ℕ) {o : Option Carrier} (e : o ≡ chosen_of x) where
    pub carrier-1 : {f : numbers.Refusal} → ok_or o SheetCarrier ≡ Err f → Refused (number_of f) ≡ took_of (take_carrier (chosen_of x) n (drop front_size s))
    carrier-1 {f} u = rw (← e) (go o u)
      where
        go : (o : Option Carrier) → ok_or o SheetCarrier ≡ Err f → Refused (number_of f) ≡ took_of (take_carrier o n (drop front_size s))
        go None u = let i : SheetCarrier ≡ f = cc in rw (← i)
        go (Some c) u = absurd cc

    pub carrier-2 : {c : Carrier} {r : Took} → ok_or o SheetCarrier ≡ Ok c → r ≡ took_of (take_records c n (drop front_size s))
        → r ≡ took_of (take_carrier (chosen_of x) n (drop front_size s))
    carrier-2 {c} {r} u i = rw (← e) (go o u)
      where
        go : (o : Option Carrier) → ok_or o SheetCarrier ≡ Ok c → r ≡ took_of (take_carrier o n (drop front_size s))
        go None u = absurd cc
        go (Some d) u = let j : d ≡ c = cc in rw j i

  said-unfit : (h : Headed) {k : ℕ} → Unfit k ≡ said_of h → h ≡ refuse k
  said-unfit (refuse j) e = cc
  said-unfit (head x n) e = let z : ◌≡◌ {A = ℕ} 0 1 = cc in absurd (omega arith)

  said-head : (h : Headed) {x n : ℕ} → Head x n ≡ said_of h → h ≡ head x n
  said-head (refuse j) e = let z : ◌≡◌ {A = ℕ} 0 1 = cc in absurd (omega arith)
  said-head (head y m) e = cc

  pub take-1 : {k : ℕ} → Unfit k ≡ said_of (head_of s) → Refused k ≡ took_of (take_of s)
  unfolding take_of
  take-1 e = rw (said-unfit (head_of s) e)

  module _ {x n : ℕ} (e : Head x n ≡ said_of (head_of s)) where
    -- there is a head
    pub take_long : front_size ≤ length s
    take_long = (headed-front s (said-head (head_of s) e)).0.long

    pub take-2 : {r : Took} → r ≡ took_of (take_carrier (chosen_of x) n (drop front_size s)) → r ≡ took_of (take_of s)
    unfolding take_of
    take-2 i = rw (said-head (head_of s) e) i
