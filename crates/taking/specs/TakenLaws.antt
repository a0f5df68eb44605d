-- What a sheet's head and taking a sheet may say: one of six refusals, or that every test is passed. Assumes nothing.
use Rattle.std.specs.Prelude.{◌≡◌, ◌⊎◌, Bool, true, false, cond, not, List, ℕ, ◌≤◌, ltb, eqb, length, get_or, take, drop, Option, Some, None}
use Rattle.std.proofs.Math.Path.{refl}
use Rattle.std.proofs.Common.{inl, inr, arith}
use borrow.Author.Tests.{eqb-true, eq-eqb, le-ltb}
use Rattle.octets.specs.Cases.{by_less}
use Rattle.octets.specs.SameLaws.{same_true, same_self}
use Rattle.octets.specs.Numbers.{at16}
use Rattle.numbers.specs.Refusal as refusal
use Rattle.numbers.specs.Limit as limit
use Rattle.carriers.specs.declared.Carrier.{Carrier}
use Rattle.carriers.specs.Carriers.{chosen_of}
use Rattle.blocks.specs.Block.{Fields}
use Rattle.sheets.specs.Sheets.{letters, edition, front_size, version_at, carrier_at, count_at}
use Rattle.octets.specs.Lists.{same}
use Rattle.taking.specs.Taking.{Headed, refuse, head, head_of, Records, none, records, records_from, Taken, sheet, take_found, take_records, take_carrier, take_headed, take_of}

-- ---- the head

-- s passed the tests 2, 40 and 41
pub record Front (s : List ℕ) : Type 0 where
  pub short : length s ≤ limit.input
  pub long : front_size ≤ length s
  pub lettered : take version_at s ≡ letters
  pub version : at16 s version_at ≡ edition

-- what holds of each refusal and of a head that passed holds
module _ (s : List ℕ) (P : Headed → Type 0)
    (input : P (refuse refusal.input)) (other : P (refuse refusal.sheet)) (version : P (refuse refusal.version))
    (passed : Front s → P (head (get_or s carrier_at 0) (get_or s count_at 0))) where
  by-head : P (head_of s)
  unfolding head_of
  by-head =
      by_less P limit.input (length s) (refuse refusal.input) after-input (λ _. input) (λ short.
      by_less P (length s) front_size (refuse refusal.sheet) after-length (λ _. other) (λ long.
      letters-next (same (take version_at s) letters) refl (λ lettered.
      version-next (eqb (at16 s version_at) edition) refl (λ edited.
      passed record {
        short = short;
        long = long;
        lettered = same_true (take version_at s) letters lettered;
        version = eqb-true (at16 s version_at) edition edited;
      }))))
    where
      after-version : Headed
      after-version = head (get_or s carrier_at 0) (get_or s count_at 0)

      after_letters : Headed
      after_letters = cond (not (eqb (at16 s version_at) edition)) (refuse refusal.version) after-version

      after-length : Headed
      after-length = cond (not (same (take version_at s) letters)) (refuse refusal.sheet) after_letters

      after-input : Headed
      after-input = cond (ltb (length s) front_size) (refuse refusal.sheet) after-length

      letters-next : (b : Bool) → same (take version_at s) letters ≡ b → (same (take version_at s) letters ≡ true → P after_letters)
          → P (cond (not b) (refuse refusal.sheet) after_letters)
      letters-next true e k = k e
      letters-next false e k = other

      version-next : (b : Bool) → eqb (at16 s version_at) edition ≡ b → (eqb (at16 s version_at) edition ≡ true → P after-version)
          → P (cond (not b) (refuse refusal.version) after-version)
      version-next true e k = k e
      version-next false e k = version

module _ (s : List ℕ) where
  pub headed-front : {k n : ℕ} → head_of s ≡ head k n → Front s × (get_or s carrier_at 0 ≡ k) × (get_or s count_at 0 ≡ n)
  headed-front {k} {n} =
      by-head s (λ h. h ≡ head k n → Front s × (get_or s carrier_at 0 ≡ k) × (get_or s count_at 0 ≡ n)) never never never (λ f e. (f, cc, cc))
    where
      never : {j : ℕ} → refuse j ≡ head k n → Front s × (get_or s carrier_at 0 ≡ k) × (get_or s count_at 0 ≡ n)
      never e = let z : ◌≡◌ {A = ℕ} 0 1 = cc in absurd (omega arith)

  pub front-headed : Front s → head_of s ≡ head (get_or s carrier_at 0) (get_or s count_at 0)
  unfolding head_of
  front-headed f =
      rw (le-ltb limit.input (length s) f.short, le-ltb (length s) front_size f.long, f.lettered, same_self letters, eq-eqb (at16 s version_at) edition f.version)

-- ---- the tests

-- s passed every test, with carrier c and records rs
pub record Passed (s : List ℕ) (c : Carrier) (rs : List Fields) : Type 0 where
  pub front : Front s
  pub carrier : chosen_of (get_or s carrier_at 0) ≡ Some c
  pub few : get_or s count_at 0 ≤ limit.records
  pub found : records_from c (get_or s count_at 0) 0 (drop front_size s) ≡ records rs

-- what holds of each refusal and of a sheet that passed holds
module _ (s : List ℕ) (P : Taken → Type 0)
    (input : P (refuse refusal.input)) (other : P (refuse refusal.sheet)) (version : P (refuse refusal.version))
    (carrier : P (refuse refusal.sheet_carrier)) (many : P (refuse refusal.records)) (tiling : P (refuse refusal.tiling))
    (passed : (c : Carrier) (rs : List Fields) → Passed s c rs → P (sheet c rs)) where
  pub by-taken : P (take_of s)
  unfolding take_of
  by-taken =
      by-head s (λ h. P (take_headed h (drop front_size s))) input other version (λ front.
      carrier-next (chosen_of (get_or s carrier_at 0)) refl (λ c known.
      by_less P limit.records (get_or s count_at 0) (refuse refusal.records) (take_found c (records_from c (get_or s count_at 0) 0 (drop front_size s))) (λ _. many) (λ few.
      records-next c (records_from c (get_or s count_at 0) 0 (drop front_size s)) refl (λ rs found.
      passed c rs record { front = front; carrier = known; few = few; found = found }))))
    where
      carrier-next : (o : Option Carrier) → chosen_of (get_or s carrier_at 0) ≡ o
          → ((c : Carrier) → chosen_of (get_or s carrier_at 0) ≡ Some c → P (take_records c (get_or s count_at 0) (drop front_size s)))
          → P (take_carrier o (get_or s count_at 0) (drop front_size s))
      carrier-next None e k = carrier
      carrier-next (Some c) e k = k c e

      records-next : (c : Carrier) (x : Records) → records_from c (get_or s count_at 0) 0 (drop front_size s) ≡ x
          → ((rs : List Fields) → records_from c (get_or s count_at 0) 0 (drop front_size s) ≡ records rs → P (sheet c rs)) → P (take_found c x)
      records-next c none e k = tiling
      records-next c (records rs) e k = k rs e

-- what is taken passed every test, and what passes every test is taken
pub taken-passed : (s : List ℕ) (c : Carrier) (rs : List Fields) → take_of s ≡ sheet c rs → Passed s c rs
taken-passed s c rs =
    by-taken s (λ t. t ≡ sheet c rs → Passed s c rs) never never never never never never
    (λ d qs p e. let i : d ≡ c = cc in let j : qs ≡ rs = cc in rw (← i, ← j) p)
  where
    never : {k : ℕ} → refuse k ≡ sheet c rs → Passed s c rs
    never e = let z : ◌≡◌ {A = ℕ} 0 1 = cc in absurd (omega arith)

pub passed-taken : (s : List ℕ) (c : Carrier) (rs : List Fields) → Passed s c rs → take_of s ≡ sheet c rs
unfolding take_of
passed-taken s c rs p = rw (front-headed s p.front, p.carrier, le-ltb limit.records (get_or s count_at 0) p.few, p.found)

-- ---- the refusals

-- the numbers are 2, 40, 41, 42, 4 and 43
abbrev pub Refusing : ℕ → Type 0
Refusing k =
    (k ≡ refusal.input) ⊎ ((k ≡ refusal.sheet) ⊎ ((k ≡ refusal.version) ⊎ ((k ≡ refusal.sheet_carrier) ⊎ ((k ≡ refusal.records) ⊎ (k ≡ refusal.tiling)))))

pub refused-by : (s : List ℕ) (k : ℕ) → take_of s ≡ refuse k → Refusing k
refused-by s k =
    by-taken s (λ t. t ≡ refuse k → Refusing k)
    (λ e. inl cc)
    (λ e. inr (inl cc))
    (λ e. inr (inr (inl cc)))
    (λ e. inr (inr (inr (inl cc))))
    (λ e. inr (inr (inr (inr (inl cc)))))
    (λ e. inr (inr (inr (inr (inr cc)))))
    (λ d qs p e. let z : ◌≡◌ {A = ℕ} 0 1 = cc in absurd (omega arith))

-- a refusal's number is never 0, which means done
pub refusing-some : (k : ℕ) → Refusing k → k ≡ 0 → ⊥
refusing-some k (inl i) z = omega arith
refusing-some k (inr (inl i)) z = omega arith
refusing-some k (inr (inr (inl i))) z = omega arith
refusing-some k (inr (inr (inr (inl i)))) z = omega arith
refusing-some k (inr (inr (inr (inr (inl i))))) z = omega arith
refusing-some k (inr (inr (inr (inr (inr i))))) z = omega arith
