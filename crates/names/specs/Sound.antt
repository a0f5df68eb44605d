-- What `name_check` takes is a name. Assumes nothing.
use Rattle.std.specs.Prelude.{◌≡◌, refl, List, [], ◌∷◌, ◌++◌, true, ℕ, suc, ◌+◌, ◌-◌, ◌≤◌, length, Ok}
use Rattle.std.proofs.Common.{ap, inl, inr, arith}
use Rattle.names.specs.Automaton.{Move}
use Rattle.names.specs.AutomatonLaws.{After, taken}
use Rattle.names.specs.Wire.{State, letter, hyphen, first, root, step, ended, inside, name_automaton, name_check}
use Rattle.octets.specs.Lists.{All}
use Rattle.names.specs.Names.{alnum, last, Ldh, Label, wire, IsName}
use Rattle.names.specs.Cases.{by-inside, by_length, by-letter, by_first}

-- xs are the octets from the place `at` on, the first k of which end the label that y is in
pub record Rest (y k at : ℕ) (xs : List ℕ) : Type 0 where
  pub label : List ℕ
  pub labels : List (List ℕ)
  pub long : length label ≡ k
  pub octets : All Ldh label
  pub ends : alnum (last y label) ≡ true
  pub each : All Label labels
  pub is : xs ≡ label ++ wire labels
  pub short : at + length xs ≤ 255
  pub some : at ≡ 0 → k ≡ 0 → 1 ≤ length labels

-- what holds of the octet y before the place `at` and of the octets to come in y's label
abbrev pub Valid : State → ℕ → ℕ → Type 0
Valid (letter k) y at = (alnum y ≡ true) × (at + k ≤ 254)
Valid (hyphen k) y at = (1 ≤ k) × (at + k ≤ 254)
Valid (first k) y at = at + k + 1 ≤ 254
Valid root y at = Unit

abbrev pub Claim : State → ℕ → ℕ → List ℕ → Type 0
Claim (letter k) y at xs = Rest y k at xs
Claim (hyphen k) y at xs = Rest y k at xs
Claim (first k) y at xs = (x : ℕ) × (t : List ℕ) × (xs ≡ x ∷ t) × (alnum x ≡ true) × Rest x k (at + 1) t
Claim root y at xs = xs ≡ []

-- x, an octet of the label, before the rest of it
more : (x y k at : ℕ) (xs : List ℕ) → Ldh x → (k ≡ 0 → ⊥) → Rest x (k - 1) (at + 1) xs → Rest y k at (x ∷ xs)
more x y k at xs o n r = record {
  label = x ∷ r.label;
  labels = r.labels;
  long = (let h = r.long in omega arith);
  octets = (o, r.octets);
  ends = r.ends;
  each = r.each;
  is = ap (λ (l : List ℕ). x ∷ l) r.is;
  short = (let h = r.short in omega arith);
  some = λ _ z. absurd (n z);
}

-- a label that begins with x, and its length octet n
opened : (n x y k at : ℕ) (xs : List ℕ) → alnum y ≡ true → k ≡ 0 → (n ≡ 0 → ⊥) → n ≤ 63 → alnum x ≡ true
    → Rest x (n - 1) (at + 1 + 1) xs → Rest y k at (n ∷ (x ∷ xs))
opened n x y k at xs b z p q a r =
    let h = r.long in
    let s = r.short in
    let e : n ≡ suc (length r.label) = omega arith in
    record {
      label = [];
      labels = (x ∷ r.label) ∷ r.labels;
      long = omega arith;
      octets = tt;
      ends = b;
      each = (record { some = omega arith; short = omega arith; octets = (inl a, r.octets); begins = a; ends = r.ends }, r.each);
      is = cc;
      short = omega arith;
      some = λ _ _. omega arith;
    }

-- the root octet
rooted : (n y k at : ℕ) (xs : List ℕ) → alnum y ≡ true → at + k ≤ 254 → k ≡ 0 → n ≡ 0 → (at ≡ 0 → ⊥) → xs ≡ [] → Rest y k at (n ∷ xs)
rooted n y k at xs b h z e p g =
    let l = ap length g in
    record {
      label = [];
      labels = [];
      long = omega arith;
      octets = tt;
      ends = b;
      each = tt;
      is = cc;
      short = omega arith;
      some = λ f _. absurd (p f);
    }

-- what holds of each step
abbrev Stepped : State → ℕ → ℕ → ℕ → List ℕ → Move State → Type 0
Stepped = After name_automaton Valid Claim

inside-stepped : (st : State) (left x y at : ℕ) (xs : List ℕ) → (left ≡ 0 → ⊥) → at + left ≤ 254 → (Rest y left at (x ∷ xs) → Claim st y at (x ∷ xs))
    → Stepped st y at x xs (inside left x)
inside-stepped st left x y at xs n h c =
    by-inside left x (Stepped st y at x xs)
    (λ a. ((a, omega arith), λ r. c (more x y left at xs (inl a) n r)))
    (λ q l. ((omega arith, omega arith), λ r. c (more x y left at xs (inr q) n r)))
    tt

pub stepped : (st : State) (y at x : ℕ) (xs : List ℕ) → Valid st y at → After name_automaton Valid Claim st y at x xs (step st at x)
stepped (letter k) y at x xs v =
    by-letter k at x (Stepped (letter k) y at x xs)
    (λ z. by_length at x (Stepped (letter k) y at x xs)
    (λ e p. (tt, λ g. rooted x y k at xs v.0 v.1 z e p g))
    (λ n l f. (omega arith, λ r. rw r.2 (opened x r.0 y k at r.1 v.0 z n l r.3 r.4)))
    tt)
    (λ n. inside-stepped (letter k) k x y at xs n v.1 (λ r. r))
stepped (hyphen k) y at x xs v = inside-stepped (hyphen k) k x y at xs (omega arith) v.1 (λ r. r)
stepped (first k) y at x xs v = by_first k at x (Stepped (first k) y at x xs) (λ a. ((a, omega arith), λ r. (x, xs, refl, a, r))) tt
stepped root y at x xs v = tt

at_end : (st : State) (y at : ℕ) → Valid st y at → ended st ≡ true → Claim st y at []
at_end (letter k) y at v e = let z : ◌≡◌ {A = ℕ} 0 1 = cc in absurd (omega arith)
at_end (hyphen k) y at v e = let z : ◌≡◌ {A = ℕ} 0 1 = cc in absurd (omega arith)
at_end (first k) y at v e = let z : ◌≡◌ {A = ℕ} 0 1 = cc in absurd (omega arith)
at_end root y at v e = refl

pub nil-of : (l : List ℕ) → length l ≡ 0 → l ≡ []
nil-of [] e = refl
nil-of (x ∷ l) e = absurd (omega arith)

pub good-sound : (s : List ℕ) → name_check s ≡ Ok tt → IsName s
unfolding name_check alnum
good-sound s e =
    let r : Rest 48 0 0 s = taken name_automaton Valid Claim stepped at_end s (letter 0) 48 0 (refl, omega arith) e in
    let n : r.label ≡ [] = nil-of r.label r.long in
    let h = r.short in
    record {
      labels = r.labels;
      some = r.some refl refl;
      each = r.each;
      is = rw n at r.is;
      short = omega arith;
    }
