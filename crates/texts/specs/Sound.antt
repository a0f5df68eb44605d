-- What `text_check` takes is a text. Assumes nothing.
use Rattle.std.specs.Prelude.{◌≡◌, refl, List, [], ◌∷◌, true, ℕ, ◌+◌, ◌-◌, ◌≤◌, length, Ok}
use Rattle.std.proofs.Common.{ap, ◌∙◌, inl, inr, arith}
use Rattle.octets.specs.Lists.{All}
use Rattle.names.specs.Names.{alnum, last, Ldh, Label}
use Rattle.texts.specs.Texts.{dotted, IsText}
use Rattle.names.specs.Automaton.{Move, stop}
use Rattle.names.specs.AutomatonLaws.{After, taken}
use Rattle.texts.specs.TextCheck.{State, start, letter, hyphen, step, ended, after, inside, dot, text_automaton, text_check}
use Rattle.texts.specs.Cases.{by-start, by-dot, by-inside}

-- xs are the octets from the place `at` on: at most k to the end of the label that y is in, and the labels after it
pub record Rest (y k at : ℕ) (xs : List ℕ) : Type 0 where
  pub label : List ℕ
  pub labels : List (List ℕ)
  pub long : length label ≤ k
  pub octets : All Ldh label
  pub ends : alnum (last y label) ≡ true
  pub each : All Label labels
  pub is : xs ≡ dotted label labels
  pub short : at + length xs ≤ 253

-- xs are the octets of labels from the place `at` on
pub record Labels (at : ℕ) (xs : List ℕ) : Type 0 where
  pub label : List ℕ
  pub labels : List (List ℕ)
  pub first : Label label
  pub each : All Label labels
  pub is : xs ≡ dotted label labels
  pub short : at + length xs ≤ 253

-- what holds of the octet y before the place `at` and of the octets that may come in y's label
abbrev pub Valid : State → ℕ → ℕ → Type 0
Valid start y at = at ≤ 252
Valid (letter k) y at = (alnum y ≡ true) × (at + k ≤ 253)
Valid (hyphen k) y at = (1 ≤ k) × (at + k ≤ 253)

abbrev pub Claim : State → ℕ → ℕ → List ℕ → Type 0
Claim start y at xs = Labels at xs
Claim (letter k) y at xs = Rest y k at xs
Claim (hyphen k) y at xs = Rest y k at xs

dotted-cons : (x : ℕ) (l : List ℕ) (ms : List (List ℕ)) → x ∷ dotted l ms ≡ dotted (x ∷ l) ms
dotted-cons x l [] = refl
dotted-cons x l (m ∷ ms) = refl

-- the text ends here
ending : (y k at : ℕ) → alnum y ≡ true → at ≤ 253 → Rest y k at []
ending y k at a h = record {
  label = [];
  labels = [];
  long = omega arith;
  octets = tt;
  ends = a;
  each = tt;
  is = refl;
  short = omega arith;
}

-- x, an octet of the label, before the rest of it
more : (x y k at : ℕ) (xs : List ℕ) → Ldh x → (k ≡ 0 → ⊥) → Rest x (k - 1) (at + 1) xs → Rest y k at (x ∷ xs)
more x y k at xs o n r = record {
  label = x ∷ r.label;
  labels = r.labels;
  long = (let h = r.long in omega arith);
  octets = (o, r.octets);
  ends = r.ends;
  each = r.each;
  is = ap (λ (l : List ℕ). x ∷ l) r.is ∙ dotted-cons x r.label r.labels;
  short = (let h = r.short in omega arith);
}

-- a dot before labels
dots : (x y k at : ℕ) (xs : List ℕ) → alnum y ≡ true → x ≡ 46 → Labels (at + 1) xs → Rest y k at (x ∷ xs)
dots x y k at xs a e r = record {
  label = [];
  labels = r.label ∷ r.labels;
  long = omega arith;
  octets = tt;
  ends = a;
  each = (r.first, r.each);
  is = (let i = r.is in cc);
  short = (let h = r.short in omega arith);
}

-- a label's first octet before the rest of it
opens : (x at : ℕ) (xs : List ℕ) → alnum x ≡ true → Rest x (after at) (at + 1) xs → Labels at (x ∷ xs)
opens x at xs a r =
    let h = r.long in
    let s = r.short in
    record {
      label = x ∷ r.label;
      labels = r.labels;
      first = record { some = omega arith; short = omega arith; octets = (inl a, r.octets); begins = a; ends = r.ends };
      each = r.each;
      is = ap (λ (l : List ℕ). x ∷ l) r.is ∙ dotted-cons x r.label r.labels;
      short = omega arith;
    }

-- what holds of each step
abbrev Stepped : State → ℕ → ℕ → ℕ → List ℕ → Move State → Type 0
Stepped = After text_automaton Valid Claim

inside-stepped : (st : State) (k x y at : ℕ) (xs : List ℕ) (other : Move State) → at + k ≤ 253 → (Rest y k at (x ∷ xs) → Claim st y at (x ∷ xs))
    → Stepped st y at x xs other → Stepped st y at x xs (inside k x other)
inside-stepped st k x y at xs other h c o =
    by-inside k x other (Stepped st y at x xs)
    (λ a n. ((a, omega arith), λ r. c (more x y k at xs (inl a) n r)))
    (λ q l. ((omega arith, omega arith), λ r. c (more x y k at xs (inr q) (omega arith) r)))
    o
    tt

pub stepped : (st : State) (y at x : ℕ) (xs : List ℕ) → Valid st y at → After text_automaton Valid Claim st y at x xs (step st at x)
stepped start y at x xs v = by-start at x (Stepped start y at x xs) (λ a. ((a, omega arith), λ r. opens x at xs a r)) tt
stepped (letter k) y at x xs v =
    inside-stepped (letter k) k x y at xs (dot at x) v.1 (λ r. r)
    (by-dot at x (Stepped (letter k) y at x xs) (λ q l. (omega arith, λ r. dots x y k at xs v.0 q r)) tt)
stepped (hyphen k) y at x xs v = inside-stepped (hyphen k) k x y at xs stop v.1 (λ r. r) tt

at_end : (st : State) (y at : ℕ) → Valid st y at → ended st ≡ true → Claim st y at []
at_end start y at v e = let z : ◌≡◌ {A = ℕ} 0 1 = cc in absurd (omega arith)
at_end (letter k) y at v e = ending y k at v.0 (omega arith)
at_end (hyphen k) y at v e = let z : ◌≡◌ {A = ℕ} 0 1 = cc in absurd (omega arith)

pub good-sound : (s : List ℕ) → text_check s ≡ Ok tt → IsText s
unfolding text_check
good-sound s e =
    let r : Labels 0 s = taken text_automaton Valid Claim stepped at_end s start 0 0 (omega arith) e in
    let h = r.short in
    record {
      labels = r.label ∷ r.labels;
      some = omega arith;
      each = (r.first, r.each);
      is = r.is;
      short = omega arith;
    }
