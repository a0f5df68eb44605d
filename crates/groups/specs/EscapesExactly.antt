-- A text of \x and two digits each is read as octets exactly where it spells them, and they have room; it spells one list of octets at most.
-- Assumes nothing.
use Rattle.std.specs.Prelude.{◌≡◌, refl, Bool, true, false, cond, ◌⊎◌, List, [], ◌∷◌, ◌++◌, ℕ, ◌+◌, ◌*◌, ◌≤◌, eqb, leb, length, take, set}
use Rattle.std.proofs.Common.{sym, ap, ◌∙◌, subst, inl, inr, zero-add, arith, eqb-true, leb-true, leb-false, eq-eqb}
use Rattle.std.proofs.lemmas.Bool.{eqb-false}
use Rattle.octets.specs.Over.{over}
use Rattle.hexes.specs.Hexes.{digit, value}
use Rattle.hexes.specs.Spelled.{Digit}
use Rattle.hexes.specs.Exactly.{digit-says, digit-is}
use Rattle.inputs.specs.Why as why
use Rattle.inputs.specs.Read.{Read, Octets, Bad, Long}
use Rattle.groups.specs.Escapes.{between, next, octet_of, Ended, ended, read_from, read_of}
use Rattle.groups.specs.Filling.{Machine, Step, ends, passes, lays, Reader, runs-one, read-runs, runs-read}
use Rattle.groups.specs.Filling as filling
use Rattle.groups.specs.Spells as spells
use Rattle.groups.specs.SpellsEscapes.{Apart, quotation_mark, blank, line_break, SpellsEscapes, nothing, apart, octet}

-- ---- a run

-- where the text stands, the last character, and the octet that it made with the one before
record Seen : Type 0 where
  pub at : ℕ
  pub last : ℕ
  pub made : ℕ

abbrev seen : ℕ → ℕ → ℕ → Seen
seen at h o = record { at = at; last = h; made = o }

abbrev machine : Machine
machine =
    record {
      State = Seen;
      move = λ s x. seen (next s.at x) x (octet_of s.last x);
      Good = λ s. s.at ≡ 5 → ⊥;
      complete = λ s. eqb s.at 4;
      octet = λ s. s.made;
    }

-- the characters complete the octets bs, and none is out of place
abbrev Runs : ℕ → ℕ → ℕ → List ℕ → List ℕ → Type 0
Runs at h o xs bs = filling.Runs machine (seen at h o) xs bs

-- the same, after the character x, which led to `to`
abbrev RunsOn : ℕ → ℕ → ℕ → List ℕ → List ℕ → Type 0
RunsOn to h x xs bs = (to ≡ 5 → ⊥) × (cs : List ℕ) × Runs to x (octet_of h x) xs cs × (bs ≡ cond (eqb to 4) (octet_of h x ∷ []) [] ++ cs)

abbrev read_seen : Seen → ℕ → ℕ → List ℕ → List ℕ → Ended
read_seen s n i out xs = read_from s.at s.last n i out xs

module _ (t : Seen) (n i : ℕ) (out xs : List ℕ) where
  -- what comes of a character that leads to t, by the three tests
  abbrev picked : Bool → Bool → Bool → Ended
  picked b c d =
      cond b (ended (Bad i why.form) out)
      (cond c (cond d (ended Long out) (read_seen t (n + 1) (i + 1) (set out n t.made) xs)) (read_seen t n (i + 1) out xs))

  step : (b : Bool) → eqb t.at 5 ≡ b → (c : Bool) → eqb t.at 4 ≡ c → (d : Bool) → leb (length out) n ≡ d
      → Step machine read_seen ended t n i out xs (picked b c d)
  step false b false c d r = passes (eqb-false t.at 5 b) c refl
  step false b true c false r = lays (eqb-false t.at 5 b) c (leb-false (length out) n r) refl
  step false b true c true r = ends {r = Long} (λ m e. let z : ◌≡◌ {A = ℕ} 0 1 = cc in absurd (omega arith)) (λ g. (c, leb-true (length out) n r)) refl
  step true b c q d r =
      ends {r = Bad i why.form} (λ m e. let z : ◌≡◌ {A = ℕ} 0 1 = cc in absurd (omega arith)) (λ g. absurd (g (eqb-true t.at 5 b))) refl

reader : Reader machine read_seen ended
unfolding read_from
reader =
    record {
      same = λ e. (ap (λ (x : Ended). x.read) e, ap (λ (x : Ended). x.out) e);
      none = λ s n i out. refl;
      step = λ s x n i out xs.
          let t = seen (next s.at x) x (octet_of s.last x) in
          step t n i out xs (eqb t.at 5) refl (eqb t.at 4) refl (leb (length out) n) refl;
    }

-- ---- what is read is spelled

-- the characters of an octet that has begun, if one has
data Pending : ℕ → ℕ → List ℕ → Type 0 where
  begun : {high : ℕ} → Pending 0 high []
  after : {high : ℕ} → Pending 4 high []
  backslash : {a : ℕ} → a ≡ 92 → Pending 1 a (a ∷ [])
  ex : {a b : ℕ} → a ≡ 92 → b ≡ 120 → Pending 2 b (a ∷ b ∷ [])
  high : {a b c v : ℕ} → a ≡ 92 → b ≡ 120 → Digit c v → Pending 3 c (a ∷ b ∷ c ∷ [])

-- where a character between octets leads, by the tests
abbrev led : Bool → Bool → Bool → Bool → Bool → Bool → ℕ
led a b c d e f = cond a 1 (cond b 0 (cond c 0 (cond d 0 (cond e 0 (cond f 0 5)))))

between-says : (x : ℕ) → (between x ≡ 5 → ⊥) → ((x ≡ 92) × (between x ≡ 1)) ⊎ (Apart x × (between x ≡ 0))
between-says x = go (eqb x 92) refl (eqb x 34) refl (eqb x 32) refl (eqb x 9) refl (eqb x 13) refl (eqb x 10) refl
  where
    go : (a : Bool) → eqb x 92 ≡ a → (b : Bool) → eqb x 34 ≡ b → (c : Bool) → eqb x 32 ≡ c → (d : Bool) → eqb x 9 ≡ d
        → (e : Bool) → eqb x 13 ≡ e → (f : Bool) → eqb x 10 ≡ f → (led a b c d e f ≡ 5 → ⊥)
        → ((x ≡ 92) × (led a b c d e f ≡ 1)) ⊎ (Apart x × (led a b c d e f ≡ 0))
    go true p b q c r d s e t f u n = inl (eqb-true x 92 p, refl)
    go false p true q c r d s e t f u n = inr (quotation_mark (eqb-true x 34 q), refl)
    go false p false q true r d s e t f u n = inr (blank (spells.space (eqb-true x 32 r)), refl)
    go false p false q false r true s e t f u n = inr (blank (spells.tab (eqb-true x 9 s)), refl)
    go false p false q false r false s true t f u n = inr (blank (spells.carriage_return (eqb-true x 13 t)), refl)
    go false p false q false r false s false t true u n = inr (line_break (eqb-true x 10 u), refl)
    go false p false q false r false s false t false u n = absurd (n refl)

abbrev Next : List ℕ → Type 0
Next xs = (at h o : ℕ) (p bs : List ℕ) → Pending at h p → Runs at h o (xs ++ (10 ∷ [])) bs → SpellsEscapes (p ++ xs) bs

module _ (x : ℕ) (xs : List ℕ) (next : Next xs) where
  between_next : (h : ℕ) (bs : List ℕ) → RunsOn (between x) h x (xs ++ (10 ∷ [])) bs → SpellsEscapes (x ∷ xs) bs
  between_next h bs r = go (between-says x r.0)
    where
      go : ((x ≡ 92) × (between x ≡ 1)) ⊎ (Apart x × (between x ≡ 0)) → SpellsEscapes (x ∷ xs) bs
      go (inl e) =
          let r' : RunsOn 1 h x (xs ++ (10 ∷ [])) bs = subst (λ (y : ℕ). RunsOn y h x (xs ++ (10 ∷ [])) bs) e.1 r in
          subst (SpellsEscapes (x ∷ xs)) (sym r'.3) (next 1 x (octet_of h x) (x ∷ []) r'.1 (backslash e.0) r'.2)
      go (inr e) =
          let r' : RunsOn 0 h x (xs ++ (10 ∷ [])) bs = subst (λ (y : ℕ). RunsOn y h x (xs ++ (10 ∷ [])) bs) e.1 r in
          apart e.0 (subst (SpellsEscapes xs) (sym r'.3) (next 0 x (octet_of h x) [] r'.1 begun r'.2))

  ex-next : {a : ℕ} (bs : List ℕ) → a ≡ 92 → (b : Bool) → eqb x 120 ≡ b → RunsOn (cond b 2 5) a x (xs ++ (10 ∷ [])) bs → SpellsEscapes (a ∷ x ∷ xs) bs
  ex-next {a} bs e true b r = subst (SpellsEscapes (a ∷ x ∷ xs)) (sym r.3) (next 2 x (octet_of a x) (a ∷ x ∷ []) r.1 (ex e (eqb-true x 120 b)) r.2)
  ex-next bs e false b r = absurd (r.0 refl)

  high-next : {a b : ℕ} (bs : List ℕ) → a ≡ 92 → b ≡ 120 → (d : Bool) → digit x ≡ d → RunsOn (cond d 3 5) b x (xs ++ (10 ∷ [])) bs
      → SpellsEscapes (a ∷ b ∷ x ∷ xs) bs
  high-next {a} {b} bs e f true d r =
      subst (SpellsEscapes (a ∷ b ∷ x ∷ xs)) (sym r.3) (next 3 x (octet_of b x) (a ∷ b ∷ x ∷ []) r.1 (high e f (digit-says x d)) r.2)
  high-next bs e f false d r = absurd (r.0 refl)

  low-next : {a b c v : ℕ} (bs : List ℕ) → a ≡ 92 → b ≡ 120 → Digit c v → (d : Bool) → digit x ≡ d → RunsOn (cond d 4 5) c x (xs ++ (10 ∷ [])) bs
      → SpellsEscapes (a ∷ b ∷ c ∷ x ∷ xs) bs
  low-next {a} {b} {c} {v} bs e f g true d r =
      let o : octet_of c x ≡ v * 16 + value x = rw ((digit-is g).0, d, (digit-is g).1) refl in
      let k : SpellsEscapes (a ∷ b ∷ c ∷ x ∷ xs) ((v * 16 + value x) ∷ r.1) = octet e f g (digit-says x d) (next 4 x (octet_of c x) [] r.1 after r.2) in
      subst (SpellsEscapes (a ∷ b ∷ c ∷ x ∷ xs)) (sym (r.3 ∙ ap (λ (y : ℕ). y ∷ r.1) o)) k
  low-next bs e f g false d r = absurd (r.0 refl)

runs-spelled : (xs : List ℕ) → Next xs
unfolding digit
runs-spelled [] at h o p bs begun r = subst (SpellsEscapes []) (sym (r.3 ∙ r.2)) nothing
runs-spelled [] at h o p bs after r = subst (SpellsEscapes []) (sym (r.3 ∙ r.2)) nothing
runs-spelled [] at h o p bs (backslash e) r = absurd (r.0 refl)
runs-spelled [] at h o p bs (ex e f) r = absurd (r.0 refl)
runs-spelled [] at h o p bs (high e f d) r = absurd (r.0 refl)
runs-spelled (x ∷ xs) at h o p bs begun r = between_next x xs (runs-spelled xs) h bs r
runs-spelled (x ∷ xs) at h o p bs after r = between_next x xs (runs-spelled xs) h bs r
runs-spelled (x ∷ xs) at h o p bs (backslash e) r = ex-next x xs (runs-spelled xs) bs e (eqb x 120) refl r
runs-spelled (x ∷ xs) at h o p bs (ex e f) r = high-next x xs (runs-spelled xs) bs e f (digit x) refl r
runs-spelled (x ∷ xs) at h o p bs (high e f d) r = low-next x xs (runs-spelled xs) bs e f d (digit x) refl r

-- ---- what is spelled is read

apart-is : {x : ℕ} → Apart x → between x ≡ 0
apart-is (quotation_mark e) = rw e
apart-is (blank (spells.space e)) = rw e
apart-is (blank (spells.tab e)) = rw e
apart-is (blank (spells.carriage_return e)) = rw e
apart-is (line_break e) = rw e

spelled-runs : {t bs : List ℕ} → SpellsEscapes t bs → (at h m : ℕ) → ((x : ℕ) → next at x ≡ between x) → Runs at h m (t ++ (10 ∷ [])) bs
spelled-runs nothing at h m o = subst (λ (y : ℕ). RunsOn y h 10 [] []) (sym (o 10)) ((λ z. absurd (omega arith)), [], refl, refl)
spelled-runs (apart {x} {t} {bs} a k) at h m o =
    subst (λ (y : ℕ). RunsOn y h x (t ++ (10 ∷ [])) bs) (sym (o x ∙ apart-is a))
    ((λ z. absurd (omega arith)), bs, spelled-runs k 0 x (octet_of h x) (λ x. refl), refl)
spelled-runs (octet {a} {b} {x} {y} {v} {w} {t} {bs} e f d g k) at h m o =
    let ts = t ++ (10 ∷ []) in
    let os = (v * 16 + w) ∷ bs in
    let i = digit-is d in
    let j = digit-is g in
    let z : v * 16 + w ≡ octet_of x y = rw (i.0, j.0, i.1, j.1) refl in
    let p3 : next 3 y ≡ 4 = rw j.0 refl in
    let p2 : next 2 x ≡ 3 = rw i.0 refl in
    let p1 : next 1 b ≡ 2 = rw (eq-eqb b 120 f) refl in
    let p0 : between a ≡ 1 = rw (eq-eqb a 92 e) refl in
    let r4 : RunsOn 4 x y ts os = ((λ z. absurd (omega arith)), bs, spelled-runs k 4 y (octet_of x y) (λ x. refl), ap (λ (n : ℕ). n ∷ bs) z) in
    let r3 : Runs 3 x (octet_of b x) (y ∷ ts) os = subst (λ (n : ℕ). RunsOn n x y ts os) (sym p3) r4 in
    let r2 : Runs 2 b (octet_of a b) (x ∷ y ∷ ts) os = subst (λ (n : ℕ). RunsOn n b x (y ∷ ts) os) (sym p2) ((λ z. absurd (omega arith)), os, r3, refl) in
    let r1 : Runs 1 a (octet_of h a) (b ∷ x ∷ y ∷ ts) os =
    subst (λ (n : ℕ). RunsOn n a b (x ∷ y ∷ ts) os) (sym p1) ((λ z. absurd (omega arith)), os, r2, refl) in
    subst (λ (n : ℕ). RunsOn n h a (b ∷ x ∷ y ∷ ts) os) (sym (o a ∙ p0)) ((λ z. absurd (omega arith)), os, r1, refl)

-- ---- the theorems

-- what is read is spelled: the octets at the front of the buffer that is left
pub read-spelled : (text out : List ℕ) (n : ℕ) → (read_of text out).read ≡ Octets n → SpellsEscapes text (take n (read_of text out).out)
unfolding read_of
read-spelled text out n e =
    let out' = (read_of text out).out in
    let d = ap (λ (y : Read). ended y out') e in
    let r = read-runs machine read_seen ended reader (text ++ (10 ∷ [])) (seen 0 48 0) 0 0 out n out' (omega arith) d in
    subst (SpellsEscapes text) (sym r.3) (runs-spelled text 0 48 0 [] r.0 begun r.1)

-- what is spelled is read, where it has room, and the rest of the buffer stays as it was
pub spelled-read : (t bs out : List ℕ) → SpellsEscapes t bs → length bs ≤ length out → read_of t out ≡ ended (Octets (length bs)) (over 0 bs out)
unfolding read_of
spelled-read t bs out s h =
    runs-read machine read_seen ended reader (t ++ (10 ∷ [])) (seen 0 48 0) 0 0 out bs (spelled-runs s 0 48 0 (λ x. refl)) (omega arith)
    ∙ ap (λ (y : ℕ). ended (Octets y) (over 0 bs out)) (zero-add (length bs))

-- no text spells two lists of octets
pub spelled-once : (t bs cs : List ℕ) → SpellsEscapes t bs → SpellsEscapes t cs → bs ≡ cs
spelled-once t bs cs a b = runs-one machine (t ++ (10 ∷ [])) (seen 0 48 0) (spelled-runs a 0 48 0 (λ x. refl)) (spelled-runs b 0 48 0 (λ x. refl))
