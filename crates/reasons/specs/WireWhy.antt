-- Why a name in wire form is bad at its first bad place: along the walk of the check, what stands before the place. Assumes nothing.
use Rattle.std.specs.Prelude.{◌≡◌, refl, ◌⊎◌, Bool, false, ◌&&◌, leb, ltb, eqb, Ok, Err}
use Rattle.std.proofs.Math.Path.{sym, ap}
use Rattle.std.proofs.Common.{◌∙◌, subst, inl, inr, true≢false, eqb-true, leb-true, leb-false, ltb-true, ltb-false, eq-eqb, le-leb}
use Rattle.std.proofs.Math.Bool.{true, cond, and-eq-true_iff}
use mathlib.Core.List.{List, [], ◌∷◌, ◌++◌, append_assoc, append-nil}
use Prim.Native.Nat.{ℕ, ◌+◌, ◌-◌, ◌≤◌, ◌<◌}
use native.Mathlib.Omega.{arith}
use Rattle.std.proofs.Math.ListN.{length, length-append}
use Rattle.std.proofs.lemmas.Bool.{eqb-false}
use Rattle.octets.specs.Cases.{by-test}
use Rattle.octets.specs.Lists.{All}
use Rattle.octets.specs.ListsLaws.{all_append, all_map}
use Rattle.names.specs.Names.{alnum, head, last, Ldh, Label}
use Rattle.names.specs.Automaton.{Move, stop, go, Checked, on, walk}
use Rattle.names.specs.AutomatonLaws.{not_good}
use Rattle.names.specs.Wire.{State, letter, hyphen, first, root, step, ended, inside, length_octet, label_fits, hyphen_fits, name_automaton, name_check}
use Rattle.reasons.specs.Reason as reason
use Rattle.reasons.specs.Names.{length_reason, octet_reason, wire_reason}
use Rattle.reasons.specs.NamesLaws.{head-snoc, last-append, wire-cut}
use Rattle.reasons.specs.PlaceLaws.{Some, labelled-length, labelled-snoc, at_length, after-root, in-label}
use Rattle.reasons.specs.Claims as claims
use Rattle.reasons.specs.Claims.{labelled, AtLength, InLabel, WireWhy}

-- ---- what stands before a place of s from which on s has xs

-- whole labels
record Whole (s : List ℕ) (at : ℕ) (xs : List ℕ) : Type 0 where
  pub labels : List (List ℕ)
  pub each : All Label labels
  pub is : s ≡ labelled labels xs
  pub place : at ≡ length (labelled labels [])

-- whole labels, and octets of a label of which k are to come
record Within (s : List ℕ) (begun : List ℕ) (k at : ℕ) (xs : List ℕ) : Type 0 where
  pub labels : List (List ℕ)
  pub each : All Label labels
  pub size : ℕ
  pub is : s ≡ labelled labels (size ∷ (begun ++ xs))
  pub place : at ≡ length (labelled labels (size ∷ begun))
  pub left : size ≡ length begun + k
  pub short : size ≤ 63
  pub octets : All Ldh begun

-- a label that has begun, with a letter or a digit
abbrev Begun : List ℕ → ℕ → ℕ → List ℕ → Type 0
Begun s k at xs = (begun : List ℕ) × Within s begun k at xs × (1 ≤ length begun) × (alnum (head 0 begun) ≡ true)

-- labels and the root octet
record Rooted (s : List ℕ) (at : ℕ) (xs : List ℕ) : Type 0 where
  pub labels : List (List ℕ)
  pub named : 1 ≤ length labels
  pub each : All Label labels
  pub is : s ≡ labelled labels (0 ∷ xs)
  pub place : at ≡ length (labelled labels (0 ∷ []))

abbrev Before : List ℕ → State → ℕ → List ℕ → Type 0
Before s (letter k) at xs = (k ≡ 0 → Whole s at xs) × ((k ≡ 0 → ⊥) → Begun s k at xs)
Before s (hyphen k) at xs = (1 ≤ k) × Begun s k at xs
Before s (first k) at xs = Within s [] (k + 1) at xs
Before s root at xs = Rooted s at xs

some-each : (ls : List (List ℕ)) → All Label ls → All Some ls
some-each ls o = all_map Label Some ls (λ l h. h.some) o

-- ---- one octet more

module _ (s : List ℕ) (at x : ℕ) (xs : List ℕ) where
  -- a length octet
  opened : Whole s at (x ∷ xs) → (x ≡ 0 → ⊥) → x ≤ 63 → Within s [] (x - 1 + 1) (at + 1) xs
  opened w n h =
      let q = w.place in
      let k = labelled-length w.labels (x ∷ []) in
      record {
        labels = w.labels;
        each = w.each;
        size = x;
        is = w.is;
        place = omega arith;
        left = omega arith;
        short = h;
        octets = tt;
      }

  rooted : Whole s at (x ∷ xs) → x ≡ 0 → (at ≡ 0 → ⊥) → Rooted s (at + 1) xs
  rooted w e n =
      let q = w.place in
      let k = labelled-length w.labels (0 ∷ []) in
      record {
        labels = w.labels;
        named = some w.labels w.place;
        each = w.each;
        is = w.is ∙ ap (λ (y : ℕ). labelled w.labels (y ∷ xs)) e;
        place = omega arith;
      }
    where
      some : (ls : List (List ℕ)) → at ≡ length (labelled ls []) → 1 ≤ length ls
      some [] q = absurd (n q)
      some (l ∷ ls) q = omega arith

  module _ (begun : List ℕ) (k : ℕ) (w : Within s begun k at (x ∷ xs)) (n : k ≡ 0 → ⊥) where
    -- an octet of a label
    further : Ldh x → Within s (begun ++ (x ∷ [])) (k - 1) (at + 1) xs
    further o =
        let q = w.place in
        let f = w.left in
        let a = labelled-length w.labels (w.size ∷ begun) in
        let b = labelled-length w.labels (w.size ∷ (begun ++ (x ∷ []))) in
        let d = length-append begun (x ∷ []) in
        record {
          labels = w.labels;
          each = w.each;
          size = w.size;
          is = w.is ∙ ap (λ (l : List ℕ). labelled w.labels (w.size ∷ l)) (sym (append_assoc begun (x ∷ []) xs));
          place = omega arith;
          left = omega arith;
          short = w.short;
          octets = all_append Ldh begun (x ∷ []) w.octets (o, tt);
        }

    -- the last one
    closed : alnum x ≡ true → alnum (head 0 (begun ++ (x ∷ []))) ≡ true → k ≡ 1 → Whole s (at + 1) xs
    unfolding further
    closed a b e =
        let v = further (inl a) in
        let l : List ℕ = begun ++ (x ∷ []) in
        let f = w.left in
        let d = length-append begun (x ∷ []) in
        let z : w.size ≡ length l = omega arith in
        let h = w.short in
        let g = w.place in
        let i = labelled-length w.labels (w.size ∷ begun) in
        let j = labelled-length w.labels (length l ∷ (l ++ [])) in
        let m = ap length (append-nil l) in
        let r = ap length (labelled-snoc w.labels l []) in
        let end : alnum (last 0 l) ≡ true = ap alnum (last-append 0 x begun []) ∙ a in
        record {
          labels = w.labels ++ (l ∷ []);
          each =
              all_append Label w.labels (l ∷ []) w.each
              (record { some = omega arith; short = omega arith; octets = v.octets; begins = b; ends = end }, tt);
          is = v.is ∙ ap (λ (y : ℕ). labelled w.labels (y ∷ (l ++ xs))) z ∙ sym (labelled-snoc w.labels l xs);
          place = omega arith;
        }

    -- after a letter or a digit
    lettered : alnum x ≡ true → alnum (head 0 (begun ++ (x ∷ []))) ≡ true → Before s (letter (k - 1)) (at + 1) xs
    lettered a b =
        let d = length-append begun (x ∷ []) in
        (λ z. closed a b (omega arith), λ z. (begun ++ (x ∷ []), further (inl a), omega arith, b))

-- ---- where it stops

either-false : (a b : Bool) → a && b ≡ false → a ≡ true → b ≡ false
either-false true b e f = e
either-false false b e f = absurd (true≢false (sym f))

module _ (s : List ℕ) (p x : ℕ) (xs : List ℕ) where
  -- at a length octet
  length-why : Whole s p (x ∷ xs) → (x ≡ 0 → p ≡ 0) → ((x ≡ 0 → ⊥) → label_fits p x ≡ false) → WireWhy s p (wire_reason s p)
  length-why w e f = subst (WireWhy s p) (sym (at_length w.labels (some-each w.labels w.each) s p x xs w.is w.place)) judged
    where
      here : AtLength s p x
      here = record { labels = w.labels; after = xs; each = w.each; is = w.is; place = w.place }

      bare : (ls : List (List ℕ)) → length (labelled ls []) ≡ 0 → labelled ls (0 ∷ xs) ≡ 0 ∷ xs
      bare [] h = refl
      bare (l ∷ ls) h = absurd (omega arith)

      judged : WireWhy s p (length_reason x)
      judged =
          by-test (eqb x 0) (λ b. WireWhy s p (cond b reason.empty (cond (leb 192 x) reason.pointer (cond (leb 64 x) reason.label reason.long))))
          (λ t. let z : x ≡ 0 = eqb-true _ _ t in let g = w.place in let y = e z in
          claims.empty refl (inr (xs, w.is ∙ ap (λ (v : ℕ). labelled w.labels (v ∷ xs)) z ∙ bare w.labels (omega arith))) y)
          (λ t. by-test (leb 192 x) (λ b. WireWhy s p (cond b reason.pointer (cond (leb 64 x) reason.label reason.long)))
          (λ u. claims.pointer refl x here (leb-true _ _ u))
          (λ u. by-test (leb 64 x) (λ b. WireWhy s p (cond b reason.label reason.long))
          (λ v. claims.label refl x here (leb-true _ _ v) (leb-false _ _ u))
          (λ v. let n : x ≡ 0 → ⊥ = eqb-false _ _ t in
          let h : x < 64 = leb-false _ _ v in
          let g : 253 < p + x = leb-false _ _ (either-false (leb x 63) (leb (p + x) 253) (f n) (le-leb x 63 (omega arith))) in
          claims.long refl x here (omega (arith, n)) (omega arith) (omega arith))))

  -- within a label
  octet-why : (begun : List ℕ) (k : ℕ) → Within s begun k p (x ∷ xs) → 1 ≤ k → alnum x ≡ false → (x ≡ 45 → (length begun ≡ 0) ⊎ (k ≡ 1))
      → WireWhy s p (wire_reason s p)
  octet-why begun k w h a e =
      subst (WireWhy s p)
      (sym (in-label w.labels (some-each w.labels w.each) s p x xs w.size begun (let f = w.left in omega arith) w.is w.place))
      judged
    where
      here : (y : ℕ) → x ≡ y → InLabel s p y w.size begun
      here y q = record {
        labels = w.labels;
        after = xs;
        each = w.each;
        is = w.is ∙ ap (λ (v : ℕ). labelled w.labels (w.size ∷ (begun ++ (v ∷ xs)))) q;
        place = w.place;
        within = (let f = w.left in omega arith);
        short = w.short;
        octets = w.octets;
      }

      ends : (length begun ≡ 0) ⊎ (k ≡ 1) → (length begun ≡ 0) ⊎ (length begun + 1 ≡ w.size)
      ends (inl z) = inl z
      ends (inr z) = let f = w.left in inr (omega arith)

      other : (x ≡ 45 → ⊥) → Ldh x → ⊥
      other n (inl t) = true≢false (sym t ∙ a)
      other n (inr t) = n t

      judged : WireWhy s p (octet_reason x)
      judged =
          by-test (eqb x 95) (λ b. WireWhy s p (cond b reason.underscore (cond (eqb x 45) reason.hyphen reason.octet)))
          (λ t. claims.underscore refl w.size begun (here 95 (eqb-true _ _ t)))
          (λ t. by-test (eqb x 45) (λ b. WireWhy s p (cond b reason.hyphen reason.octet))
          (λ u. claims.hyphen refl w.size begun (here 45 (eqb-true _ _ u)) (ends (e (eqb-true _ _ u))))
          (λ u. claims.octet refl x w.size begun (here x refl) (other (eqb-false _ _ u)) (eqb-false _ _ t)))

  root-why : Rooted s p (x ∷ xs) → WireWhy s p (wire_reason s p)
  root-why w =
      claims.after (after-root w.labels (some-each w.labels w.each) s p x xs w.is w.place)
      (record { labels = w.labels; after = x ∷ xs; named = w.named; each = w.each; is = w.is; place = w.place; some = omega arith })

-- at the end
cut-why : (s : List ℕ) (p : ℕ) → p ≡ length s → WireWhy s p (wire_reason s p)
unfolding wire_reason
cut-why s p e =
    by-test (eqb (length s) 0) (λ _. WireWhy s p (wire_reason s p))
    (λ t. let z : length s ≡ 0 = eqb-true _ _ t in claims.empty (simp (eq-eqb _ _ z)) (inl z) (omega arith))
    (λ t. let z : length s ≡ 0 → ⊥ = eqb-false _ _ t in claims.cut (sym (wire-cut s p z (omega arith))) (omega (arith, z)) e)

at_end : (s : List ℕ) (st : State) (at : ℕ) → Before s st at [] → name_automaton.ends st ≡ false → at ≡ length s
at_end s (letter k) at v e =
    by-test (eqb k 0) (λ _. at ≡ length s)
    (λ t. let w = v.0 (eqb-true _ _ t) in w.place ∙ sym (ap length w.is))
    (λ t. let w = (v.1 (eqb-false _ _ t)).1 in
    w.place ∙ sym (ap length (w.is ∙ ap (λ (l : List ℕ). labelled w.labels (w.size ∷ l)) (append-nil _))))
at_end s (hyphen k) at v e =
    let w = v.1.1 in
    w.place ∙ sym (ap length (w.is ∙ ap (λ (l : List ℕ). labelled w.labels (w.size ∷ l)) (append-nil _)))
at_end s (first k) at v e = v.place ∙ sym (ap length v.is)
at_end s root at v e = absurd (true≢false e)

-- ---- along the walk

module _ (s : List ℕ) (p : ℕ) where
  abbrev Why : Type 0
  Why = WireWhy s p (wire_reason s p)

  there : (at : ℕ) → WireWhy s at (wire_reason s at) → ◌≡◌ {A = Checked} (Err at) (Err p) → Why
  there at w e = let q : at ≡ p = cc in subst (λ (i : ℕ). WireWhy s i (wire_reason s i)) q w

  module _ (at x : ℕ) (xs : List ℕ) (ih : (st : State) → Before s st (at + 1) xs → walk name_automaton st (at + 1) xs ≡ Err p → Why) where
    -- what is shown of each move
    abbrev Moved : Move State → Type 0
    Moved m = on m (Err at) (λ st. walk name_automaton st (at + 1) xs) ≡ Err p → Why

    length_moved : Whole s at (x ∷ xs) → Moved (length_octet at x)
    length_moved w =
        by-test (eqb x 0) (λ b. Moved (cond b (cond (eqb at 0) stop (go root)) (cond (label_fits at x) (go (first (x - 1))) stop)))
        (λ t. let z : x ≡ 0 = eqb-true _ _ t in
        by-test (eqb at 0) (λ b. Moved (cond b stop (go root)))
        (λ u e. there at (length-why s at x xs w (λ _. eqb-true _ _ u) (λ n. absurd (n z))) e)
        (λ u e. ih root (rooted s at x xs w z (eqb-false _ _ u)) e))
        (λ t. let n : x ≡ 0 → ⊥ = eqb-false _ _ t in
        by-test (label_fits at x) (λ b. Moved (cond b (go (first (x - 1))) stop))
        (λ u e. ih (first (x - 1)) (opened s at x xs w n (leb-true _ _ ((and-eq-true_iff (leb x 63) (leb (at + x) 253)).0 u).0)) e)
        (λ u e. there at (length-why s at x xs w (λ z. absurd (n z)) (λ _. u)) e))

    inside-moved : (k : ℕ) → (k ≡ 0 → ⊥) → Begun s k at (x ∷ xs) → Moved (inside k x)
    inside-moved k n v =
        let b = v.0 in
        let w = v.1 in
        let d = length-append b (x ∷ []) in
        let h : alnum (head 0 (b ++ (x ∷ []))) ≡ true = ap alnum (head-snoc x b v.2) ∙ v.3 in
        by-test (alnum x) (λ c. Moved (cond c (go (letter (k - 1))) (cond (hyphen_fits k x) (go (hyphen (k - 1))) stop)))
        (λ a e. ih (letter (k - 1)) (lettered s at x xs b k w n a h) e)
        (λ a. by-test (hyphen_fits k x) (λ c. Moved (cond c (go (hyphen (k - 1))) stop))
        (λ t e. let q = (and-eq-true_iff (eqb x 45) (ltb 1 k)).0 t in
        let l : 1 < k = ltb-true _ _ q.1 in
        ih (hyphen (k - 1)) (omega arith, (b ++ (x ∷ []), further s at x xs b k w n (inr (eqb-true _ _ q.0)), omega arith, h)) e)
        (λ t e. there at (octet-why s at x xs b k w (omega (arith, n)) a
        (λ q. let l : k ≤ 1 = ltb-false _ _ (either-false (eqb x 45) (ltb 1 k) t (eq-eqb _ _ q)) in inr (omega (arith, n)))) e))

    moved : (st : State) → Before s st at (x ∷ xs) → Moved (step st at x)
    moved (letter k) v =
        by-test (eqb k 0) (λ b. Moved (cond b (length_octet at x) (inside k x)))
        (λ t. length_moved (v.0 (eqb-true _ _ t)))
        (λ t. inside-moved k (eqb-false _ _ t) (v.1 (eqb-false _ _ t)))
    moved (hyphen k) v = inside-moved k (omega (arith, v.0)) v.1
    moved (first k) w =
        by-test (alnum x) (λ b. Moved (cond b (go (letter k)) stop))
        (λ a e. let q : k + 1 - 1 ≡ k = omega arith in
        ih (letter k) (subst (λ (j : ℕ). Before s (letter j) (at + 1) xs) q (lettered s at x xs [] (k + 1) w (omega arith) a a)) e)
        (λ a e. there at (octet-why s at x xs [] (k + 1) w (omega arith) a (λ _. inl refl)) e)
    moved root w = λ e. there at (root-why s at x xs w) e

  along : (xs : List ℕ) (st : State) (at : ℕ) → Before s st at xs → walk name_automaton st at xs ≡ Err p → Why
  unfolding walk
  along [] st at v e =
      by-test (ended st) (λ b. cond b (Ok tt) (Err at) ≡ Err p → Why)
      (λ _ g. not_good (sym g))
      (λ t g. there at (cut-why s at (at_end s st at v t)) g)
      e
  along (x ∷ xs) st at v e = moved at x xs (λ st'. along xs st' (at + 1)) st v e

pub wire-true : (s : List ℕ) (p : ℕ) → name_check s ≡ Err p → WireWhy s p (wire_reason s p)
unfolding name_check
wire-true s p e =
    along s p s (letter 0) 0 (λ _. record { labels = []; each = tt; is = refl; place = refl }, λ n. absurd (n refl)) e
