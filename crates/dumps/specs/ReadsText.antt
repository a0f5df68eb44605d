-- What follows the octets of a line is read past: blanks, or a text column that shows them. Assumes nothing.
use Rattle.std.specs.Prelude.{◌≡◌, refl, Bool, true, false, List, [], ◌∷◌, ◌++◌, ℕ, suc, ◌+◌}
use Rattle.std.specs.Prelude.{◌-◌, ◌≤◌, ◌<◌, ltb, leb, eqb, length, get_or, take, drop, Some, None}
use Rattle.std.proofs.Common.{sym, ap, subst, ◌∙◌, append-nil, append_assoc, add-zero, add-one, arith, eqb-true, leb-true, leb-false, ltb-true, ltb-false, length-append, length-drop, length-take-le, get_or-take, drop-cons, get_or-drop}
use Rattle.std.proofs.lemmas.Bool.{eqb-false}
use Rattle.std.proofs.Math.ListN.{get_or-append}
use Rattle.std.proofs.Math.Seq.{append_snoc, drop-append_seam, get_or-append_seam}
use Rattle.octets.specs.ListsLaws.{all_append, all-at}
use Rattle.hexes.specs.Hexes as hexes
use Rattle.dumps.specs.declared.Style.{Style}
use Rattle.dumps.specs.State.{State}
use Rattle.dumps.specs.Class as class
use Rattle.dumps.specs.Mode as mode
use Rattle.dumps.specs.States as states
use Rattle.dumps.specs.States.{class_of, shown_of, moved}
use Rattle.dumps.specs.StatesLaws.{cut-blank, cut-none}
use Rattle.dumps.specs.Shows as shows
use Rattle.dumps.specs.Shows.{Blank, Blanks, Shown, Faint, Text, Column, Without, End, Apart, Told}
use Rattle.dumps.specs.Moves as moves
use Rattle.dumps.specs.Moves.{by-class, digit-says}
use Rattle.dumps.specs.Places.{FrontOf}
use Rattle.dumps.specs.Reads as reads
use Rattle.dumps.specs.Reads.{Good, back_on, class-break, class-blank, shown-is, shown-range}
use Rattle.dumps.specs.ReadsLine.{RowOf, Sides, row_count, row_at, row-front, one-blank, two-blanks}

-- a column by its two kinds
by-column : {f : Style} {cs t : List ℕ} {P : Type 0} → Column f cs t → ((x : ℕ) → f.opening ≡ Some x → (u : List ℕ) → t ≡ x ∷ u → Text f cs u → P)
    → (f.opening ≡ None → (ds b : List ℕ) → cs ≡ ds ++ b → Faint f ds → Text f b t → P) → P
by-column (shows.fenced {o = x} {cs} {t} o e) p q = p x o t refl e
by-column (shows.free ds {bs} {t} o h e) p q = q o ds bs refl h e

-- what follows the octets, by its two kinds
by_end : {f : Style} {cs e : List ℕ} {before stands : Bool} {P : Type 0} → End f cs before stands e
    → (before ≡ stands → Blanks e → Without f cs before → P)
    → (stands ≡ true → (q t : List ℕ) → e ≡ q ++ t → Blanks q → 2 ≤ length q → Column f cs t → P) → P
by_end (shows.bare b w) p q = p refl b w
by_end (shows.beside l {t} b two c) p q = q refl l t refl b two c

by-without : {f : Style} {cs : List ℕ} {before : Bool} {P : Type 0} → Without f cs before → (Faint f cs → P) → (f.column ≡ false → before ≡ false → P) → P
by-without (shows.faint h) p q = p h
by-without (shows.none e) p q = q e refl

apart_other : (x : ℕ) → Apart x → class_of x ≡ class.Other
apart_other x a =
    by-class x
    (λ c e. absurd (a.line_break e))
    (λ c b _. absurd (a.blank b))
    (λ c d _. absurd (a.digit (hexes.value x) (digit-says x d)))
    (λ c _ _. c)

-- an octet of those that are shown as blanks
faint-at : (f : Style) (l : List ℕ) (i : ℕ) → Faint f l → i < length l → Shown f (get_or l i 0) 32
faint-at f l i h k = all-at (λ b. Shown f b 32) 0 l h i k

-- no octet of a line that is shown as blanks is one that the column has to show
faint-solid : {f : Style} {e z l : ℕ} {now cs : List ℕ} → Sides f e z now cs → Faint f cs → l ≡ length now → z ≤ l
faint-solid {f} {e} {z} {l} {now} {cs} c h p = go (leb c.last 0) refl
  where
    go : (g : Bool) → leb c.last 0 ≡ g → z ≤ l
    go true q = let k = leb-true c.last 0 q in omega (arith, c.solid_is)
    go false q =
        let k = leb-false c.last 0 q in
        absurd (c.clear (omega arith) (faint-at f cs (c.last - 1) h (omega (arith, c.fewer))))

-- a line may end without a column where none has stood and none is asked for
cut-free : (f : Style) (n : ℕ) (s : State) → f.column ≡ false → s.column ≡ false → states.closed n s ≡ states.cut f n s
cut-free f n s p q = go (leb s.solid s.line) refl
  where
    go : (g : Bool) → leb s.solid s.line ≡ g → states.closed n s ≡ states.cut f n s
    go true r = cut-blank f n s (leb-true s.solid s.line r)
    go false r = cut-none f n s (leb-false s.solid s.line r) p q

-- `stood` is whether a column has stood before the line, as the state says; `stands` whether one has after it, as the lines say
module _ (f : Style) (told : Told f) (m : ℕ) (bs now cs rest : List ℕ) (n : ℕ) (out : List ℕ) (stood stands : Bool)
    (go_on : (c : Bool) (t : State) → t.mode ≡ mode.start → FrontOf c t n out (now ++ cs) cs false → (c ≡ true → stands ≡ true)
    → Good f t n out rest m bs) where
  over : (c : Bool) (s t : State) → t.mode ≡ mode.start → FrontOf c t n out (now ++ cs) cs false → (c ≡ true → stands ≡ true)
      → t ≡ moved f 10 n (get_or out s.beside 0) s → Good f s n out (10 ∷ rest) m bs
  over c s t v a k e = back_on f s 10 n out rest m bs t e a.good a.filled (λ z. absurd (omega arith)) (go_on c t v a k)

  -- ---- without a column

  over-bare : (s : State) → RowOf stood s n out now cs → (stood ≡ true → stands ≡ true) → states.closed n s ≡ states.cut f n s
      → states.cut f n s ≡ moved f 10 n (get_or out s.beside 0) s → Good f s n out (10 ∷ rest) m bs
  over-bare s a k h e = over stood s (states.closed n s) refl (row-front s a a.column) k (h ∙ e)

  bare-read : (s : State) → s.mode ≡ mode.low → RowOf stood s n out now cs → (stood ≡ true → stands ≡ true)
      → ((t : State) → t.solid ≡ s.solid → t.line ≡ s.line → t.column ≡ s.column → states.closed n t ≡ states.cut f n t)
      → (q : List ℕ) → Blanks q → Good f s n out (q ++ (10 ∷ rest)) m bs
  bare-read s v a k h [] b = over-bare s a k (h s refl refl refl) (moves.at_low f 10 n (get_or out s.beside 0) s class.Break class-break v)
  bare-read s v a k h (x ∷ []) b =
      let t : State = states.to mode.one s in
      one-blank f m bs now stood s n out v a.good a.filled x (10 ∷ rest) b.0
      (over-bare t a k (h t refl refl refl) (moves.at_one f 10 n (get_or out s.beside 0) t class.Break class-break refl))
  bare-read s v a k h (x ∷ y ∷ q) b =
      let t : State = states.to mode.more s in
      two-blanks f m bs now stood s n out v a.good a.filled x y q (10 ∷ rest) b.0 b.1.0 b.1.1
      (over-bare t a k (h t refl refl refl) (moves.at_more f 10 n (get_or out s.beside 0) t class.Break class-break refl))

  -- the line may end so
  cuts : {before : Bool} → Without f cs before → (stood ≡ true → before ≡ true) → (s t : State) → RowOf stood s n out now cs
      → Sides f s.beside s.solid now cs → t.solid ≡ s.solid → t.line ≡ s.line → t.column ≡ s.column
      → states.closed n t ≡ states.cut f n t
  cuts {before} w y s t a c p q r =
      by-without w
      (λ h.
      let z : s.solid ≤ s.line = faint-solid c h a.here in
      cut-blank f n t (subst (λ (i : ℕ). i ≤ t.line) (sym p) (subst (λ (i : ℕ). s.solid ≤ i) (sym q) z)))
      (λ k e. cut-free f n t k (r ∙ a.column ∙ none stood refl e))
    where
      none : (g : Bool) → stood ≡ g → before ≡ false → stood ≡ false
      none false e z = e
      none true e z =
          let i : true ≡ false = sym (y e) ∙ z in
          let j : ◌≡◌ {A = ℕ} 0 1 = cc in
          absurd (omega arith)

  -- ---- with one

  module _ (beside : stands ≡ true) where
    over-beside : (s : State) → RowOf stood s n out now cs → states.columned n s ≡ moved f 10 n (get_or out s.beside 0) s
        → Good f s n out (10 ∷ rest) m bs
    over-beside s a e = over true s (states.columned n s) refl (row-front s a refl) (λ _. beside) e

    closed-read : (s : State) → s.mode ≡ mode.closed → RowOf stood s n out now cs → (q : List ℕ) → Blanks q → Good f s n out (q ++ (10 ∷ rest)) m bs
    closed-read s v a [] b = over-beside s a (moves.at-closed f 10 n (get_or out s.beside 0) s class.Break class-break v)
    closed-read s v a (x ∷ q) b =
        back_on f s x n out (q ++ (10 ∷ rest)) m bs s (moves.at-closed f x n (get_or out s.beside 0) s class.Blank (class-blank b.0) v) a.good
        a.filled (λ z. absurd (omega arith)) (closed-read s v a q b.1)

    -- ---- in it

    text-read : {b t : List ℕ} → Text f b t → (s : State) → s.mode ≡ mode.text → RowOf stood s n out now cs → (i : ℕ) → s.beside ≡ length now + i
        → i ≤ length cs → drop i cs ≡ b → (j : ℕ) → s.solid ≡ length now + j → j ≤ length cs → (1 ≤ j → Shown f (get_or cs (j - 1) 0) 32 → ⊥)
        → Good f s n out (t ++ (10 ∷ rest)) m bs
    text-read (shows.shows {b = o} {x} {bs = b} {t} h e) s v a i w k d j z l c =
        let q : length cs - i ≡ suc (length b) = sym (length-drop i cs) ∙ ap length d in
        let p : i < length cs = omega arith in
        let y = drop-cons cs i 0 p in
        let g : get_or cs i 0 ≡ o = cc in
        let r : drop (suc i) cs ≡ b = cc in
        let u = row_count a in
        let at : get_or out s.beside 0 ≡ o = ap (λ (i : ℕ). get_or out i 0) w ∙ row_at a i p ∙ g in
        let f₁ = shown-range h in
        let t₁ : State = states.to mode.text (states.column (s.beside + 1) s) in
        back_on f s x n out (t ++ (10 ∷ rest)) m bs t₁
        (reads.beside-shows f x n (get_or out s.beside 0) s (omega arith) (shown-is h ∙ ap (shown_of f.prefix) (sym at))
        ∙ reads.text-beside f x n (get_or out s.beside 0) s (λ z. absurd (omega arith)) (λ z. absurd (omega arith))
        ∙ moves.at-text f x n (get_or out s.beside 0) s v)
        a.good a.filled (λ z. absurd (omega arith))
        (text-read e t₁ refl a (i + 1) (omega arith) (omega arith) (ap (λ (i : ℕ). drop i cs) (add-one i) ∙ r) j z l c)
    text-read (shows.returned {bs = b} {t} e) s v a i w k d j z l c =
        back_on f s 13 n out (t ++ (10 ∷ rest)) m bs s
        (reads.text-returned f 13 n (get_or out s.beside 0) s refl ∙ moves.at-text f 13 n (get_or out s.beside 0) s v) a.good a.filled
        (λ z. absurd (omega arith)) (text-read e s v a i w k d j z l c)
    text-read (shows.ends {bs = b} o h) s v a i w k d j z l c =
        over-beside s a
        (reads.broken-on f 10 n 0 s o solid
        ∙ reads.text-broken f 10 n (get_or out s.beside 0) s refl
        ∙ moves.at-text f 10 n (get_or out s.beside 0) s v)
      where
        few : (g : Bool) → leb j i ≡ g → j ≤ i
        few true p = leb-true j i p
        few false p =
            let q = leb-false j i p in
            let x : j - 1 - i < length (drop i cs) = subst (λ (y : ℕ). j - 1 - i < y) (sym (length-drop i cs)) (omega arith) in
            let y : i + (j - 1 - i) ≡ j - 1 = omega arith in
            absurd
            (c (omega arith)
            (subst (λ (b : ℕ). Shown f b 32) (get_or-drop i cs (j - 1 - i) 0 ∙ ap (λ (i : ℕ). get_or cs i 0) y)
            (faint-at f (drop i cs) (j - 1 - i) (subst (Faint f) (sym d) h) x)))

        solid : s.solid ≤ s.beside
        solid = let q = few (leb j i) refl in omega arith
    text-read (shows.blank {t} o e) s v a i w k d j z l c =
        let q : length cs - i ≡ 0 = sym (length-drop i cs) ∙ ap length d in
        let u = row_count a in
        back_on f s 32 n out (t ++ (10 ∷ rest)) m bs s
        (reads.past-blank f 32 n 0 s o refl
        ∙ reads.beside-over f 32 n (get_or out s.beside 0) s (omega arith)
        ∙ reads.text-beside f 32 n (get_or out s.beside 0) s (λ z. absurd (omega arith)) (λ z. absurd (omega arith))
        ∙ moves.at-text f 32 n (get_or out s.beside 0) s v)
        a.good a.filled (λ z. absurd (omega arith)) (text-read e s v a i w k d j z l c)
    text-read (shows.closes {c = x} {q} o b) s v a i w k d j z l c =
        let p : length cs - i ≡ 0 = sym (length-drop i cs) ∙ ap length d in
        let u = row_count a in
        let y = told.closing x o in
        back_on f s x n out (q ++ (10 ∷ rest)) m bs (states.to mode.closed s)
        (reads.past-closes f x n 0 s o
        ∙ reads.beside-over f x n (get_or out s.beside 0) s (omega arith)
        ∙ reads.text-beside f x n (get_or out s.beside 0) s (λ z. y.blank (shows.carriage_return z)) y.line_break
        ∙ moves.at-text f x n (get_or out s.beside 0) s v)
        a.good a.filled (λ z. absurd (omega arith)) (closed-read (states.to mode.closed s) refl a q b)

    -- ---- before a column that nothing stands before

    module _ (s : State) (v : s.mode ≡ mode.more) (a : RowOf stood s n out now cs) (c : Sides f s.beside s.solid now cs) (op : f.opening ≡ None) where
      passes : (x : ℕ) (t : List ℕ) → Blank x → Good f s n out (t ++ (10 ∷ rest)) m bs → Good f s n out (x ∷ (t ++ (10 ∷ rest))) m bs
      passes x t b r =
          back_on f s x n out (t ++ (10 ∷ rest)) m bs s (moves.at_more f x n (get_or out s.beside 0) s class.Blank (class-blank b) v) a.good a.filled
          (λ z. absurd (omega arith)) r

      -- those at its front that are shown as blanks are as many as the state has
      not-fewer : (ds b : List ℕ) → Faint f ds → cs ≡ ds ++ b → length ds ≤ c.first
      not-fewer ds b h e = go (ltb c.first (length ds)) refl
        where
          go : (g : Bool) → ltb c.first (length ds) ≡ g → length ds ≤ c.first
          go false p = ltb-false c.first (length ds) p
          go true p =
              let k = ltb-true c.first (length ds) p in
              let l : length cs ≡ length ds + length b = ap length e ∙ length-append ds b in
              absurd
              (c.plain (omega arith)
              (subst (λ (o : ℕ). Shown f o 32) (sym (ap (λ (l : List ℕ). get_or l c.first 0) e ∙ get_or-append ds b 0 c.first k))
              (faint-at f ds c.first h k)))

      not_more : (ds b : List ℕ) (o : ℕ) → (Shown f o 32 → ⊥) → cs ≡ ds ++ (o ∷ b) → c.first ≤ length ds
      not_more ds b o h e = go (ltb (length ds) c.first) refl
        where
          go : (g : Bool) → ltb (length ds) c.first ≡ g → c.first ≤ length ds
          go false p = ltb-false (length ds) c.first p
          go true p =
              let k = ltb-true (length ds) c.first p in
              let l : length (take c.first cs) ≡ c.first = length-take-le c.first cs c.few in
              absurd
              (h
              (subst (λ (o : ℕ). Shown f o 32)
              (get_or-take c.first cs (length ds) 0 k ∙ ap (λ (l : List ℕ). get_or l (length ds) 0) e ∙ get_or-append_seam ds o b 0)
              (faint-at f (take c.first cs) (length ds) c.faint (subst (λ (j : ℕ). length ds < j) (sym l) k))))

      -- the first character of the column
      begins : (ds b t : List ℕ) (o x : ℕ) → Faint f ds → cs ≡ ds ++ (o ∷ b) → Shown f o x → (x ≡ 32 → ⊥) → Text f b t
          → Good f s n out (x ∷ (t ++ (10 ∷ rest))) m bs
      begins ds b t o x h e sh z tx =
          by-class x
          (λ _ q. let r = range in absurd (omega arith))
          (λ _ q _. absurd (no_blank q))
          (λ k _ _. shown-first (reads.more-digit f x n (get_or out s.beside 0) s op ∙ moves.at_more f x n (get_or out s.beside 0) s class.Digit k v))
          (λ k _ _. shown-first (reads.more-other f x n (get_or out s.beside 0) s op ∙ moves.at_more f x n (get_or out s.beside 0) s class.Other k v))
        where
          range : (32 ≤ x) × (x ≤ 126)
          range = shown-range sh

          no_blank : Blank x → ⊥
          no_blank (shows.space q) = z q
          no_blank (shows.tab q) = let r = range in absurd (omega arith)
          no_blank (shows.carriage_return q) = let r = range in absurd (omega arith)

          clear : Shown f o 32 → ⊥
          clear q = z (shown-is sh ∙ sym (shown-is q))

          first : c.first ≡ length ds
          first = let p = not-fewer ds (o ∷ b) h e in let q = not_more ds b o clear e in omega arith

          dropped : drop c.first cs ≡ o ∷ b
          dropped = ap (λ (i : ℕ). drop i cs) first ∙ ap (drop (length ds)) e ∙ drop-append_seam ds (o ∷ b)

          shown-first : states.beside f x n (get_or out s.beside 0) s ≡ moved f x n (get_or out s.beside 0) s
              → Good f s n out (x ∷ (t ++ (10 ∷ rest))) m bs
          shown-first q =
              let l : length cs ≡ length ds + suc (length b) = ap length e ∙ length-append ds (o ∷ b) in
              let p : c.first < length cs = omega (arith, first) in
              let y = drop-cons cs c.first 0 p in
              let w = dropped in
              let g : get_or cs c.first 0 ≡ o = cc in
              let r : drop (suc c.first) cs ≡ b = cc in
              let u = row_count a in
              let at : get_or out s.beside 0 ≡ o = ap (λ (i : ℕ). get_or out i 0) c.beside_is ∙ row_at a c.first p ∙ g in
              let t₁ : State = states.to mode.text (states.column (s.beside + 1) s) in
              back_on f s x n out (t ++ (10 ∷ rest)) m bs t₁
              (reads.beside-shows f x n (get_or out s.beside 0) s (omega (arith, c.beside_is)) (shown-is sh ∙ ap (shown_of f.prefix) (sym at)) ∙ q)
              a.good a.filled (λ z. absurd (omega arith))
              (text-read tx t₁ refl a (c.first + 1) (omega (arith, c.beside_is)) (omega arith) (ap (λ (i : ℕ). drop i cs) (add-one c.first) ∙ r)
              c.last c.solid_is c.fewer c.clear)

      lead-read : {b t : List ℕ} → Text f b t → (ds : List ℕ) → Faint f ds → cs ≡ ds ++ b → Good f s n out (t ++ (10 ∷ rest)) m bs
      lead-read (shows.shows {b = o} {x} {bs = b} {t} h e) ds q d =
          go (eqb x 32) refl
          (λ z.
          lead-read e (ds ++ (o ∷ [])) (all_append (λ b. Shown f b 32) ds (o ∷ []) q (subst (Shown f o) z h, tt)) (d ∙ sym (append_snoc ds o b)))
        where
          go : (g : Bool) → eqb x 32 ≡ g → (x ≡ 32 → Good f s n out (t ++ (10 ∷ rest)) m bs) → Good f s n out (x ∷ (t ++ (10 ∷ rest))) m bs
          go true p r = let z = eqb-true x 32 p in passes x t (shows.space z) (r z)
          go false p r = begins ds b t o x q d h (eqb-false x 32 p) e
      lead-read (shows.returned {bs = b} {t} e) ds q d = passes 13 t (shows.carriage_return refl) (lead-read e ds q d)
      lead-read (shows.ends {bs = b} o h) ds q d =
          let w : Faint f cs = subst (Faint f) (sym d) (all_append (λ b. Shown f b 32) ds b q h) in
          over-bare s a (λ _. beside) (cut-blank f n s (faint-solid c w a.here))
          (moves.at_more f 10 n (get_or out s.beside 0) s class.Break class-break v)
      lead-read (shows.blank {t} o e) ds q d = passes 32 t (shows.space refl) (lead-read e ds q d)
      lead-read (shows.closes {c = x} {q} o b) ds h d =
          let u = row_count a in
          let p = not-fewer ds [] h d in
          let l : length cs ≡ length ds = ap length (d ∙ append-nil ds) in
          back_on f s x n out (q ++ (10 ∷ rest)) m bs (states.to mode.closed s)
          (reads.past-closes f x n 0 s o
          ∙ reads.beside-over f x n (get_or out s.beside 0) s (omega (arith, c.beside_is))
          ∙ reads.more-other f x n (get_or out s.beside 0) s op
          ∙ moves.at_more f x n (get_or out s.beside 0) s class.Other (apart_other x (told.closing x o)) v)
          a.good a.filled (λ z. absurd (omega arith)) (closed-read (states.to mode.closed s) refl a q b)

    column-read : {t : List ℕ} → Column f cs t → (s : State) → s.mode ≡ mode.more → RowOf stood s n out now cs → Sides f s.beside s.solid now cs
        → Good f s n out (t ++ (10 ∷ rest)) m bs
    column-read {t} e s v a c =
        by-column e
        (λ x o u p q.
        let t₁ : State = states.to mode.text (states.column s.line s) in
        subst (λ (l : List ℕ). Good f s n out (l ++ (10 ∷ rest)) m bs) (sym p)
        (back_on f s x n out (u ++ (10 ∷ rest)) m bs t₁
        (reads.fenced-on f x n 0 s o
        ∙ reads.more-fenced f x n (get_or out s.beside 0) s o
        ∙ moves.at_more f x n (get_or out s.beside 0) s class.Other (apart_other x (told.opening x o)) v)
        a.good a.filled (λ z. absurd (omega arith))
        (text-read q t₁ refl a 0 (a.here ∙ sym (add-zero (length now))) (omega arith) refl c.last c.solid_is c.fewer c.clear)))
        (λ o ds b p h q. lead-read s v a c o q ds h p)

  pub end_read : {e : List ℕ} {before : Bool} → End f cs before stands e → (stood ≡ true → before ≡ true) → (s : State) → s.mode ≡ mode.low
      → RowOf stood s n out now cs → Sides f s.beside s.solid now cs → Good f s n out (e ++ (10 ∷ rest)) m bs
  end_read {e} {before} end y s v a c =
      by_end end
      (λ p b w. bare-read s v a (λ z. sym p ∙ y z) (λ t. cuts w y s t a c) e b)
      (λ p q t z b two l.
      subst (λ (l : List ℕ). Good f s n out l m bs) (sym (ap (λ (l : List ℕ). l ++ (10 ∷ rest)) z ∙ append_assoc q t (10 ∷ rest)))
      (blanks p t l q b two))
    where
      blanks : stands ≡ true → (t : List ℕ) → Column f cs t → (q : List ℕ) → Blanks q → 2 ≤ length q → Good f s n out (q ++ (t ++ (10 ∷ rest))) m bs
      blanks p t l [] b two = absurd (omega arith)
      blanks p t l (x ∷ []) b two = absurd (omega arith)
      blanks p t l (x ∷ y ∷ q) b two =
          two-blanks f m bs now stood s n out v a.good a.filled x y q (t ++ (10 ∷ rest)) b.0 b.1.0 b.1.1
          (column-read p l (states.to mode.more s) refl a c)
