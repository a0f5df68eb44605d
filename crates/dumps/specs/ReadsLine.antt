-- A line that shows octets is read as them: the octets, then what follows them. Assumes nothing.
use Rattle.std.specs.Prelude.{◌≡◌, refl, Bool, true, false, List, [], ◌∷◌, ◌++◌, ℕ, ◌+◌, ◌-◌, ◌*◌, ◌%◌, ◌≤◌, ◌<◌, eqb, length, get_or, set, take, drop}
use Rattle.std.proofs.Common.{sym, ap, subst, ◌∙◌, append_assoc, add-one, arith, eqb-true, length-append, length-set, length-take-le, take-suc-set, get_or-append-add, get_or-take}
use Rattle.std.proofs.lemmas.Bool.{eqb-false}
use Rattle.std.proofs.Math.ListN.{get_or-append}
use Rattle.std.proofs.Math.Seq.{drop-append_seam, take-length, get_or-append_seam}
use Rattle.std.proofs.lemmas.List.{take-append-le}
use Rattle.octets.specs.ListsLaws.{all_append}
use Rattle.hexes.specs.Hexes.{digit}
use Rattle.hexes.specs.Hexes as hexes
use Rattle.dumps.specs.declared.Style.{Style}
use Rattle.dumps.specs.State.{State}
use Rattle.dumps.specs.Class as class
use Rattle.dumps.specs.Mode as mode
use Rattle.dumps.specs.States as states
use Rattle.dumps.specs.States.{class_of, shown_of, moved}
use Rattle.dumps.specs.StatesLaws.{octet-second}
use Rattle.dumps.specs.Shows as shows
use Rattle.dumps.specs.Shows.{Blank, Blanks, Shown, Faint, Pair, pair, Gap, Octets}
use Rattle.dumps.specs.Moves as moves
use Rattle.dumps.specs.Moves.{digit-small, shown-says, whole}
use Rattle.dumps.specs.Places.{Fronted}
use Rattle.dumps.specs.Reads as reads
use Rattle.dumps.specs.Reads.{Good, back_on, back-octet, digit-is, class-digit-is, class-blank, shown-is}

-- ---- a line so far

-- after the octets `now` before the line, its octets cs, by the fields of the state
pub record Row (stood : Bool) (why upto line : ℕ) (starred ended columned : Bool) (n : ℕ) (out now cs : List ℕ) : Type 0 where
  pub good : why ≡ 0
  pub filled : upto ≤ n
  pub size : n ≤ length out
  pub octets : take n out ≡ now ++ cs
  pub here : line ≡ length now
  pub none : starred ≡ false
  pub going : ended ≡ false
  pub column : columned ≡ stood

abbrev pub RowOf : Bool → State → ℕ → List ℕ → List ℕ → List ℕ → Type 0
RowOf stood s n out now cs = Row stood s.why s.upto s.line s.star s.ended s.column n out now cs

-- the first octet that the column has to show, and the last
pub record Sides (f : Style) (beside solid : ℕ) (now cs : List ℕ) : Type 0 where
  pub first : ℕ
  pub beside_is : beside ≡ length now + first
  pub few : first ≤ length cs
  pub faint : Faint f (take first cs)
  pub plain : first < length cs → Shown f (get_or cs first 0) 32 → ⊥
  pub last : ℕ
  pub solid_is : solid ≡ length now + last
  pub fewer : last ≤ length cs
  pub clear : 1 ≤ last → Shown f (get_or cs (last - 1) 0) 32 → ⊥

module _ {stood : Bool} {y u l : ℕ} {sd ed cd : Bool} {n : ℕ} {out now cs : List ℕ} (a : Row stood y u l sd ed cd n out now cs) where
  pub row_count : n ≡ length now + length cs
  row_count = sym (length-take-le n out a.size) ∙ ap length a.octets ∙ length-append now cs

  pub row_at : (k : ℕ) → k < length cs → get_or out (length now + k) 0 ≡ get_or cs k 0
  row_at k h =
      let c = row_count in
      let e : length now + k < n = omega arith in
      sym (get_or-take n out (length now + k) 0 e)
      ∙ ap (λ (o : List ℕ). get_or o (length now + k) 0) a.octets
      ∙ get_or-append-add now cs k 0

  pub row_more : (o : ℕ) → n < length out → Row stood y u l sd ed cd (n + 1) (set out n o) now (cs ++ (o ∷ []))
  row_more o h = record {
    good = a.good;
    filled = omega (arith, a.filled);
    size = simp length-set (omega arith);
    octets = ap (λ (i : ℕ). take i (set out n o)) (add-one n)
        ∙ take-suc-set out n o h
        ∙ ap (λ (p : List ℕ). p ++ (o ∷ [])) a.octets
        ∙ append_assoc now cs (o ∷ []);
    here = a.here;
    none = a.none;
    going = a.going;
    column = a.column;
  }

-- the line ends
pub row-front : {stood col stands : Bool} (s : State) {n : ℕ} {out now cs : List ℕ} → RowOf stood s n out now cs → col ≡ stands
    → Fronted stands s.why s.upto n s.line s.star s.ended col n out (now ++ cs) cs false
row-front s {n} {out} {now} {cs} a e = record {
  good = a.good;
  filled = a.filled;
  size = a.size;
  octets = a.octets;
  here = refl;
  above = ap (λ (k : ℕ). drop k (now ++ cs)) a.here ∙ drop-append_seam now cs;
  pending = a.none;
  going = a.going;
  column = e;
}

module _ {f : Style} {e z : ℕ} {now cs : List ℕ} (a : Sides f e z now cs) (o n : ℕ) (c : n ≡ length now + length cs) where
  longer : length (cs ++ (o ∷ [])) ≡ length cs + 1
  longer = length-append cs (o ∷ [])

  kept : (k : ℕ) → k < length cs → get_or (cs ++ (o ∷ [])) k 0 ≡ get_or cs k 0
  kept k h = get_or-append cs (o ∷ []) 0 k h

  clear-still : 1 ≤ a.last → Shown f (get_or (cs ++ (o ∷ [])) (a.last - 1) 0) 32 → ⊥
  clear-still h s = a.clear h (subst (λ (b : ℕ). Shown f b 32) (kept (a.last - 1) (omega (arith, a.fewer))) s)

  plain_still : a.first < length cs → Shown f (get_or (cs ++ (o ∷ [])) a.first 0) 32 → ⊥
  plain_still h s = a.plain h (subst (λ (b : ℕ). Shown f b 32) (kept a.first h) s)

  faint-still : Faint f (take a.first (cs ++ (o ∷ [])))
  faint-still = subst (Faint f) (sym (take-append-le a.first cs (o ∷ []) a.few)) a.faint

  pub sides-solid : (Shown f o 32 → ⊥) → Sides f e (n + 1) now (cs ++ (o ∷ []))
  sides-solid h = record {
    first = a.first;
    beside_is = a.beside_is;
    few = omega (arith, longer, a.few);
    faint = faint-still;
    plain = λ k s. at_first (eqb a.first (length cs)) refl k s;
    last = length cs + 1;
    solid_is = omega (arith, c);
    fewer = omega (arith, longer);
    clear = λ k s. h (subst (λ (b : ℕ). Shown f b 32) (ap (λ (i : ℕ). get_or (cs ++ (o ∷ [])) i 0) (omega arith) ∙ get_or-append_seam cs o [] 0) s);
  }
    where
      at_first : (g : Bool) → eqb a.first (length cs) ≡ g → a.first < length (cs ++ (o ∷ []))
          → Shown f (get_or (cs ++ (o ∷ [])) a.first 0) 32 → ⊥
      at_first true p k s =
          h
          (subst (λ (b : ℕ). Shown f b 32)
          (ap (λ (i : ℕ). get_or (cs ++ (o ∷ [])) i 0) (eqb-true a.first (length cs) p) ∙ get_or-append_seam cs o [] 0) s)
      at_first false p k s =
          let q = eqb-false a.first (length cs) p in
          plain_still (omega (arith, a.few)) s

  pub sides-front : e ≡ n → Shown f o 32 → Sides f (n + 1) z now (cs ++ (o ∷ []))
  sides-front q s =
      let k : a.first ≡ length cs = omega (arith, a.beside_is, c) in
      let w : take a.first cs ≡ cs = ap (λ (i : ℕ). take i cs) k ∙ take-length cs in
      record {
        first = length (cs ++ (o ∷ []));
        beside_is = omega (arith, longer, c);
        few = omega arith;
        faint = subst (Faint f) (sym (take-length (cs ++ (o ∷ []))))
            (all_append (λ b. Shown f b 32) cs (o ∷ []) (subst (Faint f) w a.faint) (s, tt));
        plain = λ h _. absurd (omega arith);
        last = a.last;
        solid_is = a.solid_is;
        fewer = omega (arith, longer, a.fewer);
        clear = clear-still;
      }

  pub sides-faint : (e ≡ n → ⊥) → Sides f e z now (cs ++ (o ∷ []))
  sides-faint q =
      let k : a.first ≡ length cs → ⊥ = λ r. q (a.beside_is ∙ ap (λ (i : ℕ). length now + i) r ∙ sym c) in
      record {
        first = a.first;
        beside_is = a.beside_is;
        few = omega (arith, longer, a.few);
        faint = faint-still;
        plain = λ h s. plain_still (omega (arith, k, a.few)) s;
        last = a.last;
        solid_is = a.solid_is;
        fewer = omega (arith, longer, a.fewer);
        clear = clear-still;
      }

-- ---- its octets

module _ (f : Style) (m : ℕ) (bs now : List ℕ) (stood : Bool) where
  -- what holds after an octet, and what is read from there on
  abbrev pub Then : Bool → List ℕ → List ℕ → ℕ → Type 0
  Then g cs rest room = (t : State) (n : ℕ) (out : List ℕ) → t.mode ≡ mode.low → t.second ≡ g → RowOf stood t n out now cs
      → Sides f t.beside t.solid now cs → length out ≡ room → Good f t n out rest m bs

  -- the second digit of an octet
  high-reads : (s : State) (n : ℕ) (out cs rest : List ℕ) (b y : ℕ) → s.mode ≡ mode.high → RowOf stood s n out now cs → Sides f s.beside s.solid now cs
      → digit y ≡ true → whole y s ≡ b → n < length out → Then s.second (cs ++ (b ∷ [])) rest (length out) → Good f s n out (y ∷ rest) m bs
  high-reads s n out cs rest b y v a c d e h k = go (eqb (shown_of f.prefix b) 32) refl (eqb s.beside n) refl
    where
      at : states.low f y n s ≡ moved f y n (get_or out s.beside 0) s
      at = moves.at_high f y n (get_or out s.beside 0) s v

      count : n ≡ length now + length cs
      count = row_count a

      completes : (t : State) → t ≡ moved f y n (get_or out s.beside 0) s → t.why ≡ 0 → t.upto ≤ n → t.mode ≡ mode.low → t.octet ≡ whole y s
          → t.second ≡ s.second → RowOf stood t (n + 1) (set out n b) now (cs ++ (b ∷ [])) → Sides f t.beside t.solid now (cs ++ (b ∷ []))
          → Good f s n out (y ∷ rest) m bs
      completes t q g u w o z row sides =
          back-octet f s y n out rest m bs t q g u w h
          (subst (λ (o : ℕ). Good f t (n + 1) (set out n o) rest m bs) (sym (o ∙ e)) (k t (n + 1) (set out n b) w z row sides (length-set out n b)))

      go : (g : Bool) → eqb (shown_of f.prefix b) 32 ≡ g → (i : Bool) → eqb s.beside n ≡ i → Good f s n out (y ∷ rest) m bs
      go false p i q =
          let z = eqb-false (shown_of f.prefix b) 32 p in
          completes (states.complete (whole y s) (states.showing n s))
          (reads.low-solid f y n 0 s d (λ w. z (ap (shown_of f.prefix) (sym e) ∙ w)) ∙ at) a.good a.filled refl refl refl (row_more a b h)
          (sides-solid c b n count (λ w. z (sym (shown-is w))))
      go true p true q =
          let z = eqb-true (shown_of f.prefix b) 32 p in
          let w = eqb-true s.beside n q in
          completes (states.complete (whole y s) (states.column (n + 1) s))
          (reads.low-front f y n 0 s d (ap (shown_of f.prefix) e ∙ z) w ∙ at) a.good a.filled refl refl refl (row_more a b h)
          (sides-front c b n count w (shown-says f b 32 (sym z)))
      go true p false q =
          let z = eqb-true (shown_of f.prefix b) 32 p in
          let w = eqb-false s.beside n q in
          completes (states.complete (whole y s) s)
          (reads.low-faint f y n 0 s d (ap (shown_of f.prefix) e ∙ z) w ∙ at) a.good a.filled refl refl refl (row_more a b h)
          (sides-faint c b n count w)

  -- both digits
  pair_reads : (s : State) (n : ℕ) (out cs rest : List ℕ) (x y b : ℕ) (g : Bool) → Pair x y b → RowOf stood s n out now cs
      → Sides f s.beside s.solid now cs → (digit x ≡ true → states.high g x s ≡ moved f x n (get_or out s.beside 0) s) → n < length out
      → Then g (cs ++ (b ∷ [])) rest (length out) → Good f s n out (x ∷ y ∷ rest) m bs
  pair_reads s n out cs rest x y b g (pair {v} {w} d e q) a c at h k =
      let p = digit-is d in
      let o = digit-is e in
      let z = digit-small x p.0 in
      let r : hexes.value x % 16 * 16 + hexes.value y ≡ b = omega (arith, p.1, o.1) in
      back_on f s x n out (y ∷ rest) m bs (states.high g x s) (at p.0) a.good a.filled (λ z. absurd (omega arith))
      (high-reads (states.high g x s) n out cs rest b y refl a c o.0 r h k)

  -- blanks after two
  more-blanks : (s : State) (n : ℕ) (out q rest : List ℕ) → s.mode ≡ mode.more → s.why ≡ 0 → s.upto ≤ n → Blanks q → Good f s n out rest m bs
      → Good f s n out (q ++ rest) m bs
  more-blanks s n out [] rest v g u b r = r
  more-blanks s n out (x ∷ q) rest v g u b r =
      back_on f s x n out (q ++ rest) m bs s (moves.at_more f x n (get_or out s.beside 0) s class.Blank (class-blank b.0) v) g u
      (λ z. absurd (omega arith)) (more-blanks s n out q rest v g u b.1 r)

  module _ (s : State) (n : ℕ) (out : List ℕ) (v : s.mode ≡ mode.low) (g : s.why ≡ 0) (u : s.upto ≤ n) where
    pub one-blank : (x : ℕ) (rest : List ℕ) → Blank x → Good f (states.to mode.one s) n out rest m bs → Good f s n out (x ∷ rest) m bs
    one-blank x rest b r =
        back_on f s x n out rest m bs (states.to mode.one s) (moves.at_low f x n (get_or out s.beside 0) s class.Blank (class-blank b) v) g u
        (λ z. absurd (omega arith)) r

    pub two-blanks : (x y : ℕ) (q rest : List ℕ) → Blank x → Blank y → Blanks q → Good f (states.to mode.more s) n out rest m bs
        → Good f s n out (x ∷ y ∷ (q ++ rest)) m bs
    two-blanks x y q rest b c d r =
        let t : State = states.to mode.one s in
        one-blank x (y ∷ (q ++ rest)) b
        (back_on f t y n out (q ++ rest) m bs (states.to mode.more s) (moves.at_one f y n (get_or out s.beside 0) t class.Blank (class-blank c) refl) g u
        (λ z. absurd (omega arith)) (more-blanks (states.to mode.more s) n out q rest refl g u d r))

  pub octets-read : {g : Bool} {u cs : List ℕ} → Octets f g u cs → (s : State) (n : ℕ) (out rest : List ℕ) → s.mode ≡ mode.after → RowOf stood s n out now []
      → Sides f s.beside s.solid now [] → length now + length cs ≤ length out → Then g cs rest (length out) → Good f s n out (u ++ rest) m bs
  octets-read (shows.first {x} {y} {b} p) s n out rest v a c h k =
      let w = row_count a in
      pair_reads s n out [] rest x y b false p a c
      (λ d. moves.at_after f x n (get_or out s.beside 0) s class.Digit (class-digit-is x d) v) (omega arith) k
  octets-read (shows.second {t} {cs} {x} {y} {b} o i p) s n out rest v a c h k =
      subst (λ (l : List ℕ). Good f s n out l m bs) (sym (append_assoc t (x ∷ y ∷ []) rest))
      (octets-read i s n out (x ∷ y ∷ rest) v a c (omega (arith, length-append cs (b ∷ [])))
      (λ t n' out' w z row sides e.
      let q = row_count row in
      pair_reads t n' out' cs rest x y b true p row sides
      (λ d.
      octet-second f x n' t (class-digit-is x d) o z
      ∙ moves.at_low f x n' (get_or out' t.beside 0) t (class_of x) refl w)
      (omega (arith, length-append cs (b ∷ []))) (λ t₁ n₁ out₁ w₁ z₁ r₁ s₁ e₁. k t₁ n₁ out₁ w₁ z₁ r₁ s₁ (e₁ ∙ e))))
  octets-read (shows.next {g} {t} {cs} {q} {x} {y} {b} i j p) s n out rest v a c h k =
      subst (λ (l : List ℕ). Good f s n out l m bs)
      (sym (append_assoc t (q ++ (x ∷ y ∷ [])) rest ∙ ap (λ (l : List ℕ). t ++ l) (append_assoc q (x ∷ y ∷ []) rest)))
      (octets-read i s n out (q ++ (x ∷ y ∷ rest)) v a c (omega (arith, length-append cs (b ∷ []))) (gap q j))
    where
      gap : (q : List ℕ) → Gap f q → Then g cs (q ++ (x ∷ y ∷ rest)) (length out)
      gap [] j t n' out' w z row sides e = let o = j.some in absurd (omega arith)
      gap (z₁ ∷ []) j t n' out' w z row sides e =
          let o = row_count row in
          let t₁ : State = states.to mode.one t in
          one-blank t n' out' w row.good row.filled z₁ (x ∷ y ∷ rest) j.blank.0
          (pair_reads t₁ n' out' cs rest x y b false p row sides
          (λ d. moves.at_one f x n' (get_or out' t.beside 0) t₁ class.Digit (class-digit-is x d) refl)
          (omega (arith, length-append cs (b ∷ []))) (λ t₂ n₂ out₂ w₂ z₂ r₂ s₂ e₂. k t₂ n₂ out₂ w₂ z₂ r₂ s₂ (e₂ ∙ e)))
      gap (z₁ ∷ z₂ ∷ q) j t n' out' w z row sides e =
          let o = row_count row in
          let t₁ : State = states.to mode.more t in
          two-blanks t n' out' w row.good row.filled z₁ z₂ q (x ∷ y ∷ rest) j.blank.0 j.blank.1.0 j.blank.1.1
          (pair_reads t₁ n' out' cs rest x y b false p row sides
          (λ d.
          reads.more-next f x n' (get_or out' t.beside 0) t₁ (λ r. let y = j.one r in absurd (omega arith))
          ∙ moves.at_more f x n' (get_or out' t.beside 0) t₁ class.Digit (class-digit-is x d) refl)
          (omega (arith, length-append cs (b ∷ []))) (λ t₂ n₂ out₂ w₂ z₂ r₂ s₂ e₂. k t₂ n₂ out₂ w₂ z₂ r₂ s₂ (e₂ ∙ e)))
