-- One character more at a line's front: blanks, a star or an offset. Assumes nothing.
use Rattle.std.specs.Prelude.{◌≡◌, refl, Bool, true, false, List, [], ◌∷◌, ◌++◌, ℕ, suc, ◌+◌, ◌-◌, ◌*◌, ◌%◌, ◌≤◌, ◌<◌, length, get_or, take, drop}
use Rattle.std.proofs.Common.{sym, ap, subst, ◌∙◌, append-nil, append_assoc, zero-add, add-zero, arith, length-append, length-drop, length-take-le}
use Rattle.std.proofs.Math.Seq.{append_snoc}
use Rattle.octets.specs.Lists.{All}
use Rattle.hexes.specs.Hexes.{digit}
use Rattle.hexes.specs.Hexes as hexes
use Rattle.inputs.specs.Why as why
use Rattle.dumps.specs.declared.Style.{Style}
use Rattle.dumps.specs.State.{State}
use Rattle.dumps.specs.Class.{Class}
use Rattle.dumps.specs.Class as class
use Rattle.dumps.specs.Mode as mode
use Rattle.dumps.specs.States as states
use Rattle.dumps.specs.States.{class_of}
use Rattle.dumps.specs.Dumps.{read_from, repeated_of}
use Rattle.dumps.specs.DumpsLaws.{repeated-length}
use Rattle.dumps.specs.Shows as shows
use Rattle.dumps.specs.Shows.{Blank, Blanks, Bare, Number, Prefix, Mark, Offset, pair, times, Before, Front, Lines}
use Rattle.dumps.specs.Moves as moves
use Rattle.dumps.specs.Moves.{by-class, digit-says, digit-small}
use Rattle.dumps.specs.Steps.{Result, step-fill, Fills}
use Rattle.dumps.specs.Repeats.{copies}
use Rattle.dumps.specs.Places as places
use Rattle.dumps.specs.Places.{FrontOf, LineOf, Aside}
use Rattle.dumps.specs.LineLaws.{blanks-more, snoc-two, snoc-three}
use Rattle.dumps.specs.Onward.{Next, then, bad, bad-form, line_on, moves-to, keep, broken-at}

module _ {f : Style} {size m : ℕ} {bs : List ℕ} {x : ℕ} {xs : List ℕ} {s : State} {n i : ℕ} {out pre os last : List ℕ} {stood star : Bool}
    (here : Next f stood size m bs x xs s n i out pre os last star) where
  -- ---- a line's front

  pub from_start : s.mode ≡ mode.start → FrontOf stood s n out os last star → Blanks pre → Lines f stood star os last (pre ++ (x ∷ xs)) bs
  from_start v a b =
      by-class x
      (λ c e.
      broken-at here e
      (shows.empty pre b
      (here.on stood s n (i + 1) out [] os last star (places.start v a tt) (λ _. refl)
      (moves-to here s (at class.Break c) a.good a.filled (λ z. absurd (omega arith))))))
      (λ c e d. keep here s (at class.Blank c) a.good a.filled (λ z. absurd (omega arith)) d (places.start v a (blanks-more pre x b e)))
      (λ c e d.
      moves.by_first f x n 0 s
      (λ w z q. bad here (states.but w s) (q ∙ at class.Digit c) z)
      (λ p z q.
      keep here (states.to mode.prefix s) (q ∙ at class.Digit c) a.good a.filled (λ z. absurd (omega arith)) d
      (places.prefix refl a p pre b (ap (λ (y : ℕ). pre ++ (y ∷ [])) z)))
      (λ p q.
      keep here (states.to mode.offset (states.reading 1 (hexes.value x) s)) (q ∙ at class.Digit c) a.good a.filled (λ z. absurd (omega arith)) d
      (places.offset refl a pre [] (x ∷ []) b (shows.plain p) (one-digit e) refl refl)))
      (λ c d z.
      moves.by-star f x n 0 s
      (λ q. bad-form here (q ∙ at class.Other c))
      (λ w _ p l q.
      keep here (states.to mode.star s) (q ∙ at class.Other c) a.good a.filled (λ z. absurd (omega arith)) d
      (places.stars refl a (sym a.pending ∙ p) (last_some l) pre [] b tt (ap (λ (y : ℕ). pre ++ (y ∷ [])) w))))
    where
      at : (k : Class) → class_of x ≡ k → states.start_by k f x s ≡ then f s x n out
      at k c = moves.at-start f x n (get_or out s.beside 0) s k c v

      one-digit : digit x ≡ true → Number (x ∷ []) (hexes.value x)
      one-digit e = subst (Number (x ∷ [])) (zero-add (hexes.value x)) (shows.further shows.none (digit-says x e))

      last_some : s.before < s.line → 1 ≤ length last
      last_some l =
          let c : length os ≡ n = sym (ap length a.octets) ∙ length-take-le n out a.size in
          let e : length last ≡ length os - s.before = sym (ap length a.above) ∙ length-drop s.before os in
          omega (arith, a.here)

  pub from-prefix : s.mode ≡ mode.prefix → FrontOf stood s n out os last star → f.prefix ≡ true → (p : List ℕ) → Blanks p → pre ≡ p ++ (48 ∷ [])
      → Lines f stood star os last (pre ++ (x ∷ xs)) bs
  from-prefix v a w p b e =
      moves.by-prefixed f x n 0 s
      (λ q. bad-form here (q ∙ at))
      (λ z q.
      keep here (states.to mode.offset (states.reading 0 0 s)) (q ∙ at) a.good a.filled (λ z. absurd (omega arith)) (λ y. absurd (omega arith))
      (places.offset refl a p (48 ∷ 120 ∷ []) [] b (shows.hex w) shows.none refl
      (snoc-two p (48 ∷ []) x e ∙ ap (λ (y : ℕ). p ++ (48 ∷ y ∷ [])) z)))
    where
      at : states.prefixed x s ≡ then f s x n out
      at = moves.at-prefix f x n (get_or out s.beside 0) s v

  pub from-stars : s.mode ≡ mode.star → FrontOf stood s n out os last star → star ≡ false → 1 ≤ length last → (p q : List ℕ) → Blanks p → Blanks q
      → pre ≡ p ++ (42 ∷ q) → Lines f stood star os last (pre ++ (x ∷ xs)) bs
  from-stars v a w l p q b d e =
      by-class x
      (λ c z.
      broken-at here z
      (subst (λ (l : List ℕ). Lines f stood star os last l bs) (sym (ap (λ (l : List ℕ). l ++ (10 ∷ xs)) e ∙ append_assoc p (42 ∷ q) (10 ∷ xs)))
      (subst (λ (t : Bool). Lines f stood t os last (p ++ (42 ∷ (q ++ (10 ∷ xs)))) bs) (sym w)
      (shows.star p q b d l
      (here.on stood (states.starred_by class.Break s) n (i + 1) out [] os last true (places.start refl starred tt) (λ _. refl)
      (moves-to here (states.starred_by class.Break s) (at class.Break c) a.good a.filled (λ z. absurd (omega arith))))))))
      (λ c z y.
      keep here s (at class.Blank c) a.good a.filled (λ z. absurd (omega arith)) y
      (places.stars v a w l p (q ++ (x ∷ [])) b (blanks-more q x d z) (snoc-two p (42 ∷ q) x e)))
      (λ c z y. bad-form here (at class.Digit c))
      (λ c z y. bad-form here (at class.Other c))
    where
      at : (k : Class) → class_of x ≡ k → states.starred_by k s ≡ then f s x n out
      at k c = moves.at-star f x n (get_or out s.beside 0) s k c v

      starred : FrontOf stood (states.starred_by class.Break s) n out os last true
      starred = record {
        good = a.good;
        filled = a.filled;
        size = a.size;
        octets = a.octets;
        here = a.here;
        above = a.above;
        pending = refl;
        going = a.going;
        column = a.column;
      }

  -- ---- an offset that is whole

  -- k octets stand before the line, at the front of o
  record Counted (u : State) (k : ℕ) (o : List ℕ) : Type 0 where
    pub good : u.why ≡ 0
    pub filled : u.upto ≤ k
    pub room : k ≤ length o
    pub line : u.line ≡ k
    pub beside : u.beside ≡ k
    pub solid : u.solid ≡ k
    pub none : u.star ≡ false
    pub going : u.ended ≡ false
    pub column : u.column ≡ stood
    pub after : u.mode ≡ mode.after
    pub before : Before star os last (take k o)
    pub value : s.value ≡ k
    pub digits : s.digits ≡ f.digits

  counting : (wrap : State → State) → ((u : State) → (wrap u).why ≡ u.why) → ((u : State) → (wrap u).upto ≡ u.upto)
      → ((u : State) → (wrap u).before ≡ u.before) → ((u : State) → u.mode ≡ mode.after → (wrap u).mode ≡ mode.low → ⊥)
      → wrap (states.counted f n s) ≡ then f s x n out → FrontOf stood s n out os last star
      → ((u : State) (k : ℕ) (o : List ℕ) → Counted u k o → Result (read_from f (wrap u) k size (i + 1) o xs) m bs
      → Lines f stood star os last (pre ++ (x ∷ xs)) bs)
      → Lines f stood star os last (pre ++ (x ∷ xs)) bs
  counting wrap w v b l e a go =
      moves.by-counted f x n 0 s
      (λ y z q. bad here (wrap (states.but y s)) (ap wrap q ∙ e) (λ h. z (sym (w (states.but y s)) ∙ h)))
      after-star
      (λ d p h q.
      let t = states.opened n s in
      go t n out
      (record {
        good = a.good;
        filled = a.filled;
        room = a.size;
        line = refl;
        beside = refl;
        solid = refl;
        none = p;
        going = a.going;
        column = a.column;
        after = refl;
        before = subst (λ (g : Bool). Before g os last (take n out)) (sym p ∙ a.pending)
            (subst (Before false os last) (sym a.octets) shows.plain);
        value = h;
        digits = d;
      })
      (moves-to here (wrap t) (ap wrap q ∙ e) (w t ∙ a.good) (subst (λ (j : ℕ). j ≤ n) (sym (v t)) a.filled) (l t refl)))
    where
      after-star : s.digits ≡ f.digits → s.star ≡ true → n < s.value
          → states.opened s.value (states.filled s.value s) ≡ states.counted f n s → Lines f stood star os last (pre ++ (x ∷ xs)) bs
      after-star d p h q =
          let t : State = states.opened s.value (states.filled s.value s) in
          let fills : Fills f s x n size i out xs m bs here.result (wrap t) (ap wrap q ∙ e) (w t ∙ a.good) =
          step-fill f s x n size i out xs m bs here.result (wrap t) (ap wrap q ∙ e) (w t ∙ a.good) (subst (λ (j : ℕ). n < j) (sym (v t)) h) (l t refl)
          in
          let facts : Facts t (wrap t).upto (wrap t).before = (fills.early, fills.whole, fills.room, fills.result) in
          let found : Facts t s.value s.before =
          subst (λ (k : ℕ). Facts t s.value k) (b t) (subst (λ (j : ℕ). Facts t j (wrap t).before) (v t) facts)
          in
          let o : List ℕ = repeated_of (s.value - n) s.before n out in
          let lines = copies s.before n s.value out found.0 h found.2 found.1 in
          let now : take s.value o ≡ os ++ times (suc lines.number) last =
          lines.is
          ∙ ap (λ (l : List ℕ). l ++ times (suc lines.number) (drop s.before l)) a.octets
          ∙ ap (λ (l : List ℕ). os ++ times (suc lines.number) l) a.above
          in
          go t s.value o
          (record {
            good = a.good;
            filled = omega arith;
            room = subst (λ (j : ℕ). s.value ≤ j) (sym (repeated-length (s.value - n) s.before n out)) found.2;
            line = refl;
            beside = refl;
            solid = refl;
            none = refl;
            going = a.going;
            column = a.column;
            after = refl;
            before = subst (λ (g : Bool). Before g os last (take s.value o)) (sym p ∙ a.pending)
                (subst (Before true os last) (sym now) (shows.stars lines.number));
            value = refl;
            digits = d;
          })
          found.3
        where
          Facts : State → ℕ → ℕ → Type 0
          Facts t j k =
              (k < n) × ((j - n) % (n - k) ≡ 0) × (j ≤ length out) × Result (read_from f (wrap t) j size (i + 1) (repeated_of (j - n) k n out) xs) m bs

  lined-counted : {u : State} {k : ℕ} {o : List ℕ} → Counted u k o → LineOf f stood u k o (take k o) []
  lined-counted {u} {k} {o} c =
      let e : length (take k o) ≡ k = length-take-le k o c.room in
      record {
        good = c.good;
        filled = c.filled;
        size = c.room;
        octets = sym (append-nil (take k o));
        here = c.line ∙ sym e;
        none = c.none;
        going = c.going;
        column = c.column;
        shown = 0;
        to = c.solid ∙ sym e ∙ sym (add-zero (length (take k o)));
        few = omega arith;
        faint = tt;
      }

  aside-counted : {u : State} {k : ℕ} {o : List ℕ} → Counted u k o → Aside f u.beside (take k o) []
  aside-counted {u} {k} {o} c =
      let e : length (take k o) ≡ k = length-take-le k o c.room in
      record { index = 0; is = c.beside ∙ sym e ∙ sym (add-zero (length (take k o))); few = omega arith; faint = tt }

  module _ (v : s.mode ≡ mode.offset) (a : FrontOf stood s n out os last star) (p u ds : List ℕ) (b : Blanks p) (q : Prefix f u) (d : Number ds s.value)
      (z : length ds ≡ s.digits) (e : pre ≡ p ++ (u ++ ds)) where
    at_offset : (k : Class) → class_of x ≡ k → states.offset_by k f x n s ≡ then f s x n out
    at_offset k c = moves.at_offset f x n (get_or out s.beside 0) s k c v

    counts : {t : State} {k : ℕ} {o : List ℕ} → Counted t k o → Offset f (length (take k o)) (u ++ ds)
    counts {t} {k} {o} c = record {
      front = u;
      digits = ds;
      is = refl;
      prefix = q;
      number = subst (Number ds) (c.value ∙ sym (length-take-le k o c.room)) d;
      size = z ∙ c.digits;
    }

    abbrev front : {t : State} {k : ℕ} {o : List ℕ} → Counted t k o → (w y : List ℕ) → Mark f w → Blanks y → w ++ y ≡ x ∷ []
        → Front f star os last (take k o) (pre ++ (x ∷ []))
    front c w y g h j = record {
      first = p;
      offset = u ++ ds;
      mark = w;
      then = y;
      is = snoc-two p (u ++ ds) x e ∙ ap (λ (l : List ℕ). p ++ (u ++ ds ++ l)) (sym j);
      blanks = b;
      before = c.before;
      counts = counts c;
      marked = g;
      apart = h;
    }

    alone_at : x ≡ 10 → f.ends ≡ true → {t : State} {k : ℕ} {o : List ℕ} → Counted t k o → (l : List ℕ) → All Bare l
        → Lines f stood star os last (pre ++ (x ∷ []) ++ l) (take k o)
    alone_at y j {t} {k} {o} c l g =
        subst (λ (t : List ℕ). Lines f stood star os last t (take k o))
        (ap (λ (h : List ℕ). h ++ (10 ∷ l)) (sym e) ∙ ap (λ (w : ℕ). pre ++ (w ∷ l)) (sym y) ∙ sym (append_snoc pre x l))
        (shows.alone l j (shows.short p b c.before (counts c)) g)

    pub from-offset : Lines f stood star os last (pre ++ (x ∷ xs)) bs
    from-offset =
        by-class x
        (λ c y.
        moves.by-alone f x n 0 (states.counted f n s)
        (λ j. bad here (states.but why.form (states.counted f n s)) (j ∙ at_offset class.Break c) (λ z. absurd (omega arith)))
        (λ h j.
        counting states.finished (λ t. refl) (λ t. refl) (λ t. refl) (λ t _ z. absurd (omega arith)) (j ∙ at_offset class.Break c) a
        (λ t k o g w. line_on here (states.finished t) k o (places.ended refl g.good g.filled refl g.none (alone_at y h g)) (λ _. tt) w)))
        (λ c y h.
        moves.by-blank f x n 0 s
        (λ j. bad-form here (j ∙ at_offset class.Blank c))
        (λ w j.
        counting (λ t. t) (λ t. refl) (λ t. refl) (λ t. refl) (λ t o z. absurd (omega arith)) (j ∙ at_offset class.Blank c) a
        (λ t k o g l.
        line_on here t k o
        (places.after g.after (take k o) (lined-counted g) (aside-counted g) (front g [] (x ∷ []) (shows.plain w) (y, tt) refl) (omega arith))
        (λ z. absurd (h (here.end z))) l)))
        (λ c y h.
        moves.by-further f x n 0 s
        (λ w j l. bad here (states.but w s) (l ∙ at_offset class.Digit c) j)
        (λ j.
        keep here (states.reading (s.digits + 1) (16 * s.value + hexes.value x) s) (j ∙ at_offset class.Digit c) a.good a.filled
        (λ z. absurd (omega arith)) h
        (places.offset v a p u (ds ++ (x ∷ [])) b q (shows.further d (digit-says x y))
        (length-append ds (x ∷ []) ∙ ap (λ (k : ℕ). k + 1) z) (snoc-three p u ds x e))))
        (λ c h _.
        moves.by-colon f x n 0 s
        (λ j. bad-form here (j ∙ at_offset class.Other c))
        (λ w y j.
        counting (states.to mode.gap) (λ t. refl) (λ t. refl) (λ t. refl) (λ t _ z. absurd (omega arith)) (j ∙ at_offset class.Other c) a
        (λ t k o g l.
        line_on here (states.to mode.gap t) k o
        (places.gap refl (take k o) (lined-counted g) (aside-counted g) (front g (58 ∷ []) [] (shows.colon w) tt (ap (λ (z : ℕ). z ∷ []) (sym y))))
        (λ z. absurd (h (here.end z))) l)))

  -- ---- after it

  module _ (now : List ℕ) (a : LineOf f stood s n out now []) (c : Aside f s.beside now []) (w : Front f star os last now pre) where
    abbrev front_more : Blank x → Front f star os last now (pre ++ (x ∷ []))
    front_more b = record {
      first = w.first;
      offset = w.offset;
      mark = w.mark;
      then = w.then ++ (x ∷ []);
      is = snoc-three w.first w.offset (w.mark ++ w.then) x w.is
          ∙ ap (λ (l : List ℕ). w.first ++ (w.offset ++ l)) (append_assoc w.mark w.then (x ∷ []));
      blanks = w.blanks;
      before = w.before;
      counts = w.counts;
      marked = w.marked;
      apart = blanks-more w.then x w.apart b;
    }

    alone-here : x ≡ 10 → states.alone f s ≡ then f s x n out → Lines f stood star os last (pre ++ (x ∷ xs)) bs
    alone-here y e =
        moves.by-alone f x n 0 s
        (λ j. bad-form here (j ∙ e))
        (λ h j.
        line_on here (states.finished s) n out
        (places.ended refl a.good a.filled refl a.none
        (λ l b.
        subst (Lines f stood star os last (pre ++ (x ∷ []) ++ l)) (sym (a.octets ∙ append-nil now))
        (subst (λ (t : List ℕ). Lines f stood star os last t now) (ap (λ (w : ℕ). pre ++ (w ∷ l)) (sym y) ∙ sym (append_snoc pre x l))
        (shows.alone l h (shows.whole w) b))))
        (λ _. tt)
        (moves-to here (states.finished s) (j ∙ e) a.good a.filled (λ z. absurd (omega arith))))

    pub from-gap : s.mode ≡ mode.gap → Lines f stood star os last (pre ++ (x ∷ xs)) bs
    from-gap v =
        by-class x
        (λ k y. alone-here y (at class.Break k))
        (λ k y h.
        keep here (states.to mode.after s) (at class.Blank k) a.good a.filled (λ z. absurd (omega arith)) h
        (places.after refl now a c (front_more y) (omega (arith, length-append w.then (x ∷ [])))))
        (λ k _ _. bad-form here (at class.Digit k))
        (λ k _ _. bad-form here (at class.Other k))
      where
        at : (k : Class) → class_of x ≡ k → states.gap_by k f s ≡ then f s x n out
        at k c = moves.at_gap f x n (get_or out s.beside 0) s k c v

    pub from-after : s.mode ≡ mode.after → 1 ≤ length w.then → Lines f stood star os last (pre ++ (x ∷ xs)) bs
    from-after v j =
        by-class x
        (λ k y. alone-here y (at class.Break k))
        (λ k y h.
        keep here s (at class.Blank k) a.good a.filled (λ z. absurd (omega arith)) h
        (places.after v now a c (front_more y) (omega (arith, length-append w.then (x ∷ [])))))
        (λ k y h.
        keep here (states.high false x s) (at class.Digit k) a.good a.filled (λ z. absurd (omega arith)) h
        (places.high refl now [] pre (x ∷ []) a c w j
        (λ g q d. let l = digit-small x y in shows.first (pair (digit-says x y) d (omega arith))) refl))
        (λ k _ _. bad-form here (at class.Other k))
      where
        at : (k : Class) → class_of x ≡ k → states.after_by k f x s ≡ then f s x n out
        at k c = moves.at_after f x n (get_or out s.beside 0) s k c v
