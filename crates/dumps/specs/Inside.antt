-- One character more in a line that has octets: the octets, and the text column beside them. Assumes nothing.
use Rattle.std.specs.Prelude.{◌≡◌, refl, Bool, true, false, List, [], ◌∷◌, ◌++◌, ℕ, ◌+◌}
use Rattle.std.specs.Prelude.{◌-◌, ◌*◌, ◌%◌, ◌≤◌, ◌<◌, length, get_or, set, take, drop, None}
use Rattle.std.proofs.Common.{sym, ap, subst, ◌∙◌, append-nil, append_assoc, add-zero, add-one, arith, length-append, take-append-drop, drop-cons, drop-drop}
use Rattle.std.proofs.Math.Seq.{append_snoc, drop-append_seam, drop-length}
use Rattle.octets.specs.ListsLaws.{all_drop}
use Rattle.hexes.specs.Hexes.{digit}
use Rattle.hexes.specs.Hexes as hexes
use Rattle.hexes.specs.Spelled as spelled
use Rattle.dumps.specs.declared.Style.{Style}
use Rattle.dumps.specs.State.{State}
use Rattle.dumps.specs.Class.{Class}
use Rattle.dumps.specs.Class as class
use Rattle.dumps.specs.Mode as mode
use Rattle.dumps.specs.States as states
use Rattle.dumps.specs.States.{class_of, shown_of}
use Rattle.dumps.specs.Dumps.{read_from}
use Rattle.dumps.specs.Shows as shows
use Rattle.dumps.specs.Shows.{Blank, Blanks, Shown, Faint, pair, Gap, Octets, Text, Column, Without, End, Front, Lines}
use Rattle.dumps.specs.Moves as moves
use Rattle.dumps.specs.Moves.{by-class, digit-says, digit-small, digit-no-break, digit-no-space, shown-says, whole}
use Rattle.dumps.specs.Steps.{Result, step-octet}
use Rattle.dumps.specs.Places as places
use Rattle.dumps.specs.Places.{Fronted, FrontOf, LineOf, Aside, Begun, Place}
use Rattle.dumps.specs.LineLaws.{blanks-more, snoc-two, snoc-three, lined-count, lined-at, lined-bare, lined-solid, lined-faint, aside-more, aside-front}
use Rattle.dumps.specs.Onward.{Next, then, bad-form, bad-column, line_on, moves-to, keep, broken-at}

module _ {f : Style} {size m : ℕ} {bs : List ℕ} {x : ℕ} {xs : List ℕ} {s : State} {n i : ℕ} {out pre os last : List ℕ} {stood star : Bool}
    (here : Next f stood size m bs x xs s n i out pre os last star) where
  -- ---- an octet

  module _ (now cs h u : List ℕ) (a : LineOf f stood s n out now cs) (c : Aside f s.beside now cs) (w : Front f star os last now h)
      (j : 1 ≤ length w.then) (l : (y v : ℕ) → spelled.Digit y v → Octets f s.second (u ++ (y ∷ [])) (cs ++ ((s.octet % 16 * 16 + v) ∷ [])))
      (e : pre ≡ h ++ u) where
    -- t has the octet, and says as s does of all but the column
    completes : (t : State) → t ≡ then f s x n out → t.why ≡ 0 → t.upto ≤ n → t.mode ≡ mode.low → t.octet ≡ whole x s → t.second ≡ s.second
        → digit x ≡ true
        → (n < length out → LineOf f stood t (n + 1) (set out n (whole x s)) now (cs ++ (whole x s ∷ [])))
        → Aside f t.beside now (cs ++ (whole x s ∷ []))
        → Lines f stood star os last (pre ++ (x ∷ xs)) bs
    completes t q g p v o z d lined aside =
        let k = step-octet f s x n size i out xs m bs here.result t q g p v in
        let b : Begun f stood t (n + 1) (set out n (whole x s)) os last star = record {
          now = now;
          cs = cs ++ (whole x s ∷ []);
          h = h;
          u = u ++ (x ∷ []);
          g = s.second;
          lined = lined k.0;
          front = w;
          some = j;
          octs = l x (hexes.value x) (digit-says x d);
        } in
        line_on here t (n + 1) (set out n (whole x s)) (places.low v b (sym z) aside (snoc-two h u x e))
        (λ y. let r = here.end y in absurd (digit-no-break x d r))
        (subst (λ (b : ℕ). Result (read_from f t (n + 1) size (i + 1) (set out n b) xs) m bs) o k.1)

    pub from-high : s.mode ≡ mode.high → Lines f stood star os last (pre ++ (x ∷ xs)) bs
    from-high v =
        moves.by-low f x n 0 s
        (λ q. bad-form here (q ∙ at))
        (λ d q.
        completes (states.complete (whole x s) (states.showing n s)) (q ∙ at) a.good a.filled refl refl refl d
        (λ k. lined-solid a (whole x s) k) (aside-more c (whole x s)))
        (λ d k y q.
        let z = shown-says f (whole x s) 32 (sym k) in
        completes (states.complete (whole x s) (states.column (n + 1) s)) (q ∙ at) a.good a.filled refl refl refl d
        (λ k. lined-faint a (whole x s) k z) (aside-front c (whole x s) n (lined-count a) y z))
        (λ d k q.
        completes (states.complete (whole x s) s) (q ∙ at) a.good a.filled refl refl refl d
        (λ o. lined-faint a (whole x s) o (shown-says f (whole x s) 32 (sym k))) (aside-more c (whole x s)))
      where
        at : states.low f x n s ≡ then f s x n out
        at = moves.at_high f x n (get_or out s.beside 0) s v

  -- ---- what follows the octets

  module _ (b : Begun f stood s n out os last star) where
    abbrev again : (t : State) → LineOf f stood t n out b.now b.cs → Begun f stood t n out os last star
    again t l = record { now = b.now; cs = b.cs; h = b.h; u = b.u; g = b.g; lined = l; front = b.front; some = b.some; octs = b.octs }

    -- the line's front after it
    front-after : {col stands : Bool} → col ≡ stands
        → Fronted stands s.why s.upto n s.line s.star s.ended col n out (b.now ++ b.cs) b.cs false
    front-after e =
        let a : LineOf f stood s n out b.now b.cs = b.lined in
        record {
          good = a.good;
          filled = a.filled;
          size = a.size;
          octets = a.octets;
          here = refl;
          above = ap (λ (k : ℕ). drop k (b.now ++ b.cs)) a.here ∙ drop-append_seam b.now b.cs;
          pending = a.none;
          going = a.going;
          column = e;
        }

    -- the line ends
    ends : (stands : Bool) (e : List ℕ) → End f b.cs stood stands e → pre ≡ b.h ++ (b.u ++ e) → x ≡ 10 → (t : State) → t.mode ≡ mode.start
        → FrontOf stands t n out (b.now ++ b.cs) b.cs false → t ≡ then f s x n out → Lines f stood star os last (pre ++ (x ∷ xs)) bs
    ends stands e q p y t v start z =
        broken-at here y
        (subst (λ (l : List ℕ). Lines f stood star os last l bs)
        (sym
        (ap (λ (l : List ℕ). l ++ (10 ∷ xs)) p
        ∙ append_assoc b.h (b.u ++ e) (10 ∷ xs)
        ∙ ap (λ (l : List ℕ). b.h ++ l) (append_assoc b.u e (10 ∷ xs))))
        (shows.line b.front b.some b.octs q
        (here.on stands t n (i + 1) out [] (b.now ++ b.cs) b.cs false (places.start v start tt) (λ _. refl)
        (moves-to here t z start.good start.filled (λ z. absurd (omega arith))))))

    -- with a text column
    ends-beside : (e : List ℕ) → End f b.cs stood true e → pre ≡ b.h ++ (b.u ++ e) → x ≡ 10 → states.columned n s ≡ then f s x n out
        → Lines f stood star os last (pre ++ (x ∷ xs)) bs
    ends-beside e q p y z = ends true e q p y (states.columned n s) refl (front-after refl) z

    -- without one
    ends-bare : (e : List ℕ) → Blanks e → pre ≡ b.h ++ (b.u ++ e) → x ≡ 10 → states.cut f n s ≡ then f s x n out
        → Lines f stood star os last (pre ++ (x ∷ xs)) bs
    ends-bare e g p y z =
        moves.by-cut f x n 0 s
        (λ q. bad-column here (q ∙ z))
        (λ h q. over (shows.faint (lined-bare b.lined h)) (q ∙ z))
        (λ k h q. over (subst (Without f b.cs) (sym h ∙ b.lined.column) (shows.none k)) (q ∙ z))
      where
        over : Without f b.cs stood → states.closed n s ≡ then f s x n out → Lines f stood star os last (pre ++ (x ∷ xs)) bs
        over w q = ends stood e (shows.bare g w) p y (states.closed n s) refl (front-after b.lined.column) q

    -- the first digit of an octet after blanks
    spaced : Aside f s.beside b.now b.cs → (q : List ℕ) → Gap f q → pre ≡ b.h ++ (b.u ++ q) → digit x ≡ true → (x ≡ 10 → ⊥)
        → states.high false x s ≡ then f s x n out → Lines f stood star os last (pre ++ (x ∷ xs)) bs
    spaced c q g p d z e =
        keep here (states.high false x s) e b.lined.good b.lined.filled (λ z. absurd (omega arith)) z
        (places.high refl b.now b.cs b.h (b.u ++ (q ++ (x ∷ []))) b.lined c b.front b.some
        (λ y v k.
        let l = digit-small x d in
        subst (λ (t : List ℕ). Octets f false t (b.cs ++ ((hexes.value x % 16 * 16 + v) ∷ [])))
        (sym (append_assoc b.u (q ++ (x ∷ [])) (y ∷ []) ∙ ap (λ (t : List ℕ). b.u ++ t) (append_snoc q x (y ∷ []))))
        (shows.next b.octs g (pair (digit-says x d) k (omega arith))))
        (snoc-three b.h b.u q x p))

    pub from_low : s.mode ≡ mode.low → b.g ≡ s.second → Aside f s.beside b.now b.cs → pre ≡ b.h ++ b.u
        → Lines f stood star os last (pre ++ (x ∷ xs)) bs
    from_low v g c p =
        by-class x
        (λ k y. ends-bare [] tt (p ∙ ap (λ (l : List ℕ). b.h ++ l) (sym (append-nil b.u))) y (at class.Break k))
        (λ k y z.
        keep here (states.to mode.one s) (at class.Blank k) b.lined.good b.lined.filled (λ z. absurd (omega arith)) z
        (places.one refl (again (states.to mode.one s) b.lined) c x y (snoc-two b.h b.u x p)))
        (λ k d z.
        moves.by-octet f x n 0 s
        (λ q. bad-form here (q ∙ at class.Digit k))
        (λ o w q.
        keep here (states.high true x s) (q ∙ at class.Digit k) b.lined.good b.lined.filled (λ z. absurd (omega arith)) z
        (places.high refl b.now b.cs b.h (b.u ++ (x ∷ [])) b.lined c b.front b.some
        (λ y v e.
        let l = digit-small x d in
        subst (λ (t : List ℕ). Octets f true t (b.cs ++ ((hexes.value x % 16 * 16 + v) ∷ []))) (sym (append_snoc b.u x (y ∷ [])))
        (shows.second o (subst (λ (h : Bool). Octets f h b.u b.cs) (g ∙ w) b.octs) (pair (digit-says x d) e (omega arith))))
        (snoc-two b.h b.u x p))))
        (λ k _ _. bad-form here (at class.Other k))
      where
        at : (k : Class) → class_of x ≡ k → states.octet_by k f x n s ≡ then f s x n out
        at k c = moves.at_low f x n (get_or out s.beside 0) s k c v

    pub from_one : s.mode ≡ mode.one → Aside f s.beside b.now b.cs → (z : ℕ) → Blank z → pre ≡ b.h ++ (b.u ++ (z ∷ []))
        → Lines f stood star os last (pre ++ (x ∷ xs)) bs
    from_one v c z g p =
        by-class x
        (λ k y. ends-bare (z ∷ []) (g, tt) p y (at class.Break k))
        (λ k y d.
        keep here (states.to mode.more s) (at class.Blank k) b.lined.good b.lined.filled (λ z. absurd (omega arith)) d
        (places.more refl (again (states.to mode.more s) b.lined) c (z ∷ x ∷ []) (g, (y, tt)) (omega arith) (snoc-three b.h b.u (z ∷ []) x p)))
        (λ k d y. spaced c (z ∷ []) (record { blank = (g, tt); some = omega arith; one = λ _. refl }) p d y (at class.Digit k))
        (λ k _ _. bad-form here (at class.Other k))
      where
        at : (k : Class) → class_of x ≡ k → states.one_by k f x n s ≡ then f s x n out
        at k c = moves.at_one f x n (get_or out s.beside 0) s k c v

    -- ---- its text column

    -- a character of the column, where the octets from the k-th of the line on are to be shown
    besides : (k : ℕ) → s.beside ≡ length b.now + k → k ≤ length b.cs → (c : List ℕ)
        → ((t : List ℕ) → Text f (drop k b.cs) t → End f b.cs stood true (c ++ t)) → pre ≡ b.h ++ (b.u ++ c) → (x ≡ 10 → ⊥)
        → (f.closing ≡ None → x ≡ 32 → drop k b.cs ≡ [] → s ≡ then f s x n out → Lines f stood star os last (pre ++ (x ∷ xs)) bs)
        → states.beside f x n (get_or out s.beside 0) s ≡ then f s x n out → Lines f stood star os last (pre ++ (x ∷ xs)) bs
    besides k w j c l p y blank e =
        moves.by-beside f x n (get_or out s.beside 0) s
        (λ g q.
        let d : drop k b.cs ≡ [] = all_shown g in
        moves.by-past f x n 0 s
        (λ o. bad-column here (o ∙ q ∙ e))
        (λ z h o. blank z h d (o ∙ q ∙ e))
        (λ h o.
        keep here (states.to mode.closed s) (o ∙ q ∙ e) b.lined.good b.lined.filled (λ z. absurd (omega arith)) y
        (places.closed refl (again (states.to mode.closed s) b.lined) (c ++ (x ∷ []))
        (λ t v.
        further t (subst (λ (o : List ℕ). Text f o (x ∷ t)) (sym d) (shows.closes h v)))
        (snoc-three b.h b.u c x p))))
        (λ q. bad-column here (q ∙ e))
        (λ g z q.
        let a : k < length b.cs = inside g in
        let t : State = states.to mode.text (states.column (s.beside + 1) s) in
        keep here t (q ∙ e) b.lined.good b.lined.filled (λ z. absurd (omega arith)) y
        (places.text refl (again t b.lined) (k + 1) (omega arith) (omega arith) (c ++ (x ∷ [])) (λ o v. further o (one_more z a v))
        (snoc-three b.h b.u c x p)))
      where
        count : n ≡ length b.now + length b.cs
        count = lined-count b.lined

        all_shown : n ≤ s.beside → drop k b.cs ≡ []
        all_shown g =
            let d : k ≡ length b.cs = omega (arith, count) in
            ap (λ (i : ℕ). drop i b.cs) d ∙ drop-length b.cs

        inside : s.beside < n → k < length b.cs
        inside g = omega (arith, count)

        further : (t : List ℕ) → Text f (drop k b.cs) (x ∷ t) → End f b.cs stood true (c ++ (x ∷ []) ++ t)
        further t v = subst (End f b.cs stood true) (sym (append_snoc c x t)) (l (x ∷ t) v)

        one_more : x ≡ shown_of f.prefix (get_or out s.beside 0) → k < length b.cs → {o : List ℕ} → Text f (drop (k + 1) b.cs) o
            → Text f (drop k b.cs) (x ∷ o)
        one_more z a {o} v =
            let d : get_or out s.beside 0 ≡ get_or b.cs k 0 = ap (λ (i : ℕ). get_or out i 0) w ∙ lined-at b.lined k a in
            let q : drop k b.cs ≡ get_or b.cs k 0 ∷ drop (k + 1) b.cs =
            drop-cons b.cs k 0 a ∙ ap (λ (i : ℕ). get_or b.cs k 0 ∷ drop i b.cs) (sym (add-one k))
            in
            subst (λ (r : List ℕ). Text f r (x ∷ o)) (sym q)
            (shows.shows (shown-says f (get_or b.cs k 0) x (z ∙ ap (shown_of f.prefix) d)) v)

    pub from-text : s.mode ≡ mode.text → (k : ℕ) → s.beside ≡ length b.now + k → k ≤ length b.cs → (c : List ℕ)
        → ((t : List ℕ) → Text f (drop k b.cs) t → End f b.cs stood true (c ++ t)) → pre ≡ b.h ++ (b.u ++ c)
        → Lines f stood star os last (pre ++ (x ∷ xs)) bs
    from-text v k w j c l p =
        moves.by-text f x n (get_or out s.beside 0) s
        (λ y q.
        keep here s (q ∙ at) b.lined.good b.lined.filled (λ z. absurd (omega arith)) (λ z. absurd (omega arith))
        (same (λ t g. subst (λ (o : ℕ). Text f (drop k b.cs) (o ∷ t)) (sym y) (shows.returned g))))
        (λ y q.
        moves.by-broken f x n 0 s
        (λ o. bad-column here (o ∙ q ∙ at))
        (λ z g o.
        ends-beside c (subst (End f b.cs stood true) (append-nil c) (l [] (shows.ends z (rest g)))) p y (o ∙ q ∙ at)))
        (λ y q.
        besides k w j c l p y
        (λ z h d o.
        keep here s o b.lined.good b.lined.filled (λ z. absurd (omega arith)) y
        (same
        (λ t g.
        subst (λ (r : List ℕ). Text f r (x ∷ t)) (sym d)
        (subst (λ (o : ℕ). Text f [] (o ∷ t)) (sym h) (shows.blank z (subst (λ (r : List ℕ). Text f r t) d g))))))
        (q ∙ at))
      where
        at : states.text f x n (get_or out s.beside 0) s ≡ then f s x n out
        at = moves.at-text f x n (get_or out s.beside 0) s v

        same : ((t : List ℕ) → Text f (drop k b.cs) t → Text f (drop k b.cs) (x ∷ t)) → Place f stood s n out (pre ++ (x ∷ [])) os last star
        same g =
            places.text v b k w j (c ++ (x ∷ [])) (λ t o. subst (End f b.cs stood true) (sym (append_snoc c x t)) (l (x ∷ t) (g t o)))
            (snoc-three b.h b.u c x p)

        rest : s.solid ≤ s.beside → Faint f (drop k b.cs)
        rest g =
            let a = b.lined in
            let d : a.shown + (k - a.shown) ≡ k = omega (arith, a.to) in
            subst (Faint f) (drop-drop (k - a.shown) a.shown b.cs ∙ ap (λ (i : ℕ). drop i b.cs) d)
            (all_drop (λ o. Shown f o 32) (k - a.shown) (drop a.shown b.cs) a.faint)

    pub from-closed : s.mode ≡ mode.closed → (c : List ℕ) → ((t : List ℕ) → Blanks t → End f b.cs stood true (c ++ t)) → pre ≡ b.h ++ (b.u ++ c)
        → Lines f stood star os last (pre ++ (x ∷ xs)) bs
    from-closed v c l p =
        by-class x
        (λ k y. ends-beside c (subst (End f b.cs stood true) (append-nil c) (l [] tt)) p y (at class.Break k))
        (λ k y z.
        keep here s (at class.Blank k) b.lined.good b.lined.filled (λ z. absurd (omega arith)) z
        (places.closed v b (c ++ (x ∷ [])) (λ t g. subst (End f b.cs stood true) (sym (append_snoc c x t)) (l (x ∷ t) (y, g)))
        (snoc-three b.h b.u c x p)))
        (λ k _ _. bad-form here (at class.Digit k))
        (λ k _ _. bad-form here (at class.Other k))
      where
        at : (k : Class) → class_of x ≡ k → states.rest_by k n s ≡ then f s x n out
        at k c = moves.at-closed f x n (get_or out s.beside 0) s k c v

    pub from_more : s.mode ≡ mode.more → Aside f s.beside b.now b.cs → (q : List ℕ) → Blanks q → 2 ≤ length q → pre ≡ b.h ++ (b.u ++ q)
        → Lines f stood star os last (pre ++ (x ∷ xs)) bs
    from_more v c q g two p =
        by-class x
        (λ k y. ends-bare q g p y (at class.Break k))
        (λ k y z.
        keep here s (at class.Blank k) b.lined.good b.lined.filled (λ z. absurd (omega arith)) z
        (places.more v b c (q ++ (x ∷ [])) (blanks-more q x g y) (omega (arith, length-append q (x ∷ []))) (snoc-three b.h b.u q x p)))
        (λ k d z.
        moves.by-opening f x n (get_or out s.beside 0) s
        (λ o e. besides c.index c.is c.few q (free o) p z (λ _ h _ _. absurd (digit-no-space x d h)) (e ∙ at class.Digit k))
        (λ o e. spaced c q (record { blank = g; some = omega arith; one = λ h. absurd (o h) }) p d z (e ∙ at class.Digit k)))
        (λ k z h.
        moves.by-fence f x n (get_or out s.beside 0) s
        (λ o e. besides c.index c.is c.few q (free o) p z (λ _ y _ _. absurd (h y)) (e ∙ at class.Other k))
        (λ o e.
        moves.by-fenced f x n 0 s
        (λ y. bad-form here (y ∙ e ∙ at class.Other k))
        (λ w y.
        let t : State = states.to mode.text (states.column s.line s) in
        keep here t (y ∙ e ∙ at class.Other k) b.lined.good b.lined.filled (λ z. absurd (omega arith)) z
        (places.text refl (again t b.lined) 0 (b.lined.here ∙ sym (add-zero (length b.now))) (omega arith) (q ++ (x ∷ []))
        (λ t j.
        subst (End f b.cs stood true) (sym (append_snoc q x t))
        (shows.beside q g two (shows.fenced w j)))
        (snoc-three b.h b.u q x p)))))
      where
        at : (k : Class) → class_of x ≡ k → states.more_by k f x n (get_or out s.beside 0) s ≡ then f s x n out
        at k c = moves.at_more f x n (get_or out s.beside 0) s k c v

        free : f.opening ≡ None → (t : List ℕ) → Text f (drop c.index b.cs) t → End f b.cs stood true (q ++ t)
        free o t j =
            shows.beside q g two
            (subst (λ (l : List ℕ). Column f l t) (take-append-drop c.index b.cs) (shows.free (take c.index b.cs) o c.faint j))
