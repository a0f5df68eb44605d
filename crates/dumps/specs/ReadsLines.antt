-- Lines that show octets are read as them. Assumes nothing.
use Rattle.std.specs.Prelude.{◌≡◌, refl, Bool, true, false, List, [], ◌∷◌, ◌++◌, ℕ, suc, ◌-◌, ◌≤◌, length, get_or}
use Rattle.std.proofs.Common.{sym, ap, subst, ◌∙◌, append-nil, append_assoc, arith, length-append, length-drop, length-take-le}
use Rattle.std.proofs.Math.ListN.{take}
use Rattle.octets.specs.Lists.{All}
use Rattle.inputs.specs.Read.{Octets}
use Rattle.dumps.specs.declared.Style.{Style}
use Rattle.dumps.specs.State.{State}
use Rattle.dumps.specs.Class as class
use Rattle.dumps.specs.Mode as mode
use Rattle.dumps.specs.States as states
use Rattle.dumps.specs.States.{class_of}
use Rattle.dumps.specs.StatesLaws.{star-stands}
use Rattle.dumps.specs.Dumps.{read_from}
use Rattle.dumps.specs.Shows as shows
use Rattle.dumps.specs.Shows.{Blanks, Bare, Mark, Before, times, Front, Alone, Lines, Told}
use Rattle.dumps.specs.Moves as moves
use Rattle.dumps.specs.Places.{FrontOf}
use Rattle.dumps.specs.Reads.{Good, back_on, class-break, class-blank, class-star, class-colon}
use Rattle.dumps.specs.ReadsLine.{RowOf, Sides, octets-read}
use Rattle.dumps.specs.ReadsText.{end_read}
use Rattle.dumps.specs.ReadsFront.{by_before, start-blanks, AtDigits, offset_read, count-read}

-- ---- octets only become more

before_more : {star : Bool} {os last now : List ℕ} → Before star os last now → length os ≤ length now
before_more {star} {os} {last} {now} b =
    by_before b
    (λ _ e. let l = ap length e in omega arith)
    (λ _ k e. let l = ap length e ∙ length-append os (times (suc k) last) in omega arith)

alone-now : {f : Style} {star : Bool} {os last now h : List ℕ} → Alone f star os last now h → Before star os last now
alone-now (shows.short p b e o) = e
alone-now (shows.whole h) = h.before

lines_more : {f : Style} {stood star : Bool} {os last t bs : List ℕ} → Lines f stood star os last t bs → length os ≤ length bs
lines_more shows.done = omega arith
lines_more (shows.empty p b l) = lines_more l
lines_more (shows.star p q b d s l) = lines_more l
lines_more (shows.line {now = now} {cs = cs} h s o e l) =
    let k = lines_more l in
    let j = before_more h.before in
    let i = length-append now cs in
    omega arith
lines_more (shows.alone t g a b) = before_more (alone-now a)

-- ---- after an offset

module _ (f : Style) (m : ℕ) (bs : List ℕ) where
  -- at the end, after no star
  end-good : (s : State) (n : ℕ) (out : List ℕ) → s.star ≡ false → n ≡ m → take n out ≡ bs → Good f s n out [] m bs
  unfolding read_from
  end-good s n out q e o size i = record { is = rw q (ap Octets e); octets = rw q (ap (λ (k : ℕ). take k out) (sym e) ∙ o) }

  ended-read : (s : State) (n : ℕ) (out t : List ℕ) → s.mode ≡ mode.start → s.why ≡ 0 → s.upto ≤ n → s.star ≡ false → All Bare t → n ≡ m
      → take n out ≡ bs → Good f s n out t m bs
  ended-read s n out [] v g u q b e o = end-good s n out q e o
  ended-read s n out (x ∷ t) v g u q b e o = bare b.0 (ended-read s n out t v g u q b.1 e o)
    where
      bare : Bare x → Good f s n out t m bs → Good f s n out (x ∷ t) m bs
      bare (shows.blank c) r =
          back_on f s x n out t m bs s (moves.at-start f x n (get_or out s.beside 0) s class.Blank (class-blank c) v) g u (λ z. absurd (omega arith)) r
      bare (shows.line_break c) r =
          back_on f s x n out t m bs s
          (moves.at-start f x n (get_or out s.beside 0) s class.Break (ap class_of c ∙ class-break) v) g u (λ z. absurd (omega arith)) r

  after-blanks : (s : State) (n : ℕ) (out q rest : List ℕ) → s.mode ≡ mode.after → s.why ≡ 0 → s.upto ≤ n → Blanks q → Good f s n out rest m bs
      → Good f s n out (q ++ rest) m bs
  after-blanks s n out [] rest v g u b r = r
  after-blanks s n out (x ∷ q) rest v g u b r =
      back_on f s x n out (q ++ rest) m bs s (moves.at_after f x n (get_or out s.beside 0) s class.Blank (class-blank b.0) v) g u
      (λ z. absurd (omega arith)) (after-blanks s n out q rest v g u b.1 r)

  -- where the octets of a line begin
  abbrev Begins : Bool → List ℕ → List ℕ → ℕ → Type 0
  Begins stood now rest room = (t : State) (n : ℕ) (out : List ℕ) → t.mode ≡ mode.after → RowOf stood t n out now [] → Sides f t.beside t.solid now []
      → length out ≡ room → Good f t n out rest m bs

  module _ (n : ℕ) (out os last now : List ℕ) (star stood : Bool) (before : Before star os last now) (some : star ≡ true → 1 ≤ length last)
      (room : length now ≤ length out) where
    blank-on : (t : State) (x : ℕ) → f.colon ≡ false → states.counted f n t ≡ states.offset_by class.Blank f x n t
    blank-on t x c = rw c

    colon-on : (t : State) → f.colon ≡ true → states.to mode.gap (states.counted f n t) ≡ states.offset_by class.Other f 58 n t
    colon-on t c = rw c

    -- what stands after the digits, with a blank at least
    mark-read : (w q rest : List ℕ) → Mark f w → Blanks q → 1 ≤ length q → Begins stood now rest (length out)
        → AtDigits f m bs n out os last star stood f.digits (length now) (w ++ (q ++ rest))
    mark-read w [] rest k b h go t v a d p = absurd (omega arith)
    mark-read w (x ∷ q) rest (shows.plain c) b h go t v a d p =
        count-read f m bs n out os last star stood (λ u. u) (λ u. refl) (λ u. refl) (λ u. refl) (λ u y z. absurd (omega arith)) t x (q ++ rest) now a d p
        before some room
        (blank-on t x c ∙ moves.at_offset f x n (get_or out t.beside 0) t class.Blank (class-blank b.0) v)
        (λ u k o y row sides l. after-blanks u k o q rest y row.good row.filled b.1 (go u k o y row sides l))
    mark-read w (x ∷ q) rest (shows.colon c) b h go t v a d p =
        count-read f m bs n out os last star stood (states.to mode.gap) (λ u. refl) (λ u. refl) (λ u. refl) (λ u y z. absurd (omega arith)) t 58
        (x ∷ (q ++ rest)) now a d p before some room
        (colon-on t c ∙ moves.at_offset f 58 n (get_or out t.beside 0) t class.Other class-colon v)
        (λ u k o y row sides l.
        back_on f (states.to mode.gap u) x k o (q ++ rest) m bs (states.to mode.after u)
        (moves.at_gap f x k (get_or o u.beside 0) (states.to mode.gap u) class.Blank (class-blank b.0) refl) row.good row.filled
        (λ z. absurd (omega arith))
        (after-blanks (states.to mode.after u) k o q rest refl row.good row.filled b.1 (go (states.to mode.after u) k o refl row sides l)))

    alone-on : (u : State) (k : ℕ) (l rest : List ℕ) → RowOf stood u k l now [] → All Bare rest → length now ≡ m → now ≡ bs
        → Good f (states.finished u) k l rest m bs
    alone-on u k l rest row b e o =
        let c : take k l ≡ now = row.octets ∙ append-nil now in
        let h : k ≡ length now = sym (length-take-le k l row.size) ∙ ap length c in
        ended-read (states.finished u) k l rest refl row.good row.filled row.none b (h ∙ e) (c ∙ o)

    alone-ends : (u : State) → f.ends ≡ true → states.finished u ≡ states.alone f u
    unfolding states.alone
    alone-ends u g = rw g

    -- an offset that stands alone
    bare-read : f.ends ≡ true → (rest : List ℕ) → All Bare rest → length now ≡ m → now ≡ bs
        → AtDigits f m bs n out os last star stood f.digits (length now) (10 ∷ rest)
    bare-read g rest b e o t v a d p =
        count-read f m bs n out os last star stood states.finished (λ u. refl) (λ u. refl) (λ u. refl) (λ u y z. absurd (omega arith)) t 10 rest now a d p before
        some room (alone-ends (states.counted f n t) g ∙ moves.at_offset f 10 n (get_or out t.beside 0) t class.Break class-break v)
        (λ u k l y row sides _. alone-on u k l rest row b e o)

    -- after blanks
    alone-after : f.ends ≡ true → (rest : List ℕ) → All Bare rest → length now ≡ m → now ≡ bs → Begins stood now (10 ∷ rest) (length out)
    alone-after g rest b e o t k l v row sides _ =
        back_on f t 10 k l rest m bs (states.finished t)
        (alone-ends t g ∙ moves.at_after f 10 k (get_or l t.beside 0) t class.Break class-break v) row.good row.filled
        (λ z. absurd (omega arith)) (alone-on t k l rest row b e o)

    -- with its mark, and blanks or none
    alone-read : f.ends ≡ true → (w q rest : List ℕ) → Mark f w → Blanks q → All Bare rest → length now ≡ m → now ≡ bs
        → AtDigits f m bs n out os last star stood f.digits (length now) (w ++ (q ++ (10 ∷ rest)))
    alone-read i w (x ∷ q) rest c b d e o = mark-read w (x ∷ q) (10 ∷ rest) c b (omega arith) (alone-after i rest d e o)
    alone-read i w [] rest (shows.plain c) b d e o = bare-read i rest d e o
    alone-read i w [] rest (shows.colon c) b d e o =
        λ t v a g p.
        count-read f m bs n out os last star stood (states.to mode.gap) (λ u. refl) (λ u. refl) (λ u. refl) (λ u y z. absurd (omega arith)) t 58
        (10 ∷ rest) now a g p before some room
        (colon-on t c ∙ moves.at_offset f 58 n (get_or out t.beside 0) t class.Other class-colon v)
        (λ u k l y row sides _.
        back_on f (states.to mode.gap u) 10 k l rest m bs (states.finished u)
        (alone-ends (states.to mode.gap u) i ∙ moves.at_gap f 10 k (get_or l u.beside 0) (states.to mode.gap u) class.Break class-break refl) row.good
        row.filled
        (λ z. absurd (omega arith)) (alone-on u k l rest row d e o))

-- ---- lines

module _ (f : Style) (told : Told f) where
  star-blanks : (m : ℕ) (bs : List ℕ) (s : State) (n : ℕ) (out q rest : List ℕ) → s.mode ≡ mode.star → s.why ≡ 0 → s.upto ≤ n → Blanks q
      → Good f s n out rest m bs → Good f s n out (q ++ rest) m bs
  star-blanks m bs s n out [] rest v g u b r = r
  star-blanks m bs s n out (x ∷ q) rest v g u b r =
      back_on f s x n out (q ++ rest) m bs s (moves.at-star f x n (get_or out s.beside 0) s class.Blank (class-blank b.0) v) g u
      (λ z. absurd (omega arith)) (star-blanks m bs s n out q rest v g u b.1 r)

  -- a star at the front of a line
  star-read : (m : ℕ) (bs : List ℕ) (stood : Bool) (s : State) (n : ℕ) (out os last p q rest : List ℕ) → s.mode ≡ mode.start
      → FrontOf stood s n out os last false → Blanks p → Blanks q → 1 ≤ length last
      → ((t : State) → t.mode ≡ mode.start → FrontOf stood t n out os last true → Good f t n out rest m bs)
      → Good f s n out (p ++ (42 ∷ (q ++ (10 ∷ rest)))) m bs
  star-read m bs stood s n out os last p q rest v a b d l go =
      let z : length os ≡ n = sym (ap length a.octets) ∙ length-take-le n out a.size in
      let c : length last ≡ length os - s.before = sym (ap length a.above) ∙ length-drop s.before os in
      let t : State = states.to mode.star s in
      let u : State = states.starred_by class.Break t in
      start-blanks f m bs n out os last false stood s v a.good a.filled p (42 ∷ (q ++ (10 ∷ rest))) b
      (back_on f s 42 n out (q ++ (10 ∷ rest)) m bs t
      (star-stands 42 s refl a.going a.pending (omega (arith, a.here)) ∙ moves.at-start f 42 n (get_or out s.beside 0) s class.Other class-star v)
      a.good a.filled (λ z. absurd (omega arith))
      (star-blanks m bs t n out q (10 ∷ rest) refl a.good a.filled d
      (back_on f t 10 n out rest m bs u (moves.at-star f 10 n (get_or out s.beside 0) t class.Break class-break refl) a.good a.filled
      (λ z. absurd (omega arith))
      (go u refl
      (record {
        good = a.good;
        filled = a.filled;
        size = a.size;
        octets = a.octets;
        here = a.here;
        above = a.above;
        pending = refl;
        going = a.going;
        column = a.column;
      })))))

  -- a line's front, up to where what stands after the digits begins
  front_read : (m : ℕ) (bs : List ℕ) (stood : Bool) (s : State) (n : ℕ) (out os last now h rest : List ℕ) (star : Bool) → s.mode ≡ mode.start
      → FrontOf stood s n out os last star → (w : Front f star os last now h) → length now ≤ 65535
      → AtDigits f m bs n out os last star stood f.digits (length now) (w.mark ++ (w.then ++ rest)) → Good f s n out (h ++ rest) m bs
  front_read m bs stood s n out os last now h rest star v a w k go =
      subst (λ (t : List ℕ). Good f s n out t m bs)
      (sym
      (ap (λ (t : List ℕ). t ++ rest) w.is
      ∙ append_assoc w.first (w.offset ++ (w.mark ++ w.then)) rest
      ∙ ap (λ (t : List ℕ). w.first ++ t)
      (append_assoc w.offset (w.mark ++ w.then) rest ∙ ap (λ (t : List ℕ). w.offset ++ t) (append_assoc w.mark w.then rest))))
      (start-blanks f m bs n out os last star stood s v a.good a.filled w.first (w.offset ++ (w.mark ++ (w.then ++ rest))) w.blanks
      (offset_read f m bs n out os last star stood told w.counts k s v a (w.mark ++ (w.then ++ rest)) go))

  -- `stood` is what the state says, `stands` what the lines say: blanks alone may count as a column there, but the state knows none
  pub lines-read : {stands star : Bool} {os last t bs : List ℕ} → Lines f stands star os last t bs → (stood : Bool) (s : State) (n : ℕ) (out : List ℕ)
      → s.mode ≡ mode.start → FrontOf stood s n out os last star → (stood ≡ true → stands ≡ true) → (star ≡ true → 1 ≤ length last)
      → length bs ≤ length out → length bs ≤ 65535 → Good f s n out t (length bs) bs
  lines-read (shows.done {os = os} {last}) stood s n out v a y w r k =
      end-good f (length os) os s n out a.pending (sym (length-take-le n out a.size) ∙ ap length a.octets) a.octets
  lines-read (shows.empty {star = star} {os} {last} p {t} {bs} b l) stood s n out v a y w r k =
      start-blanks f (length bs) bs n out os last star stood s v a.good a.filled p (10 ∷ t) b
      (back_on f s 10 n out t (length bs) bs s (moves.at-start f 10 n (get_or out s.beside 0) s class.Break class-break v) a.good a.filled
      (λ z. absurd (omega arith)) (lines-read l stood s n out v a y w r k))
  lines-read (shows.star {os = os} {last} p q {t} {bs} b d h l) stood s n out v a y w r k =
      star-read (length bs) bs stood s n out os last p q t v a b d h (λ t v a. lines-read l stood t n out v a y (λ _. h) r k)
  lines-read (shows.line {stood = before} {stands} {star} {g} {os} {last} {now} {h} {u} {cs} {e} {t} {bs} c j o i l) stood s n out v a y w r k =
      let more = lines_more l in
      let both = length-append now cs in
      front_read (length bs) bs stood s n out os last now h (u ++ (e ++ (10 ∷ t))) star v a c (omega arith)
      (mark-read f (length bs) bs n out os last now star stood c.before w (omega arith) c.mark c.then (u ++ (e ++ (10 ∷ t))) c.marked
      c.apart j
      (λ t₁ n₁ out₁ v₁ row₁ sides₁ l₁.
      octets-read f (length bs) bs now stood o t₁ n₁ out₁ (e ++ (10 ∷ t)) v₁ row₁ sides₁ (omega arith)
      (λ t₂ n₂ out₂ v₂ g₂ row₂ sides₂ l₂.
      end_read f told (length bs) bs now cs t n₂ out₂ stood stands
      (λ stood₃ t₃ v₃ a₃ y₃. lines-read l stood₃ t₃ n₂ out₂ v₃ a₃ y₃ (λ z. absurd (no z)) (omega arith) k) i y t₂ v₂ row₂ sides₂)))
    where
      no : false ≡ true → ⊥
      no z = let y : ◌≡◌ {A = ℕ} 0 1 = cc in absurd (omega arith)
  lines-read (shows.alone {star = star} {os} {last} {now} t g (shows.short p {o} b e c) d) stood s n out v a y w r k =
      subst (λ (l : List ℕ). Good f s n out l (length now) now) (sym (append_assoc p o (10 ∷ t)))
      (start-blanks f (length now) now n out os last star stood s v a.good a.filled p (o ++ (10 ∷ t)) b
      (offset_read f (length now) now n out os last star stood told c k s v a (10 ∷ t)
      (bare-read f (length now) now n out os last now star stood e w r g t d refl refl)))
  lines-read (shows.alone {star = star} {os} {last} {now} t g (shows.whole {h} c) d) stood s n out v a y w r k =
      front_read (length now) now stood s n out os last now h (10 ∷ t) star v a c k
      (alone-read f (length now) now n out os last now star stood c.before w r g c.mark c.then t c.marked c.apart d refl refl)
