-- A line's front is read: blanks, and an offset, which counts the octets before the line. Assumes nothing.
use Rattle.std.specs.Prelude.{◌≡◌, refl, Bool, true, false, List, [], ◌∷◌, ◌++◌, ℕ, suc, ◌+◌, ◌-◌, ◌*◌, ◌%◌, ◌≤◌, ◌<◌, length, get_or, take, drop}
use Rattle.std.proofs.Common.{sym, ap, subst, ◌∙◌, append-nil, append_assoc, add-zero, arith, length-append, length-drop, length-take-le}
use Rattle.std.proofs.Math.Nat.{mul-mod_left}
use Rattle.hexes.specs.Hexes.{digit}
use Rattle.hexes.specs.Hexes as hexes
use Rattle.hexes.specs.Spelled as spelled
use Rattle.dumps.specs.declared.Style.{Style}
use Rattle.dumps.specs.State.{State}
use Rattle.dumps.specs.Class as class
use Rattle.dumps.specs.Mode as mode
use Rattle.dumps.specs.States as states
use Rattle.dumps.specs.States.{moved}
use Rattle.dumps.specs.StatesLaws.{counted-star, counted-here}
use Rattle.dumps.specs.Dumps.{repeated_of}
use Rattle.dumps.specs.DumpsLaws.{repeated-length}
use Rattle.dumps.specs.Shows as shows
use Rattle.dumps.specs.Shows.{Blanks, Number, Prefix, Offset, Before, times, Told}
use Rattle.dumps.specs.Moves as moves
use Rattle.dumps.specs.Repeats.{copies_as, length-times}
use Rattle.dumps.specs.Places.{FrontOf}
use Rattle.dumps.specs.Reads as reads
use Rattle.dumps.specs.Reads.{Good, back_on, back-fill, digit-is, class-digit-is, class-blank}
use Rattle.dumps.specs.ReadsLine.{RowOf, Sides}

by-prefix : {f : Style} {u : List ℕ} {P : Type 0} → Prefix f u → (f.prefix ≡ false → u ≡ [] → P) → (f.prefix ≡ true → u ≡ 48 ∷ 120 ∷ [] → P) → P
by-prefix (shows.plain e) p q = p e refl
by-prefix (shows.hex e) p q = q e refl

pub by_before : {star : Bool} {os last now : List ℕ} {P : Type 0} → Before star os last now → (star ≡ false → now ≡ os → P)
    → (star ≡ true → (k : ℕ) → now ≡ os ++ times (suc k) last → P) → P
by_before shows.plain p q = p refl refl
by_before (shows.stars k) p q = q refl k refl

zero-digit : digit 48 ≡ true
unfolding digit
zero-digit = refl

number-none : {ds : List ℕ} {v : ℕ} → Number ds v → length ds ≡ 0 → v ≡ 0
number-none shows.none e = refl
number-none (shows.further {ds} {v} {x} {w} h d) e = let l = length-append ds (x ∷ []) in absurd (omega arith)

module _ (f : Style) (m : ℕ) (bs : List ℕ) (n : ℕ) (out os last : List ℕ) (star stood : Bool) where
  pub start-blanks : (s : State) → s.mode ≡ mode.start → s.why ≡ 0 → s.upto ≤ n → (p rest : List ℕ) → Blanks p → Good f s n out rest m bs
      → Good f s n out (p ++ rest) m bs
  start-blanks s v g u [] rest b r = r
  start-blanks s v g u (x ∷ p) rest b r =
      back_on f s x n out (p ++ rest) m bs s (moves.at-start f x n (get_or out s.beside 0) s class.Blank (class-blank b.0) v) g u
      (λ z. absurd (omega arith)) (start-blanks s v g u p rest b.1 r)

  -- ---- an offset

  -- d digits are read, of the value v
  abbrev pub AtDigits : ℕ → ℕ → List ℕ → Type 0
  AtDigits d v rest = (t : State) → t.mode ≡ mode.offset → FrontOf stood t n out os last star → t.digits ≡ d → t.value ≡ v → Good f t n out rest m bs

  digit-more : (t : State) (x w d v : ℕ) (rest : List ℕ) → t.mode ≡ mode.offset → FrontOf stood t n out os last star → t.digits ≡ d → t.value ≡ v
      → spelled.Digit x w → d < f.digits → v ≤ 65535 → AtDigits (d + 1) (16 * v + w) rest → Good f t n out (x ∷ rest) m bs
  digit-more t x w d v rest e a p q h j k go =
      let o = digit-is h in
      let u : State = states.reading (t.digits + 1) (16 * t.value + hexes.value x) t in
      back_on f t x n out rest m bs u
      (reads.further-on f x n 0 t (omega arith) (omega arith)
      ∙ moves.at_offset f x n (get_or out t.beside 0) t class.Digit (class-digit-is x o.0) e)
      a.good a.filled (λ z. absurd (omega arith)) (go u e a (omega arith) (omega (arith, o.1)))

  prefix-digits : {ds : List ℕ} {v : ℕ} → Number ds v → length ds ≤ f.digits → v ≤ 65535 → (s : State) → s.mode ≡ mode.offset
      → FrontOf stood s n out os last star → s.digits ≡ 0 → s.value ≡ 0 → (rest : List ℕ) → AtDigits (length ds) v rest → Good f s n out (ds ++ rest) m bs
  prefix-digits shows.none h k s e a p q rest go = go s e a p q
  prefix-digits (shows.further {ds} {v} {x} {w} i d) h k s e a p q rest go =
      let l = length-append ds (x ∷ []) in
      subst (λ (t : List ℕ). Good f s n out t m bs) (sym (append_assoc ds (x ∷ []) rest))
      (prefix-digits i (omega arith) (omega arith) s e a p q (x ∷ rest)
      (λ t e₁ a₁ p₁ q₁.
      digit-more t x w (length ds) v rest e₁ a₁ p₁ q₁ d (omega arith) (omega arith) (λ t₂ e₂ a₂ p₂ q₂. go t₂ e₂ a₂ (p₂ ∙ sym l) q₂)))

  plain-digits : {ds : List ℕ} {v : ℕ} → Number ds v → 1 ≤ length ds → length ds ≤ f.digits → v ≤ 65535 → f.prefix ≡ false → (s : State)
      → s.mode ≡ mode.start → FrontOf stood s n out os last star → (rest : List ℕ) → AtDigits (length ds) v rest → Good f s n out (ds ++ rest) m bs
  plain-digits shows.none h j k r s e a rest go = absurd (omega arith)
  plain-digits (shows.further {ds = []} {v} {x} {w} i d) h j k r s e a rest go =
      let o = digit-is d in
      let z = number-none i refl in
      let u : State = states.to mode.offset (states.reading 1 (hexes.value x) s) in
      back_on f s x n out rest m bs u
      (reads.first_plain f x n 0 s a.going r ∙ moves.at-start f x n (get_or out s.beside 0) s class.Digit (class-digit-is x o.0) e)
      a.good a.filled (λ z. absurd (omega arith)) (go u refl a refl (omega (arith, o.1)))
  plain-digits (shows.further {ds = y ∷ ds} {v} {x} {w} i d) h j k r s e a rest go =
      let l = length-append (y ∷ ds) (x ∷ []) in
      subst (λ (t : List ℕ). Good f s n out t m bs) (sym (append_assoc (y ∷ ds) (x ∷ []) rest))
      (plain-digits i (omega arith) (omega arith) (omega arith) r s e a (x ∷ rest)
      (λ t e₁ a₁ p₁ q₁.
      digit-more t x w (length (y ∷ ds)) v rest e₁ a₁ p₁ q₁ d (omega arith) (omega arith) (λ t₂ e₂ a₂ p₂ q₂. go t₂ e₂ a₂ (p₂ ∙ sym l) q₂)))

  pub offset_read : Told f → {v : ℕ} {o : List ℕ} → Offset f v o → v ≤ 65535 → (s : State) → s.mode ≡ mode.start → FrontOf stood s n out os last star
      → (rest : List ℕ) → AtDigits f.digits v rest → Good f s n out (o ++ rest) m bs
  offset_read told {v} {o} h k s e a rest go =
      let j = h.size in
      let l = told.digits in
      by-prefix h.prefix
      (λ p q.
      subst (λ (t : List ℕ). Good f s n out (t ++ rest) m bs) (sym (h.is ∙ ap (λ (t : List ℕ). t ++ h.digits) q))
      (plain-digits h.number (omega arith) (omega arith) k p s e a rest (λ t e₁ a₁ p₁ q₁. go t e₁ a₁ (p₁ ∙ j) q₁)))
      (λ p q.
      let t : State = states.to mode.prefix s in
      let u : State = states.to mode.offset (states.reading 0 0 t) in
      subst (λ (t : List ℕ). Good f s n out (t ++ rest) m bs) (sym (h.is ∙ ap (λ (t : List ℕ). t ++ h.digits) q))
      (back_on f s 48 n out (120 ∷ (h.digits ++ rest)) m bs t
      (reads.first-zero f 48 n 0 s a.going p refl
      ∙ moves.at-start f 48 n (get_or out s.beside 0) s class.Digit (class-digit-is 48 zero-digit) e)
      a.good a.filled (λ z. absurd (omega arith))
      (back_on f t 120 n out (h.digits ++ rest) m bs u
      (reads.prefixed-x f 120 n 0 t refl ∙ moves.at-prefix f 120 n (get_or out s.beside 0) t refl)
      a.good a.filled (λ z. absurd (omega arith))
      (prefix-digits h.number (omega arith) k u refl a refl refl rest (λ t e₁ a₁ p₁ q₁. go t e₁ a₁ (p₁ ∙ j) q₁)))))

  -- ---- it counts

  pub count-read : (wrap : State → State) → ((u : State) → (wrap u).why ≡ u.why) → ((u : State) → (wrap u).upto ≡ u.upto)
      → ((u : State) → (wrap u).before ≡ u.before) → ((u : State) → u.mode ≡ mode.after → (wrap u).mode ≡ mode.low → ⊥)
      → (t : State) (x : ℕ) (rest now : List ℕ) → FrontOf stood t n out os last star → t.digits ≡ f.digits → t.value ≡ length now → Before star os last now
      → (star ≡ true → 1 ≤ length last) → length now ≤ length out → wrap (states.counted f n t) ≡ moved f x n (get_or out t.beside 0) t
      → ((u : State) (k : ℕ) (o : List ℕ) → u.mode ≡ mode.after → RowOf stood u k o now [] → Sides f u.beside u.solid now [] → length o ≡ length out
      → Good f (wrap u) k o rest m bs)
      → Good f t n out (x ∷ rest) m bs
  count-read wrap w v b l t x rest now a d p before some room e go =
      by_before before
      (λ q r.
      let z : length os ≡ n = sym (ap length a.octets) ∙ length-take-le n out a.size in
      let y : length now ≡ n = ap length r ∙ z in
      let u : State = states.opened n t in
      back_on f t x n out rest m bs (wrap u) (ap wrap (counted-here f n t d (a.pending ∙ q) (p ∙ y)) ∙ e) (w u ∙ a.good)
      (subst (λ (j : ℕ). j ≤ n) (sym (v u)) a.filled) (l u refl)
      (go u n out refl
      (record {
        good = a.good;
        filled = a.filled;
        size = a.size;
        octets = a.octets ∙ sym r ∙ sym (append-nil now);
        here = sym y;
        none = a.pending ∙ q;
        going = a.going;
        column = a.column;
      })
      (sides n (sym y)) refl))
      after-star
    where
      sides : (k : ℕ) → k ≡ length now → Sides f k k now []
      sides k e = record {
        first = 0;
        beside_is = e ∙ sym (add-zero (length now));
        few = omega arith;
        faint = tt;
        plain = λ h _. absurd (omega arith);
        last = 0;
        solid_is = e ∙ sym (add-zero (length now));
        fewer = omega arith;
        clear = λ h _. absurd (omega arith);
      }

      fills : (u : State) → u ≡ moved f x n (get_or out t.beside 0) t → u.why ≡ 0 → u.upto ≡ t.value → u.before ≡ t.before
          → (u.mode ≡ mode.low → ⊥) → n < t.value → t.before < n → (t.value - n) % (n - t.before) ≡ 0 → t.value ≤ length out
          → Good f u t.value (repeated_of (t.value - n) t.before n out) rest m bs → Good f t n out (x ∷ rest) m bs
      fills u q g i j o y z c h r =
          back-fill f t x n out rest m bs u q g (subst (λ (k : ℕ). n < k) (sym i) y) o (subst (λ (k : ℕ). k < n) (sym j) z)
          (subst (λ (k : ℕ). (u.upto - n) % (n - k) ≡ 0) (sym j) (subst (λ (k : ℕ). (k - n) % (n - t.before) ≡ 0) (sym i) c))
          (subst (λ (k : ℕ). k ≤ length out) (sym i) h)
          (subst (λ (k : ℕ). Good f u u.upto (repeated_of (u.upto - n) k n out) rest m bs) (sym j)
          (subst (λ (k : ℕ). Good f u k (repeated_of (k - n) t.before n out) rest m bs) (sym i) r))

      after-star : star ≡ true → (k : ℕ) → now ≡ os ++ times (suc k) last → Good f t n out (x ∷ rest) m bs
      after-star q k r =
          let z : length os ≡ n = sym (ap length a.octets) ∙ length-take-le n out a.size in
          let c : length last ≡ length os - t.before = sym (ap length a.above) ∙ length-drop t.before os in
          let j : 1 ≤ length last = some q in
          let y : length now ≡ length os + suc k * length last =
          ap length r ∙ length-append os (times (suc k) last) ∙ ap (λ (i : ℕ). length os + i) (length-times (suc k) last)
          in
          let g : t.before < n = omega arith in
          let s₁ : suc k * length last ≡ length last + k * length last = omega arith in
          let g₁ : n < t.value = omega arith in
          let h : t.value - n ≡ suc k * (n - t.before) =
          let i : n - t.before ≡ length last = omega arith in omega (arith, ap (λ (o : ℕ). suc k * o) i)
          in
          let d₁ : (t.value - n) % (n - t.before) ≡ 0 = ap (λ (i : ℕ). i % (n - t.before)) h ∙ mul-mod_left (suc k) (n - t.before) in
          let r₁ : t.value ≤ length out = omega arith in
          let u : State = states.opened t.value (states.filled t.value t) in
          let o : List ℕ = repeated_of (t.value - n) t.before n out in
          let laid : take t.value o ≡ now ++ [] =
          copies_as t.before n t.value k out g g₁ r₁ h
          ∙ ap (λ (l : List ℕ). l ++ times (suc k) (drop t.before l)) a.octets
          ∙ ap (λ (l : List ℕ). os ++ times (suc k) l) a.above
          ∙ sym r
          ∙ sym (append-nil now)
          in
          let size : length o ≡ length out = repeated-length (t.value - n) t.before n out in
          let next : Good f (wrap u) t.value o rest m bs =
          go u t.value o refl
          (record {
            good = a.good;
            filled = omega arith;
            size = subst (λ (i : ℕ). t.value ≤ i) (sym size) r₁;
            octets = laid;
            here = p;
            none = refl;
            going = a.going;
            column = a.column;
          })
          (sides t.value p) size
          in
          fills (wrap u) (ap wrap (counted-star f n t d (a.pending ∙ q) g₁) ∙ e) (w u ∙ a.good) (v u) (b u) (l u refl) g₁ g d₁ r₁ next
