-- What the two tools write for octets is a dump of them, and is read as them. Assumes nothing.
use Rattle.std.specs.Prelude.{◌≡◌, refl, Bool, cond, leb, eqb, replicate, Some}
use Rattle.std.proofs.Common.{sym, ◌∙◌, pow-suc, arith, eqb-true, leb-true, leb-false, le-ltb, lt-ltb, ne_eqb, take-append-drop}
use Rattle.std.proofs.Math.Path.{ap, subst}
use Rattle.std.proofs.Math.Bool.{true, false}
use mathlib.Core.List.{List, [], ◌∷◌, ◌++◌, map, append-nil, append_assoc}
use Prim.Native.Nat.{ℕ, zero, suc, ◌+◌, ◌-◌, ◌*◌, ◌/◌, ◌%◌, ◌^◌, ◌≤◌, ◌<◌, min}
use Rattle.std.proofs.Math.ListN.{length, take, drop, length-append, length-take, length-drop}
use Rattle.std.proofs.lemmas.List.{length-replicate}
use Rattle.std.proofs.Math.Seq.{append_snoc}
use Rattle.octets.specs.ListsLaws.{all_take, all_drop}
use Rattle.octets.specs.Numbers.{Bytes}
use Rattle.hexes.specs.Hexes.{digit_of, two}
use Rattle.hexes.specs.Spelled.{Digit, decimal, upper, lower}
use Rattle.inputs.specs.Read.{Octets}
use Rattle.dumps.specs.declared.Style.{Style}
use Rattle.dumps.specs.States.{shown_of}
use Rattle.dumps.specs.Dumps.{read_of}
use Rattle.dumps.specs.Shows as shows
use Rattle.dumps.specs.Shows.{Blank, Blanks, Number, Mark, Offset, Pair, pair, Gap, Text, Column, End, Front, Lines, Shows, Apart, Told}
use Rattle.dumps.specs.Moves.{some-none, shown-says}
use Rattle.dumps.specs.Printed.{Layout, xxd, hexdump, digits_of, octets_of, rest_of, line_of, lines_of, xxd_of, hexdump_of}
use Rattle.dumps.specs.Exactly.{shows-read}

-- ---- digits

digit-of : (v : ℕ) → v < 16 → Digit (digit_of v) v
unfolding digit_of
digit-of v h = go (leb 10 v) refl
  where
    go : (b : Bool) → leb 10 v ≡ b → Digit (digit_of v) v
    go true e =
        let l : 10 ≤ v = leb-true 10 v e in
        lower l h (simp (le-ltb v 10 l))
    go false e =
        let l : v < 10 = leb-false 10 v e in
        decimal l (simp (lt-ltb v 10 l))

number_of : (w v : ℕ) → v < 16 ^ w → Number (digits_of w v) v
unfolding digits_of
number_of zero v h = subst (Number []) (omega arith) shows.none
number_of (suc w) v h =
    let k : v / 16 < 16 ^ w = omega (arith, pow-suc 16 w) in
    subst (Number (digits_of w (v / 16) ++ (digit_of (v % 16) ∷ []))) (omega arith)
    (shows.further (number_of w (v / 16) k) (digit-of (v % 16) (omega arith)))

digits-length : (w v : ℕ) → length (digits_of w v) ≡ w
unfolding digits_of
digits-length zero v = refl
digits-length (suc w) v = length-append (digits_of w (v / 16)) (digit_of (v % 16) ∷ []) ∙ ap (λ (k : ℕ). k + 1) (digits-length w (v / 16)) ∙ omega arith

pair_of : (b : ℕ) → b < 256 → Pair (digit_of (b / 16)) (digit_of (b % 16)) b
pair_of b h = pair (digit-of (b / 16) (omega arith)) (digit-of (b % 16) (omega arith)) (omega arith)

blanks-of : (n : ℕ) → Blanks (replicate n 32)
blanks-of zero = tt
blanks-of (suc n) = (shows.space refl, blanks-of n)

-- ---- a layout that can be read: what it has beside its style

record Proper (l : Layout) (flag : ℕ → Bool) : Type 0 where
  pub digits : l.style.digits ≡ 8
  pub prefix : l.style.prefix ≡ false
  pub marked : Mark l.style l.mark
  pub apart : Blanks l.then
  pub some : 1 ≤ length l.then
  pub first : flag 0 ≡ false
  pub joins : (i : ℕ) {t cs : List ℕ} {x y b : ℕ} → shows.Octets l.style (flag i) t cs → Pair x y b
      → shows.Octets l.style (flag (i + 1)) (t ++ (l.gap (i + 1) ++ (x ∷ y ∷ []))) (cs ++ (b ∷ []))
  pub shown : (cs : List ℕ) → Column l.style cs (l.fence ++ (map (shown_of l.style.prefix) cs ++ l.fence))

module _ (l : Layout) (flag : ℕ → Bool) (p : Proper l flag) where
  octets-of : (cs : List ℕ) (i : ℕ) {t ds : List ℕ} → shows.Octets l.style (flag i) t ds → Bytes cs
      → (g : Bool) × shows.Octets l.style g (t ++ octets_of l.gap (i + 1) cs) (ds ++ cs)
  unfolding octets_of
  octets-of [] i {t} {ds} o b = (
    flag i,
    subst (λ (u : List ℕ). shows.Octets l.style (flag i) u (ds ++ [])) (sym (append-nil t))
        (subst (shows.Octets l.style (flag i) t) (sym (append-nil ds)) o),
  )
  octets-of (c ∷ cs) i {t} {ds} o b =
      let r = octets-of cs (i + 1) (p.joins i o (pair_of c b.0)) b.1 in (
        r.0,
        subst (λ (u : List ℕ). shows.Octets l.style r.0 u (ds ++ (c ∷ cs)))
            (append_assoc t (l.gap (i + 1) ++ two c) (octets_of l.gap (i + 1 + 1) cs)
            ∙ ap (λ (u : List ℕ). t ++ u) (append_assoc (l.gap (i + 1)) (two c) (octets_of l.gap (i + 1 + 1) cs)))
            (subst (shows.Octets l.style r.0 (t ++ (l.gap (i + 1) ++ two c) ++ octets_of l.gap (i + 1 + 1) cs)) (append_snoc ds c cs) r.1),
      )

  front_of : (os last : List ℕ) → length os < 65536 → Front l.style false os last os (digits_of 8 (length os) ++ (l.mark ++ l.then))
  front_of os last h = record {
    first = [];
    offset = digits_of 8 (length os);
    mark = l.mark;
    then = l.then;
    is = refl;
    blanks = tt;
    before = shows.plain;
    counts = record {
      front = [];
      digits = digits_of 8 (length os);
      is = refl;
      prefix = shows.plain p.prefix;
      number = number_of 8 (length os) (omega arith);
      size = digits-length 8 (length os) ∙ sym p.digits;
    };
    marked = p.marked;
    apart = p.apart;
  }

  end_of : (stood : Bool) (n : ℕ) (cs : List ℕ) → End l.style cs stood true (rest_of l n cs)
  end_of stood n cs =
      let k : ℕ = 2 + (l.wide - n) in
      shows.beside (replicate k 32) (blanks-of k) (omega (arith, length-replicate {A = ℕ} k 32)) (p.shown cs)

  lines-of : (k : ℕ) (stood : Bool) (os last bs rest all : List ℕ) → 16 * k ≤ length bs + 15 → length bs ≤ 16 * k → Bytes bs → length os + length bs < 65536
      → ((stands : Bool) (last : List ℕ) → Lines l.style stands false (os ++ bs) last rest all)
      → Lines l.style stood false os last (lines_of l k (length os) bs ++ rest) all
  unfolding lines_of front_of
  lines-of zero stood os last [] rest all h j b m go = subst (λ (o : List ℕ). Lines l.style stood false o last rest all) (append-nil os) (go stood last)
  lines-of zero stood os last (c ∷ cs) rest all h j b m go = absurd (omega arith)
  lines-of (suc k) stood os last [] rest all h j b m go = absurd (omega arith)
  lines-of (suc k) stood os last (c ∷ cs) rest all h j b m go =
      let now : List ℕ = c ∷ take 15 cs in
      let a : length (take 15 cs) ≡ min 15 (length cs) = length-take 15 cs in
      let d : length (drop 15 cs) ≡ length cs - 15 = length-drop 15 cs in
      let e : length (os ++ now) ≡ length os + length now = length-append os now in
      let s : os ++ now ++ drop 15 cs ≡ os ++ (c ∷ cs) = append_assoc os now (drop 15 cs) ∙ ap (λ (o : List ℕ). os ++ (c ∷ o)) (take-append-drop 15 cs) in
      let o = octets-of (take 15 cs) 0 (subst (λ (g : Bool). shows.Octets l.style g (two c) (c ∷ [])) (sym p.first) (shows.first (pair_of c b.0)))
      (all_take _ 15 cs b.1) in
      let r : Lines l.style true false (os ++ now) now (lines_of l k (length (os ++ now)) (drop 15 cs) ++ rest) all =
      lines-of k true (os ++ now) now (drop 15 cs) rest all (omega arith) (omega arith) (all_drop _ 15 cs b.1) (omega arith)
      (λ stands last. subst (λ (o : List ℕ). Lines l.style stands false o last rest all) (sym s) (go stands last))
      in
      let u : List ℕ = two c ++ octets_of l.gap 1 (take 15 cs) in
      let v : List ℕ = lines_of l k (length os + length now) (drop 15 cs) in
      let h₁ : List ℕ = digits_of 8 (length os) ++ (l.mark ++ l.then) in
      subst (λ (t : List ℕ). Lines l.style stood false os last t all)
      (sym
      (append_assoc (line_of l (length os) c (take 15 cs)) (10 ∷ v) rest
      ∙ append_assoc h₁ (u ++ rest_of l (length u) now) (10 ∷ (v ++ rest))
      ∙ ap (λ (t : List ℕ). h₁ ++ t) (append_assoc u (rest_of l (length u) now) (10 ∷ (v ++ rest)))))
      (shows.line (front_of os last (omega arith)) p.some o.1 (end_of stood (length u) now)
      (subst (λ (i : ℕ). Lines l.style true false (os ++ now) now (lines_of l k i (drop 15 cs) ++ rest) all) e r))

-- ---- the two tools

shown-each : (f : Style) (cs : List ℕ) (t : List ℕ) → Text f [] t → Text f cs (map (shown_of f.prefix) cs ++ t)
shown-each f [] t e = e
shown-each f (c ∷ cs) t e = shows.shows (shown-says f c (shown_of f.prefix c) refl) (shown-each f cs t e)

one-space : (f : Style) → Gap f (32 ∷ [])
one-space f = record { blank = (shows.space refl, tt); some = omega arith; one = λ _. refl }

xxd-flag : ℕ → Bool
xxd-flag i = eqb (i % 2) 1

xxd-proper : Proper xxd xxd-flag
unfolding xxd-flag
xxd-proper = record {
  digits = refl;
  prefix = refl;
  marked = shows.colon refl;
  apart = (shows.space refl, tt);
  some = omega arith;
  first = refl;
  joins = joins;
  shown = λ cs. shows.free [] refl tt (shown-each xxd.style cs [] (shows.ends refl tt));
}
  where
    joins : (i : ℕ) {t cs : List ℕ} {x y b : ℕ} → shows.Octets xxd.style (eqb (i % 2) 1) t cs → Pair x y b
        → shows.Octets xxd.style (eqb ((i + 1) % 2) 1) (t ++ (cond (eqb ((i + 1) % 2) 1) [] (32 ∷ []) ++ (x ∷ y ∷ []))) (cs ++ (b ∷ []))
    joins i {t} {cs} {x} {y} {b} o q = go (eqb ((i + 1) % 2) 1) refl
      where
        go : (g : Bool) → eqb ((i + 1) % 2) 1 ≡ g
            → shows.Octets xxd.style (eqb ((i + 1) % 2) 1) (t ++ (cond (eqb ((i + 1) % 2) 1) [] (32 ∷ []) ++ (x ∷ y ∷ []))) (cs ++ (b ∷ []))
        go true e =
            let k = eqb-true ((i + 1) % 2) 1 e in
            let z : eqb (i % 2) 1 ≡ false = ne_eqb (i % 2) 1 (λ w. absurd (omega arith)) in
            rw e (shows.second refl (subst (λ (g : Bool). shows.Octets xxd.style g t cs) z o) q)
        go false e = rw e (shows.next o (one-space xxd.style) q)

xxd-told : Told xxd.style
xxd-told = record { digits = omega arith; opening = λ x h. absurd (some-none (sym h)); closing = λ x h. absurd (some-none (sym h)) }

hexdump-flag : ℕ → Bool
hexdump-flag i = false

bar : Apart 124
bar = record {
  digit = no_digit;
  blank = no_blank;
  line_break = λ e. absurd (omega arith);
}
  where
    no_digit : (v : ℕ) → Digit 124 v → ⊥
    no_digit v (decimal h e) = absurd (omega arith)
    no_digit v (upper h k e) = absurd (omega arith)
    no_digit v (lower h k e) = absurd (omega arith)

    no_blank : Blank 124 → ⊥
    no_blank (shows.space e) = absurd (omega arith)
    no_blank (shows.tab e) = absurd (omega arith)
    no_blank (shows.carriage_return e) = absurd (omega arith)

hexdump-told : Told hexdump.style
hexdump-told = record { digits = omega arith; opening = bars; closing = bars }
  where
    bars : (x : ℕ) → Some 124 ≡ Some x → Apart x
    bars x e = let q : 124 ≡ x = cc in subst Apart q bar

hexdump-proper : Proper hexdump hexdump-flag
unfolding hexdump-flag
hexdump-proper = record {
  digits = refl;
  prefix = refl;
  marked = shows.plain refl;
  apart = (shows.space refl, (shows.space refl, tt));
  some = omega arith;
  first = refl;
  joins = joins;
  shown = λ cs. shows.fenced refl (shown-each hexdump.style cs (124 ∷ []) (shows.closes refl tt));
}
  where
    joins : (i : ℕ) {t cs : List ℕ} {x y b : ℕ} → shows.Octets hexdump.style false t cs → Pair x y b
        → shows.Octets hexdump.style false (t ++ (cond (eqb (i + 1) 8) (32 ∷ 32 ∷ []) (32 ∷ []) ++ (x ∷ y ∷ []))) (cs ++ (b ∷ []))
    joins i {t} {cs} {x} {y} {b} o q = go (eqb (i + 1) 8) refl
      where
        go : (g : Bool) → eqb (i + 1) 8 ≡ g
            → shows.Octets hexdump.style false (t ++ (cond (eqb (i + 1) 8) (32 ∷ 32 ∷ []) (32 ∷ []) ++ (x ∷ y ∷ []))) (cs ++ (b ∷ []))
        go true e =
            let g : Gap hexdump.style (32 ∷ 32 ∷ []) = record {
              blank = (shows.space refl, (shows.space refl, tt));
              some = omega arith;
              one = λ h. absurd (some-none h);
            } in
            rw e (shows.next o g q)
        go false e = rw e (shows.next o (one-space hexdump.style) q)

-- ---- the theorems

pub xxd-shows : (bs : List ℕ) → Bytes bs → length bs < 65536 → Shows xxd.style (xxd_of bs) bs
xxd-shows bs b h =
    lines-of xxd xxd-flag xxd-proper ((length bs + 15) / 16) false [] [] bs (10 ∷ []) bs (omega arith) (omega arith) b (omega arith)
    (λ stands last. shows.empty [] tt shows.done)

pub xxd-read : (bs out : List ℕ) → Bytes bs → length bs ≤ length out → length out < 65536
    → ((read_of xxd.style (xxd_of bs) out).read ≡ Octets (length bs)) × (take (length bs) (read_of xxd.style (xxd_of bs) out).out ≡ bs)
xxd-read bs out b h k = shows-read xxd.style xxd-told (xxd_of bs) out bs k (xxd-shows bs b (omega arith)) h

pub hexdump-shows : (bs : List ℕ) → Bytes bs → length bs < 65536 → Shows hexdump.style (hexdump_of bs) bs
hexdump-shows [] b h = shows.empty [] tt shows.done
hexdump-shows (c ∷ cs) b h =
    let bs : List ℕ = c ∷ cs in
    let k : ℕ = (length bs + 15) / 16 in
    subst (λ (t : List ℕ). Lines hexdump.style false false [] [] t bs)
    (sym
    (append_assoc (lines_of hexdump k 0 bs) (digits_of 8 (length bs) ++ (10 ∷ [])) (10 ∷ [])
    ∙ ap (λ (t : List ℕ). lines_of hexdump k 0 bs ++ t) (append_assoc (digits_of 8 (length bs)) (10 ∷ []) (10 ∷ []))))
    (lines-of hexdump hexdump-flag hexdump-proper k false [] [] bs (digits_of 8 (length bs) ++ (10 ∷ 10 ∷ [])) bs (omega arith) (omega arith) b (omega arith)
    (λ stands last. shows.alone (10 ∷ []) refl (shows.short [] tt shows.plain counts) (shows.line_break refl, tt)))
  where
    counts : Offset hexdump.style (length (c ∷ cs)) (digits_of 8 (length (c ∷ cs)))
    counts = record {
      front = [];
      digits = digits_of 8 (length (c ∷ cs));
      is = refl;
      prefix = shows.plain refl;
      number = number_of 8 (length (c ∷ cs)) (omega arith);
      size = digits-length 8 (length (c ∷ cs));
    }

pub hexdump-read : (bs out : List ℕ) → Bytes bs → length bs ≤ length out → length out < 65536
    → ((read_of hexdump.style (hexdump_of bs) out).read ≡ Octets (length bs)) × (take (length bs) (read_of hexdump.style (hexdump_of bs) out).out ≡ bs)
hexdump-read bs out b h k = shows-read hexdump.style hexdump-told (hexdump_of bs) out bs k (hexdump-shows bs b (omega arith)) h
