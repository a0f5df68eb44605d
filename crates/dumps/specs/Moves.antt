-- How a character moves a dump, by cases: to show something, show it of each outcome. Assumes nothing.
use Rattle.std.specs.Prelude.{◌≡◌, Bool, ℕ, ◌+◌, ◌*◌, ◌%◌, ◌≤◌, ◌<◌, Option, Some, None}
use Rattle.std.proofs.Math.Path.{refl, ap}
use Rattle.std.proofs.Common.{sym, ◌∙◌, arith, leb-true, leb-false, ltb-true, ltb-false, eqb-true}
use Rattle.std.proofs.Math.Bool.{true, false}
use Rattle.std.proofs.lemmas.Bool.{eqb-false}
use Rattle.std.proofs.Math.Dec.{ltb, leb, eqb}
use Rattle.hexes.specs.Hexes.{digit}
use Rattle.hexes.specs.Hexes as hexes
use Rattle.hexes.specs.HexesLaws.{by-digit, value-decimal, value-upper, value-lower}
use Rattle.hexes.specs.Spelled as spelled
use Rattle.inputs.specs.Why as why
use Rattle.dumps.specs.declared.Style.{Style}
use Rattle.dumps.specs.State.{State}
use Rattle.dumps.specs.Class.{Class}
use Rattle.dumps.specs.Class as class
use Rattle.dumps.specs.Mode as mode
use Rattle.dumps.specs.States.{class_of, shown_of, but, to, reading, first, prefixed, further, opened, filled, counted, finished, alone, star_at, high, octet_by}
use Rattle.dumps.specs.States.{complete, showing, column, low, closed, columned, cut, past, beside, fenced, broken, text, moved, fronted, within, behind}
use Rattle.dumps.specs.StatesLaws.{counted-short, counted-less, counted-star, counted-other, counted-here}
use Rattle.dumps.specs.StatesLaws.{star-other, star-late, star-twice, star-early, star-stands, cut-blank, cut-asked, cut-stood, cut-none}
use Rattle.dumps.specs.States.{start_by, offset_by, starred_by, gap_by, after_by, one_by, more_by, rest_by}
use Rattle.dumps.specs.Shows.{Blank, space, tab, carriage_return, Shown, printed, control, beyond, dotted}

-- what stands is not nothing
pub some-none : {x : ℕ} → Some x ≡ None → ⊥
some-none e = let z : ◌≡◌ {A = ℕ} 0 1 = cc in absurd (omega arith)

-- ---- characters

pub digit-no-break : (x : ℕ) → digit x ≡ true → x ≡ 10 → ⊥
digit-no-break x d e = by-digit x d (λ h k. absurd (omega arith)) (λ h k. absurd (omega arith)) (λ h k. absurd (omega arith))

pub digit-no-space : (x : ℕ) → digit x ≡ true → x ≡ 32 → ⊥
digit-no-space x d e = by-digit x d (λ h k. absurd (omega arith)) (λ h k. absurd (omega arith)) (λ h k. absurd (omega arith))

pub digit-small : (x : ℕ) → digit x ≡ true → hexes.value x < 16
digit-small x e =
    by-digit x e
    (λ h k. let v = value-decimal x (omega arith) in omega arith)
    (λ h k. let v = value-upper x h (omega arith) in omega arith)
    (λ h k. let v = value-lower x h in omega arith)

pub digit-says : (x : ℕ) → digit x ≡ true → spelled.Digit x (hexes.value x)
digit-says x e =
    by-digit x e
    (λ h k. let v = value-decimal x (omega arith) in spelled.decimal (omega arith) (omega arith))
    (λ h k. let v = value-upper x h (omega arith) in spelled.upper (omega arith) (omega arith) (omega arith))
    (λ h k. let v = value-lower x h in spelled.lower (omega arith) (omega arith) (omega arith))

pub by-class : (x : ℕ) {P : Type 0} → (class_of x ≡ class.Break → x ≡ 10 → P) → (class_of x ≡ class.Blank → Blank x → (x ≡ 10 → ⊥) → P)
    → (class_of x ≡ class.Digit → digit x ≡ true → (x ≡ 10 → ⊥) → P) → (class_of x ≡ class.Other → (x ≡ 10 → ⊥) → (x ≡ 32 → ⊥) → P) → P
unfolding class_of
by-class x {P} a b c d = go (digit x) refl (eqb x 10) refl (eqb x 32) refl (eqb x 9) refl (eqb x 13) refl
  where
    go : (g : Bool) → digit x ≡ g → (h : Bool) → eqb x 10 ≡ h → (i : Bool) → eqb x 32 ≡ i → (j : Bool) → eqb x 9 ≡ j → (k : Bool) → eqb x 13 ≡ k → P
    go true p h q i r j u k v = c (rw p) p (digit-no-break x p)
    go false p true q i r j u k v = a (rw (p, q)) (eqb-true x 10 q)
    go false p false q true r j u k v = b (rw (p, q, r)) (space (eqb-true x 32 r)) (eqb-false x 10 q)
    go false p false q false r true u k v = b (rw (p, q, r, u)) (tab (eqb-true x 9 u)) (eqb-false x 10 q)
    go false p false q false r false u true v = b (rw (p, q, r, u, v)) (carriage_return (eqb-true x 13 v)) (eqb-false x 10 q)
    go false p false q false r false u false v = d (rw (p, q, r, u, v)) (eqb-false x 10 q) (eqb-false x 32 r)

pub shown-says : (f : Style) (b x : ℕ) → x ≡ shown_of f.prefix b → Shown f b x
unfolding shown_of
shown-says f b x e = go (ltb b 32) refl (ltb 126 b) refl f.prefix refl (eqb b 32) refl
  where
    go : (g : Bool) → ltb b 32 ≡ g → (h : Bool) → ltb 126 b ≡ h → (i : Bool) → f.prefix ≡ i → (j : Bool) → eqb b 32 ≡ j → Shown f b x
    go true p h q i r j u = control (ltb-true b 32 p) (rw p at e)
    go false p true q i r j u = beyond (ltb-true 126 b q) (rw (p, q) at e)
    go false p false q true r true u = dotted r (eqb-true b 32 u) (rw (p, q, r, u) at e)
    go false p false q true r false u =
        printed (ltb-false b 32 p) (ltb-false 126 b q) (λ _ z. eqb-false b 32 u z) (rw (p, q, r, u) at e)
    go false p false q false r j u =
        printed (ltb-false b 32 p) (ltb-false 126 b q) (λ t _. let z : true ≡ false = sym t ∙ r in let y : ◌≡◌ {A = ℕ} 0 1 = cc in absurd (omega arith))
        (rw (p, q, r) at e)

-- ---- by where the dump stands

module _ (f : Style) (x n b : ℕ) (s : State) where
  module _ (k : Class) (c : class_of x ≡ k) where
    pub at-start : s.mode ≡ mode.start → start_by k f x s ≡ moved f x n b s
    unfolding moved fronted
    at-start m = ap (λ (k : Class). start_by k f x s) (sym c) ∙ rw m

    pub at_offset : s.mode ≡ mode.offset → offset_by k f x n s ≡ moved f x n b s
    unfolding moved fronted
    at_offset m = ap (λ (k : Class). offset_by k f x n s) (sym c) ∙ rw m

    pub at-star : s.mode ≡ mode.star → starred_by k s ≡ moved f x n b s
    unfolding moved fronted
    at-star m = ap (λ (k : Class). starred_by k s) (sym c) ∙ rw m

    pub at_gap : s.mode ≡ mode.gap → gap_by k f s ≡ moved f x n b s
    unfolding moved fronted
    at_gap m = ap (λ (k : Class). gap_by k f s) (sym c) ∙ rw m

    pub at_after : s.mode ≡ mode.after → after_by k f x s ≡ moved f x n b s
    unfolding moved within
    at_after m = ap (λ (k : Class). after_by k f x s) (sym c) ∙ rw m

    pub at_low : s.mode ≡ mode.low → octet_by k f x n s ≡ moved f x n b s
    unfolding moved within
    at_low m = ap (λ (k : Class). octet_by k f x n s) (sym c) ∙ rw m

    pub at_one : s.mode ≡ mode.one → one_by k f x n s ≡ moved f x n b s
    unfolding moved within
    at_one m = ap (λ (k : Class). one_by k f x n s) (sym c) ∙ rw m

    pub at_more : s.mode ≡ mode.more → more_by k f x n b s ≡ moved f x n b s
    unfolding moved behind
    at_more m = ap (λ (k : Class). more_by k f x n b s) (sym c) ∙ rw m

    pub at-closed : s.mode ≡ mode.closed → rest_by k n s ≡ moved f x n b s
    unfolding moved behind
    at-closed m = ap (λ (k : Class). rest_by k n s) (sym c) ∙ rw m

  pub at-prefix : s.mode ≡ mode.prefix → prefixed x s ≡ moved f x n b s
  unfolding moved fronted
  at-prefix m = rw m

  pub at_high : s.mode ≡ mode.high → low f x n s ≡ moved f x n b s
  unfolding moved within
  at_high m = rw m

  pub at-text : s.mode ≡ mode.text → text f x n b s ≡ moved f x n b s
  unfolding moved behind
  at-text m = rw m

-- ---- outcome by outcome

-- the octet that a second digit completes
abbrev pub whole : ℕ → State → ℕ
whole x s = s.octet % 16 * 16 + hexes.value x

pub first_ended : (f : Style) (x : ℕ) (s : State) → s.ended ≡ true → but why.offset s ≡ first f x s
unfolding first
first_ended f x s e = rw e

module _ (f : Style) (x n b : ℕ) (s : State) {P : Type 0} where
  pub by_first : ((w : ℕ) → (w ≡ 0 → ⊥) → but w s ≡ first f x s → P) → (f.prefix ≡ true → x ≡ 48 → to mode.prefix s ≡ first f x s → P)
      → (f.prefix ≡ false → to mode.offset (reading 1 (hexes.value x) s) ≡ first f x s → P) → P
  unfolding first
  by_first bad c d = go s.ended refl f.prefix refl (eqb x 48) refl
    where
      go : (g : Bool) → s.ended ≡ g → (h : Bool) → f.prefix ≡ h → (i : Bool) → eqb x 48 ≡ i → P
      go true p h q i r = bad why.offset (λ z. absurd (omega arith)) (rw p)
      go false p true q true r = c q (eqb-true x 48 r) (rw (p, q, r))
      go false p true q false r = bad why.form (λ z. absurd (omega arith)) (rw (p, q, r))
      go false p false q i r = d q (rw (p, q))

  pub by-prefixed : (but why.form s ≡ prefixed x s → P) → (x ≡ 120 → to mode.offset (reading 0 0 s) ≡ prefixed x s → P) → P
  unfolding prefixed
  by-prefixed bad c = go (eqb x 120) refl
    where
      go : (g : Bool) → eqb x 120 ≡ g → P
      go true p = c (eqb-true x 120 p) (rw p)
      go false p = bad (rw p)

  pub by-further : ((w : ℕ) → (w ≡ 0 → ⊥) → but w s ≡ further f x s → P)
      → (reading (s.digits + 1) (16 * s.value + hexes.value x) s ≡ further f x s → P) → P
  unfolding further
  by-further bad c = go (leb f.digits s.digits) refl (ltb 65535 s.value) refl
    where
      go : (g : Bool) → leb f.digits s.digits ≡ g → (h : Bool) → ltb 65535 s.value ≡ h → P
      go true p h q = bad why.form (λ z. absurd (omega arith)) (rw p)
      go false p true q = bad why.offset (λ z. absurd (omega arith)) (rw (p, q))
      go false p false q = c (rw (p, q))

  pub by-counted : ((w : ℕ) → (w ≡ 0 → ⊥) → but w s ≡ counted f n s → P)
      → (s.digits ≡ f.digits → s.star ≡ true → n < s.value → opened s.value (filled s.value s) ≡ counted f n s → P)
      → (s.digits ≡ f.digits → s.star ≡ false → s.value ≡ n → opened n s ≡ counted f n s → P) → P
  by-counted bad c d = go (eqb s.digits f.digits) refl s.star refl (leb s.value n) refl (eqb s.value n) refl
    where
      go : (g : Bool) → eqb s.digits f.digits ≡ g → (h : Bool) → s.star ≡ h → (i : Bool) → leb s.value n ≡ i → (j : Bool) → eqb s.value n ≡ j → P
      go false p h q i r j u = bad why.form (λ z. absurd (omega arith)) (counted-short f n s (eqb-false s.digits f.digits p))
      go true p true q true r j u =
          bad why.offset (λ z. absurd (omega arith)) (counted-less f n s (eqb-true s.digits f.digits p) q (leb-true s.value n r))
      go true p true q false r j u =
          let e = eqb-true s.digits f.digits p in
          let l = leb-false s.value n r in
          c e q l (counted-star f n s e q l)
      go true p false q i r true u =
          let e = eqb-true s.digits f.digits p in
          let l = eqb-true s.value n u in
          d e q l (counted-here f n s e q l)
      go true p false q i r false u =
          bad why.offset (λ z. absurd (omega arith)) (counted-other f n s (eqb-true s.digits f.digits p) q (eqb-false s.value n u))

  pub by-alone : (but why.form s ≡ alone f s → P) → (f.ends ≡ true → finished s ≡ alone f s → P) → P
  unfolding alone
  by-alone bad c = go f.ends refl
    where
      go : (g : Bool) → f.ends ≡ g → P
      go true p = c p (rw p)
      go false p = bad (rw p)

  pub by-star : (but why.form s ≡ star_at x s → P)
      → (x ≡ 42 → s.ended ≡ false → s.star ≡ false → s.before < s.line → to mode.star s ≡ star_at x s → P) → P
  by-star bad c = go (eqb x 42) refl s.ended refl s.star refl (leb s.line s.before) refl
    where
      go : (g : Bool) → eqb x 42 ≡ g → (e : Bool) → s.ended ≡ e → (h : Bool) → s.star ≡ h → (i : Bool) → leb s.line s.before ≡ i → P
      go false p e d h q i r = bad (star-other x s (eqb-false x 42 p))
      go true p true d h q i r = bad (star-late x s (eqb-true x 42 p) d)
      go true p false d true q i r = bad (star-twice x s (eqb-true x 42 p) d q)
      go true p false d false q true r = bad (star-early x s (eqb-true x 42 p) d q (leb-true s.line s.before r))
      go true p false d false q false r =
          let l = leb-false s.line s.before r in
          c (eqb-true x 42 p) d q l (star-stands x s (eqb-true x 42 p) d q l)

  pub by-low : (but why.form s ≡ low f x n s → P) → (digit x ≡ true → complete (whole x s) (showing n s) ≡ low f x n s → P)
      → (digit x ≡ true → shown_of f.prefix (whole x s) ≡ 32 → s.beside ≡ n → complete (whole x s) (column (n + 1) s) ≡ low f x n s → P)
      → (digit x ≡ true → shown_of f.prefix (whole x s) ≡ 32 → complete (whole x s) s ≡ low f x n s → P) → P
  unfolding low
  by-low bad c d e = go (digit x) refl (eqb (shown_of f.prefix (whole x s)) 32) refl (eqb s.beside n) refl
    where
      go : (g : Bool) → digit x ≡ g → (h : Bool) → eqb (shown_of f.prefix (whole x s)) 32 ≡ h → (i : Bool) → eqb s.beside n ≡ i → P
      go false p h q i r = bad (rw p)
      go true p false q i r = c p (rw (p, q))
      go true p true q true r = d p (eqb-true (shown_of f.prefix (whole x s)) 32 q) (eqb-true s.beside n r) (rw (p, q, r))
      go true p true q false r = e p (eqb-true (shown_of f.prefix (whole x s)) 32 q) (rw (p, q, r))

  pub by-octet : (but why.form s ≡ octet_by class.Digit f x n s → P)
      → (f.pairs ≡ true → s.second ≡ false → high true x s ≡ octet_by class.Digit f x n s → P) → P
  by-octet bad c = go f.pairs refl s.second refl
    where
      go : (g : Bool) → f.pairs ≡ g → (h : Bool) → s.second ≡ h → P
      go false p h q = bad (rw p)
      go true p true q = bad (rw (p, q))
      go true p false q = c p q (rw (p, q))

  pub by-past : (but why.column s ≡ past f x s → P) → (f.closing ≡ None → x ≡ 32 → s ≡ past f x s → P)
      → (f.closing ≡ Some x → to mode.closed s ≡ past f x s → P) → P
  unfolding past
  by-past bad c d = go f.closing refl (eqb x 32) refl
    where
      close : (y : ℕ) → f.closing ≡ Some y → (i : Bool) → eqb x y ≡ i → P
      close y p true r = d (p ∙ ap (λ (o : ℕ). Some o) (sym (eqb-true x y r))) (rw (p, r))
      close y p false r = bad (rw (p, r))

      go : (g : Option ℕ) → f.closing ≡ g → (h : Bool) → eqb x 32 ≡ h → P
      go None p true q = c p (eqb-true x 32 q) (rw (p, q))
      go None p false q = bad (rw (p, q))
      go (Some y) p h q = close y p (eqb x y) refl

  pub by-beside : (n ≤ s.beside → past f x s ≡ beside f x n b s → P) → (but why.column s ≡ beside f x n b s → P)
      → (s.beside < n → x ≡ shown_of f.prefix b → to mode.text (column (s.beside + 1) s) ≡ beside f x n b s → P) → P
  unfolding beside
  by-beside over bad c = go (leb n s.beside) refl (eqb x (shown_of f.prefix b)) refl
    where
      go : (g : Bool) → leb n s.beside ≡ g → (h : Bool) → eqb x (shown_of f.prefix b) ≡ h → P
      go true p h q = over (leb-true n s.beside p) (rw p)
      go false p true q = c (leb-false n s.beside p) (eqb-true x (shown_of f.prefix b) q) (rw (p, q))
      go false p false q = bad (rw (p, q))

  pub by-fenced : (but why.form s ≡ fenced f x s → P) → (f.opening ≡ Some x → to mode.text (column s.line s) ≡ fenced f x s → P) → P
  unfolding fenced
  by-fenced bad c = go f.opening refl
    where
      opens : (y : ℕ) → f.opening ≡ Some y → (i : Bool) → eqb x y ≡ i → P
      opens y p true r = c (p ∙ ap (λ (o : ℕ). Some o) (sym (eqb-true x y r))) (rw (p, r))
      opens y p false r = bad (rw (p, r))

      go : (g : Option ℕ) → f.opening ≡ g → P
      go None p = bad (rw p)
      go (Some y) p = opens y p (eqb x y) refl

  pub by-broken : (but why.column s ≡ broken f n s → P) → (f.closing ≡ None → s.solid ≤ s.beside → columned n s ≡ broken f n s → P) → P
  unfolding broken
  by-broken bad c = go f.closing refl (ltb s.beside s.solid) refl
    where
      go : (g : Option ℕ) → f.closing ≡ g → (h : Bool) → ltb s.beside s.solid ≡ h → P
      go None p false q = c p (ltb-false s.beside s.solid q) (rw (p, q))
      go None p true q = bad (rw (p, q))
      go (Some y) p h q = bad (rw p)

  pub by-cut : (but why.column s ≡ cut f n s → P) → (s.solid ≤ s.line → closed n s ≡ cut f n s → P)
      → (f.column ≡ false → s.column ≡ false → closed n s ≡ cut f n s → P) → P
  by-cut bad c d = go (leb s.solid s.line) refl f.column refl s.column refl
    where
      go : (g : Bool) → leb s.solid s.line ≡ g → (h : Bool) → f.column ≡ h → (i : Bool) → s.column ≡ i → P
      go true p h q i r = let l = leb-true s.solid s.line p in c l (cut-blank f n s l)
      go false p true q i r = bad (cut-asked f n s (leb-false s.solid s.line p) q)
      go false p false q true r = bad (cut-stood f n s (leb-false s.solid s.line p) q r)
      go false p false q false r = d q r (cut-none f n s (leb-false s.solid s.line p) q r)

  pub by-text : (x ≡ 13 → s ≡ text f x n b s → P) → (x ≡ 10 → broken f n s ≡ text f x n b s → P)
      → ((x ≡ 10 → ⊥) → beside f x n b s ≡ text f x n b s → P) → P
  unfolding text
  by-text c d e = go (eqb x 13) refl (eqb x 10) refl
    where
      go : (g : Bool) → eqb x 13 ≡ g → (h : Bool) → eqb x 10 ≡ h → P
      go true p h q = c (eqb-true x 13 p) (rw p)
      go false p true q = d (eqb-true x 10 q) (rw (p, q))
      go false p false q = e (eqb-false x 10 q) (rw (p, q))

  pub by-blank : (but why.form s ≡ offset_by class.Blank f x n s → P) → (f.colon ≡ false → counted f n s ≡ offset_by class.Blank f x n s → P) → P
  by-blank bad c = go f.colon refl
    where
      go : (g : Bool) → f.colon ≡ g → P
      go true p = bad (rw p)
      go false p = c p (rw p)

  pub by-colon : (but why.form s ≡ offset_by class.Other f x n s → P)
      → (f.colon ≡ true → x ≡ 58 → to mode.gap (counted f n s) ≡ offset_by class.Other f x n s → P) → P
  by-colon bad c = go f.colon refl (eqb x 58) refl
    where
      go : (g : Bool) → f.colon ≡ g → (h : Bool) → eqb x 58 ≡ h → P
      go false p h q = bad (rw p)
      go true p true q = c p (eqb-true x 58 q) (rw (p, q))
      go true p false q = bad (rw (p, q))

  -- the text column begins after two blanks where nothing stands before it
  pub by-opening : (f.opening ≡ None → beside f x n b s ≡ more_by class.Digit f x n b s → P)
      → ((f.opening ≡ None → ⊥) → high false x s ≡ more_by class.Digit f x n b s → P) → P
  by-opening c d = go f.opening refl
    where
      go : (g : Option ℕ) → f.opening ≡ g → P
      go None p = c p (rw p)
      go (Some y) p = d (λ e. absurd (some-none (sym p ∙ e))) (rw p)

  pub by-fence : (f.opening ≡ None → beside f x n b s ≡ more_by class.Other f x n b s → P)
      → ((f.opening ≡ None → ⊥) → fenced f x s ≡ more_by class.Other f x n b s → P) → P
  by-fence c d = go f.opening refl
    where
      go : (g : Option ℕ) → f.opening ≡ g → P
      go None p = c p (rw p)
      go (Some y) p = d (λ e. absurd (some-none (sym p ∙ e))) (rw p)
