-- Where reading stands in a line, and what is known there: the characters of the line so far, and the octets. Assumes nothing.
use Rattle.std.specs.Prelude.{◌≡◌, Bool, true, false, List, [], ◌∷◌, ◌++◌, ℕ, ◌+◌, ◌*◌, ◌%◌, ◌≤◌, length, take, drop}
use Rattle.octets.specs.Lists.{All}
use Rattle.hexes.specs.Spelled.{Digit}
use Rattle.dumps.specs.declared.Style.{Style}
use Rattle.dumps.specs.State.{State}
use Rattle.dumps.specs.Mode as mode
use Rattle.dumps.specs.Shows.{Blank, Blanks, Bare, Faint, Number, Prefix, Octets, Text, End, Front, Lines}

-- before a line's octets: by the fields of the state; `stood` is whether a column has stood in a line before
pub record Fronted (stood : Bool) (why upto line before : ℕ) (starred ended columned : Bool) (n : ℕ) (out os last : List ℕ) (star : Bool) : Type 0 where
  pub good : why ≡ 0
  pub filled : upto ≤ n
  pub size : n ≤ length out
  pub octets : take n out ≡ os
  pub here : line ≡ n
  pub above : drop before os ≡ last
  pub pending : starred ≡ star
  pub going : ended ≡ false
  pub column : columned ≡ stood

abbrev pub FrontOf : Bool → State → ℕ → List ℕ → List ℕ → List ℕ → Bool → Type 0
FrontOf stood s n out os last star = Fronted stood s.why s.upto s.line s.before s.star s.ended s.column n out os last star

-- in a line: after the octets `now` before it, its octets cs
pub record Lined (f : Style) (stood : Bool) (why upto line solid : ℕ) (starred ended columned : Bool) (n : ℕ) (out now cs : List ℕ) : Type 0 where
  pub good : why ≡ 0
  pub filled : upto ≤ n
  pub size : n ≤ length out
  pub octets : take n out ≡ now ++ cs
  pub here : line ≡ length now
  pub none : starred ≡ false
  pub going : ended ≡ false
  pub column : columned ≡ stood
  pub shown : ℕ
  pub to : solid ≡ length now + shown
  pub few : shown ≤ length cs
  pub faint : Faint f (drop shown cs)

abbrev pub LineOf : Style → Bool → State → ℕ → List ℕ → List ℕ → List ℕ → Type 0
LineOf f stood s n out now cs = Lined f stood s.why s.upto s.line s.solid s.star s.ended s.column n out now cs

-- the octet that the column shows next: those before it in the line are shown as blanks
pub record Aside (f : Style) (beside : ℕ) (now cs : List ℕ) : Type 0 where
  pub index : ℕ
  pub is : beside ≡ length now + index
  pub few : index ≤ length cs
  pub faint : Faint f (take index cs)

-- a line with octets: its front and the text of its octets
pub record Begun (f : Style) (stood : Bool) (s : State) (n : ℕ) (out os last : List ℕ) (star : Bool) : Type 0 where
  pub now : List ℕ
  pub cs : List ℕ
  pub h : List ℕ
  pub u : List ℕ
  pub g : Bool
  pub lined : LineOf f stood s n out now cs
  pub front : Front f star os last now h
  pub some : 1 ≤ length front.then
  pub octs : Octets f g u cs

-- `pre` are the characters of the line so far; before it stood the octets os, of which `last` are a line, and a star or none
pub data Place (f : Style) (stood : Bool) (s : State) (n : ℕ) (out pre os last : List ℕ) (star : Bool) : Type 0 where
  start : s.mode ≡ mode.start → FrontOf stood s n out os last star → Blanks pre → Place f stood s n out pre os last star
  prefix : s.mode ≡ mode.prefix → FrontOf stood s n out os last star → f.prefix ≡ true → (p : List ℕ) → Blanks p → pre ≡ p ++ (48 ∷ [])
      → Place f stood s n out pre os last star
  offset : s.mode ≡ mode.offset → FrontOf stood s n out os last star → (p u ds : List ℕ) → Blanks p → Prefix f u → Number ds s.value
      → length ds ≡ s.digits → pre ≡ p ++ (u ++ ds) → Place f stood s n out pre os last star
  stars : s.mode ≡ mode.star → FrontOf stood s n out os last star → star ≡ false → 1 ≤ length last → (p q : List ℕ) → Blanks p → Blanks q
      → pre ≡ p ++ (42 ∷ q) → Place f stood s n out pre os last star
  gap : s.mode ≡ mode.gap → (now : List ℕ) → LineOf f stood s n out now [] → Aside f s.beside now [] → Front f star os last now pre
      → Place f stood s n out pre os last star
  after : s.mode ≡ mode.after → (now : List ℕ) → LineOf f stood s n out now [] → Aside f s.beside now [] → (h : Front f star os last now pre)
      → 1 ≤ length h.then → Place f stood s n out pre os last star
  high : s.mode ≡ mode.high → (now cs h u : List ℕ) → LineOf f stood s n out now cs → Aside f s.beside now cs → (w : Front f star os last now h)
      → 1 ≤ length w.then → ((y v : ℕ) → Digit y v → Octets f s.second (u ++ (y ∷ [])) (cs ++ ((s.octet % 16 * 16 + v) ∷ [])))
      → pre ≡ h ++ u → Place f stood s n out pre os last star
  low : s.mode ≡ mode.low → (b : Begun f stood s n out os last star) → b.g ≡ s.second → Aside f s.beside b.now b.cs → pre ≡ b.h ++ b.u
      → Place f stood s n out pre os last star
  one : s.mode ≡ mode.one → (b : Begun f stood s n out os last star) → Aside f s.beside b.now b.cs → (z : ℕ) → Blank z
      → pre ≡ b.h ++ (b.u ++ (z ∷ [])) → Place f stood s n out pre os last star
  more : s.mode ≡ mode.more → (b : Begun f stood s n out os last star) → Aside f s.beside b.now b.cs → (q : List ℕ) → Blanks q → 2 ≤ length q
      → pre ≡ b.h ++ (b.u ++ q) → Place f stood s n out pre os last star
  text : s.mode ≡ mode.text → (b : Begun f stood s n out os last star) → (k : ℕ) → s.beside ≡ length b.now + k → k ≤ length b.cs → (c : List ℕ)
      → ((t : List ℕ) → Text f (drop k b.cs) t → End f b.cs stood true (c ++ t)) → pre ≡ b.h ++ (b.u ++ c) → Place f stood s n out pre os last star
  closed : s.mode ≡ mode.closed → (b : Begun f stood s n out os last star) → (c : List ℕ) → ((t : List ℕ) → Blanks t → End f b.cs stood true (c ++ t))
      → pre ≡ b.h ++ (b.u ++ c) → Place f stood s n out pre os last star
  ended : s.mode ≡ mode.start → s.why ≡ 0 → s.upto ≤ n → s.ended ≡ true → s.star ≡ false
      → ((t : List ℕ) → All Bare t → Lines f stood star os last (pre ++ t) (take n out)) → Place f stood s n out pre os last star

-- where a text may end: at a line's front
abbrev pub Rests : {f : Style} {stood : Bool} {s : State} {n : ℕ} {out pre os last : List ℕ} {star : Bool} → Place f stood s n out pre os last star → Type 0
Rests {pre = pre} (start _ _ _) = pre ≡ []
Rests (prefix _ _ _ _ _ _) = ⊥
Rests (offset _ _ _ _ _ _ _ _ _ _) = ⊥
Rests (stars _ _ _ _ _ _ _ _ _) = ⊥
Rests (gap _ _ _ _ _) = ⊥
Rests (after _ _ _ _ _ _) = ⊥
Rests (high _ _ _ _ _ _ _ _ _ _ _) = ⊥
Rests (low _ _ _ _ _) = ⊥
Rests (one _ _ _ _ _ _) = ⊥
Rests (more _ _ _ _ _ _ _) = ⊥
Rests (text _ _ _ _ _ _ _ _) = ⊥
Rests (closed _ _ _ _ _) = ⊥
Rests (ended _ _ _ _ _ _) = Unit
