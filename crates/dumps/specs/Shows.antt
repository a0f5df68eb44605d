-- What it is for a text to be a dump of octets in a style (docs/COMMAND.md, "Dumps"), line by line and without a reader. Assumes nothing: these
-- are definitions.
use Rattle.std.specs.Prelude.{◌≡◌, Bool, true, false, List, [], ◌∷◌, ◌++◌, ℕ, zero, suc, ◌+◌, ◌*◌, ◌≤◌, ◌<◌, length, Some, None}
use Rattle.octets.specs.Lists.{All}
use Rattle.hexes.specs.Spelled.{Digit}
use Rattle.dumps.specs.declared.Style.{Style}

-- ---- characters

-- a space, a tab or a carriage return
pub data Blank (x : ℕ) : Type 0 where
  space : x ≡ 32 → Blank x
  tab : x ≡ 9 → Blank x
  carriage_return : x ≡ 13 → Blank x

abbrev pub Blanks : List ℕ → Type 0
Blanks l = All Blank l

-- blanks and line breaks
pub data Bare (x : ℕ) : Type 0 where
  blank : Blank x → Bare x
  line_break : x ≡ 10 → Bare x

-- x is what a text column has for the octet b: b itself where it is printed, else a dot; in tcpdump's a blank is a dot too
pub data Shown (f : Style) (b x : ℕ) : Type 0 where
  printed : 32 ≤ b → b ≤ 126 → (f.prefix ≡ true → b ≡ 32 → ⊥) → x ≡ b → Shown f b x
  control : b < 32 → x ≡ 46 → Shown f b x
  beyond : 126 < b → x ≡ 46 → Shown f b x
  dotted : f.prefix ≡ true → b ≡ 32 → x ≡ 46 → Shown f b x

-- octets that the column shows as blanks
abbrev pub Faint : Style → List ℕ → Type 0
Faint f bs = All (λ b. Shown f b 32) bs

-- ---- an offset

-- digits, the most significant first, and their value
pub data Number : List ℕ → ℕ → Type 0 where
  none : Number [] 0
  further : {ds : List ℕ} {v x w : ℕ} → Number ds v → Digit x w → Number (ds ++ (x ∷ [])) (16 * v + w)

-- what stands before the digits: 0x, or nothing
pub data Prefix (f : Style) : List ℕ → Type 0 where
  plain : f.prefix ≡ false → Prefix f []
  hex : f.prefix ≡ true → Prefix f (48 ∷ 120 ∷ [])

-- what stands after them: a colon, or nothing
pub data Mark (f : Style) : List ℕ → Type 0 where
  plain : f.colon ≡ false → Mark f []
  colon : f.colon ≡ true → Mark f (58 ∷ [])

-- the offset v: as many digits as the style has
pub record Offset (f : Style) (v : ℕ) (o : List ℕ) : Type 0 where
  pub front : List ℕ
  pub digits : List ℕ
  pub is : o ≡ front ++ digits
  pub prefix : Prefix f front
  pub number : Number digits v
  pub size : length digits ≡ f.digits

-- ---- octets of a line

-- two digits of the octet b
pub data Pair (x y b : ℕ) : Type 0 where
  pair : {v w : ℕ} → Digit x v → Digit y w → b ≡ v * 16 + w → Pair x y b

-- blanks between groups: one, or more where something stands before the text column
pub record Gap (f : Style) (q : List ℕ) : Type 0 where
  pub blank : Blanks q
  pub some : 1 ≤ length q
  pub one : f.opening ≡ None → length q ≡ 1

-- the text t has the octets cs, in groups; the flag is whether the last is the second of its group
pub data Octets (f : Style) : Bool → List ℕ → List ℕ → Type 0 where
  first : {x y b : ℕ} → Pair x y b → Octets f false (x ∷ y ∷ []) (b ∷ [])
  second : {t cs : List ℕ} {x y b : ℕ} → f.pairs ≡ true → Octets f false t cs → Pair x y b → Octets f true (t ++ (x ∷ y ∷ [])) (cs ++ (b ∷ []))
  next : {g : Bool} {t cs q : List ℕ} {x y b : ℕ} → Octets f g t cs → Gap f q → Pair x y b
      → Octets f false (t ++ (q ++ (x ∷ y ∷ []))) (cs ++ (b ∷ []))

-- ---- its text column

-- The text shows the octets, and what closes the column or nothing does. Where nothing does, blanks at its end may be missing, or more.
pub data Text (f : Style) : List ℕ → List ℕ → Type 0 where
  shows : {b x : ℕ} {bs t : List ℕ} → Shown f b x → Text f bs t → Text f (b ∷ bs) (x ∷ t)
  returned : {bs t : List ℕ} → Text f bs t → Text f bs (13 ∷ t)
  ends : {bs : List ℕ} → f.closing ≡ None → Faint f bs → Text f bs []
  blank : {t : List ℕ} → f.closing ≡ None → Text f [] t → Text f [] (32 ∷ t)
  closes : {c : ℕ} {q : List ℕ} → f.closing ≡ Some c → Blanks q → Text f [] (c ∷ q)

-- a column that something stands before; or that nothing does, where blanks at its front cannot be told from those before it
pub data Column (f : Style) : List ℕ → List ℕ → Type 0 where
  fenced : {o : ℕ} {cs t : List ℕ} → f.opening ≡ Some o → Text f cs t → Column f cs (o ∷ t)
  free : (ds : List ℕ) {bs t : List ℕ} → f.opening ≡ None → Faint f ds → Text f bs t → Column f (ds ++ bs) t

-- The line of the octets cs may be without a column: they are all shown as blanks; or the style asks for no column, and none has stood before.
pub data Without (f : Style) (cs : List ℕ) : Bool → Type 0 where
  faint : {stood : Bool} → Faint f cs → Without f cs stood
  none : f.column ≡ false → Without f cs false

-- What follows the octets of a line: blanks, or two at least and a column. The flags are whether a column has stood before the line, and after it.
-- Where nothing stands before a column, blanks after octets that are all shown as blanks may count as one or not.
pub data End (f : Style) (cs : List ℕ) : Bool → Bool → List ℕ → Type 0 where
  bare : {stood : Bool} {q : List ℕ} → Blanks q → Without f cs stood → End f cs stood stood q
  beside : {stood : Bool} (q : List ℕ) {t : List ℕ} → Blanks q → 2 ≤ length q → Column f cs t → End f cs stood true (q ++ t)

-- ---- lines

abbrev pub times : ℕ → List ℕ → List ℕ
times zero l = []
times (suc k) l = l ++ times k l

-- the octets before a line are those before the line above it, and after a star copies of the last line that was written
pub data Before : Bool → List ℕ → List ℕ → List ℕ → Type 0 where
  plain : {os last : List ℕ} → Before false os last os
  stars : {os last : List ℕ} (k : ℕ) → Before true os last (os ++ times (suc k) last)

-- a line's front: blanks, the number of octets before it, and blanks
pub record Front (f : Style) (star : Bool) (os last now h : List ℕ) : Type 0 where
  pub first : List ℕ
  pub offset : List ℕ
  pub mark : List ℕ
  pub then : List ℕ
  pub is : h ≡ first ++ (offset ++ (mark ++ then))
  pub blanks : Blanks first
  pub before : Before star os last now
  pub counts : Offset f (length now) offset
  pub marked : Mark f mark
  pub apart : Blanks then

-- an offset that stands alone
pub data Alone (f : Style) (star : Bool) (os last now : List ℕ) : List ℕ → Type 0 where
  short : (p : List ℕ) {o : List ℕ} → Blanks p → Before star os last now → Offset f (length now) o → Alone f star os last now (p ++ o)
  whole : {h : List ℕ} → Front f star os last now h → Alone f star os last now h

-- After the octets os, of which `last` are the last line, the lines t show bs in all. The flags are whether a column has stood in a line before, and
-- whether a star stands just before. An offset that stands alone ends the dump, and stands only where the style has such an end.
pub data Lines (f : Style) : Bool → Bool → List ℕ → List ℕ → List ℕ → List ℕ → Type 0 where
  done : {stood : Bool} {os last : List ℕ} → Lines f stood false os last [] os
  empty : {stood star : Bool} {os last : List ℕ} (p : List ℕ) {t bs : List ℕ} → Blanks p → Lines f stood star os last t bs
      → Lines f stood star os last (p ++ (10 ∷ t)) bs
  star : {stood : Bool} {os last : List ℕ} (p q : List ℕ) {t bs : List ℕ} → Blanks p → Blanks q → 1 ≤ length last → Lines f stood true os last t bs
      → Lines f stood false os last (p ++ (42 ∷ (q ++ (10 ∷ t)))) bs
  line : {stood stands star g : Bool} {os last now h u cs e t bs : List ℕ} → (front : Front f star os last now h) → 1 ≤ length front.then
      → Octets f g u cs → End f cs stood stands e → Lines f stands false (now ++ cs) cs t bs
      → Lines f stood star os last (h ++ (u ++ (e ++ (10 ∷ t)))) bs
  alone : {stood star : Bool} {os last now h : List ℕ} (t : List ℕ) → f.ends ≡ true → Alone f star os last now h → All Bare t
      → Lines f stood star os last (h ++ (10 ∷ t)) now

-- the text is a dump of the octets; a line break ends it
abbrev pub Shows : Style → List ℕ → List ℕ → Type 0
Shows f text bs = Lines f false false [] [] (text ++ (10 ∷ [])) bs

-- ---- styles

-- no character that stands in an offset, an octet or between them
pub record Apart (x : ℕ) : Type 0 where
  pub digit : (v : ℕ) → Digit x v → ⊥
  pub blank : Blank x → ⊥
  pub line_break : x ≡ 10 → ⊥

-- a style that can be told: an offset has a digit at least, and what stands before a text column and after it is none of theirs
pub record Told (f : Style) : Type 0 where
  pub digits : 1 ≤ f.digits
  pub opening : (x : ℕ) → f.opening ≡ Some x → Apart x
  pub closing : (x : ℕ) → f.closing ≡ Some x → Apart x
