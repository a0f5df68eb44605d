-- What the blocks of an area yield, and what reading answers, is what `Answers` says and nothing else (RULES D2). Assumes nothing.
use Rattle.std.specs.Prelude.{◌≡◌, refl, Bool, true, false, cond, ◌↔◌, List, [], ◌∷◌, map, ℕ, ◌≤◌, ◌<◌, ltb, length, Option, Some, None}
use Rattle.std.proofs.Common.{sym, ap, ap₂, subst, ◌∙◌, arith, lt-ltb, le-ltb, ltb-true, ltb-false}
use Rattle.octets.specs.Numbers.{Octet, Bytes}
use Rattle.octets.specs.Lists.{All, flat}
use Rattle.octets.specs.ListsLaws.{all-flat, all_map}
use Rattle.numbers.specs.Refusal as refusal
use Rattle.numbers.specs.Limit as limit
use Rattle.carriers.specs.declared.Carrier.{Carrier}
use Rattle.carriers.specs.declared.Carrier.TheVariants.{Dhcp4}
use Rattle.carriers.specs.declared.Form.{Form}
use Rattle.carriers.specs.declared.Form.TheVariants.{Wire, Padded, Text}
use Rattle.carriers.specs.Carriers.{chosen_of, number_of, form_of}
use Rattle.carriers.proofs.CarriersLaws.{by-joined, padded-router, chosen-number, number-chosen, chosen-unknown}
use Rattle.order.specs.OrderLaws.{sort_sorted, sort-stable, sort-only, sort-length}
use Rattle.frames.specs.Frame.{Framed, framed, frame}
use Rattle.frames.specs.Area.{joined, blocks_of, Area}
use Rattle.frames.specs.Frame as framing
use Rattle.frames.proofs.AreaLaws.{frame-exactly, fault-exactly}
use Rattle.frames.specs.BodyLaws.{bodies-bytes, bodies-units}
use Rattle.blocks.specs.Block.{Fields, PossibleBy, Possible}
use Rattle.sheets.specs.Sheets.{sheet_of}
use Rattle.reading.specs.declared.Reading.{Reading}
use Rattle.reading.specs.Reading.{yield_of, in_order, settle, read_yields, read_framed, read_of}
use Rattle.reading.specs.Result.{Yield, arrivals, Answer, refuse, done, Reads}
use Rattle.reading.specs.AnswerLaws.{read-unknown, read-long, read_known, reads_as}
use Rattle.exactly.specs.Answers.{BlocksAre, none, more, Arranged, ReadAs, gives, Answers, no_carrier, too_long, unframed, too_many, no_room, is_done}
use Rattle.exactly.proofs.BlockLaws.{block-is}

-- ---- the blocks of an area

-- what holds of each body, and in carrier 1 of their data joined, holds of each block
each-block : (P : Carrier → List ℕ → Type 0) → ((bs : List (List ℕ)) → All (P Dhcp4) bs → P Dhcp4 (flat bs))
    → (c : Carrier) (bs : List (List ℕ)) → All (P c) bs → All (P c) (blocks_of c bs)
each-block P all =
    by-joined (λ c. (bs : List (List ℕ)) → All (P c) bs → All (P c) (blocks_of c bs)) whole
    (λ c j bs h. rw j h)
  where
    whole : (bs : List (List ℕ)) → All (P Dhcp4) bs → All (P Dhcp4) (joined bs)
    whole [] h = tt
    whole (b ∷ bs) h = (all (b ∷ bs) h, tt)

-- the bodies of an area are such that their carrier can bring them
possible-bodies : (c : Carrier) (area : List ℕ) (bodies : List (List ℕ)) → All Bytes bodies → frame c area ≡ framed bodies → All (Possible c) bodies
possible-bodies c area bodies h e = go (form_of c) refl
  where
    go : (k : Form) → form_of c ≡ k → All (PossibleBy k) bodies
    go Wire q = all_map Bytes (PossibleBy Wire) bodies (λ b k. tt) h
    go Padded q = bodies-units area bodies (rw (padded-router c q) at e)
    go Text q = all_map Bytes (PossibleBy Text) bodies (λ b k. tt) h

module _ (c : Carrier) where
  is-blocks : (bs : List (List ℕ)) → All Bytes bs → All (Possible c) bs → BlocksAre c bs (map (yield_of c) bs)
  is-blocks [] h m = none
  is-blocks (b ∷ bs) h m = more ((block-is c b (yield_of c b) h.0 m.0).0 refl) (is-blocks bs h.1 m.1)

  blocks-answer : {bs : List (List ℕ)} {ys : List Yield} → All Bytes bs → All (Possible c) bs → BlocksAre c bs ys → map (yield_of c) bs ≡ ys
  blocks-answer h m none = refl
  blocks-answer h m (more {block} {blocks} {y} {ys} i later) =
      ap₂ (λ (y : Yield) (ys : List Yield). y ∷ ys) ((block-is c block y h.0 m.0).1 i) (blocks-answer h.1 m.1 later)

-- so of every block of an area, under each of the five carriers
pub every-block : (c : Carrier) (area : List ℕ) (bodies : List (List ℕ)) (ys : List Yield) → Bytes area → Area c area bodies
    → (map (yield_of c) (blocks_of c bodies) ≡ ys) ↔ BlocksAre c (blocks_of c bodies) ys
every-block c area bodies ys h a =
    let e : frame c area ≡ framed bodies = (frame-exactly c area bodies h).1 a in
    let octets : All Bytes bodies = bodies-bytes c area bodies h e in
    let blocks : All Bytes (blocks_of c bodies) = each-block (λ c. Bytes) (all-flat Octet) c bodies octets in
    let possible : All (Possible c) (blocks_of c bodies) = each-block Possible (λ bs h. tt) c bodies (possible-bodies c area bodies octets e) in
    (λ e. subst (BlocksAre c (blocks_of c bodies)) e (is-blocks c (blocks_of c bodies) blocks possible), blocks-answer c blocks possible)

-- ---- the records in order

arranged : (came : List Fields) → Arranged came (in_order came)
arranged came = record { rising = sort_sorted (λ (r : Fields). r.priority) came; stable = λ p. sort-stable (λ (r : Fields). r.priority) p came }

arranged-once : {came rs : List Fields} → Arranged came rs → rs ≡ in_order came
arranged-once {came} {rs} a = sort-only (λ (r : Fields). r.priority) came rs a.rising a.stable

-- ---- the carrier of a number

chosen-known : {n : ℕ} (c : Carrier) → number_of c ≡ n → chosen_of n ≡ Some c
chosen-known c e = ap chosen_of (sym e) ∙ chosen-number c

-- ---- the answer

-- the records in order are as many as came
settle-ordered : (c : Carrier) (ys : List Yield) (room : ℕ)
    → read_yields c ys room ≡ settle room (in_order (arrivals ys)) (gives c ys (in_order (arrivals ys)))
settle-ordered c ys room = rw (sort-length (λ (r : Fields). r.priority) (arrivals ys))

module _ (n : ℕ) (area : List ℕ) (room : ℕ) (octets : Bytes area) where
  -- 4, 5 or done
  is-settled : (c : Carrier) {ys : List Yield} {rs : List Fields} → number_of c ≡ n → ReadAs c area ys rs
      → Answers n area room (settle room rs (gives c ys rs))
  is-settled c {ys} {rs} i r = go (ltb limit.records (length rs)) refl (ltb room (length (sheet_of c rs))) refl
    where
      go : (many : Bool) → ltb limit.records (length rs) ≡ many → (long : Bool) → ltb room (length (sheet_of c rs)) ≡ long
          → Answers n area room (cond many (refuse refusal.records) (cond long (refuse refusal.room) (done (gives c ys rs))))
      go true m long l = too_many c i r (ltb-true limit.records (length rs) m)
      go false m true l = no_room c i r (ltb-false limit.records (length rs) m) (ltb-true room (length (sheet_of c rs)) l)
      go false m false l = is_done c i r (ltb-false limit.records (length rs) m) (ltb-false room (length (sheet_of c rs)) l)

  -- 3, or what the blocks yield
  is_framed : (c : Carrier) → number_of c ≡ n → length area ≤ limit.input → Answers n area room (read_framed c (frame c area) room)
  is_framed c i s = go (frame c area) refl
    where
      go : (f : Framed) → frame c area ≡ f → Answers n area room (read_framed c f room)
      go framing.fault e = unframed c i s ((fault-exactly c area octets).0 e)
      go (framed bodies) e =
          let a : Area c area bodies = (frame-exactly c area bodies octets).0 e in
          let ys : List Yield = map (yield_of c) (blocks_of c bodies) in
          rw (settle-ordered c ys room)
          (is-settled c i
          (record { short = s; bodies = bodies; framed = a; blocks = (every-block c area bodies ys octets a).0 refl; arranged = arranged (arrivals ys) }))

  -- 1, 2, or what the area is framed into
  is-answer : Answers n area room (read_of n area room)
  is-answer = go (chosen_of n) refl (ltb limit.input (length area)) refl
    where
      go : (k : Option Carrier) → chosen_of n ≡ k → (long : Bool) → ltb limit.input (length area) ≡ long → Answers n area room (read_of n area room)
      go None e long l =
          rw (read-unknown n area room e)
          (no_carrier (λ c i. let z : Some c ≡ None = sym (chosen-known c i) ∙ e in let o : ◌≡◌ {A = ℕ} 0 1 = cc in omega arith))
      go (Some c) e true l =
          let h : limit.input < length area = ltb-true _ _ l in
          rw (read-long n area room e h) (too_long c (sym (number-chosen n c e)) h)
      go (Some c) e false l =
          let h : length area ≤ limit.input = ltb-false _ _ l in
          rw (read_known n area room e h) (is_framed c (sym (number-chosen n c e)) h)

  -- of a readable area reading settles what its blocks yield
  readable-read : (c : Carrier) {ys : List Yield} {rs : List Fields} → number_of c ≡ n → ReadAs c area ys rs
      → read_of n area room ≡ settle room rs (gives c ys rs)
  readable-read c {ys} {rs} i r =
      read_known n area room (chosen-known c i) r.short
      ∙ ap (λ (f : Framed). read_framed c f room) ((frame-exactly c area r.bodies octets).1 r.framed)
      ∙ ap (λ (ys : List Yield). read_yields c ys room) ((every-block c area r.bodies ys octets r.framed).1 r.blocks)
      ∙ settle-ordered c ys room
      ∙ ap (λ (rs : List Fields). settle room rs (gives c ys rs)) (sym (arranged-once r.arranged))

  answers-read : {a : Answer} → Answers n area room a → read_of n area room ≡ a
  answers-read (no_carrier h) = read-unknown n area room (chosen-unknown n h)
  answers-read (too_long c i h) = read-long n area room (chosen-known c i) h
  answers-read (unframed c i s h) =
      read_known n area room (chosen-known c i) s ∙ ap (λ (f : Framed). read_framed c f room) ((fault-exactly c area octets).1 h)
  answers-read (too_many c {ys} {rs} i r h) = readable-read c i r ∙ rw (lt-ltb limit.records (length rs) h)
  answers-read (no_room c {ys} {rs} i r h l) =
      readable-read c i r ∙ rw (le-ltb limit.records (length rs) h, lt-ltb room (length (sheet_of c rs)) l)
  answers-read (is_done c {ys} {rs} i r h l) =
      readable-read c i r ∙ rw (le-ltb limit.records (length rs) h, le-ltb room (length (sheet_of c rs)) l)

-- reading answers a exactly where `Answers` says so
pub answers-exactly : (n : ℕ) (area : List ℕ) (room : ℕ) (a : Answer) → Bytes area → (read_of n area room ≡ a) ↔ Answers n area room a
answers-exactly n area room a octets = (λ e. subst (Answers n area room) e (is-answer n area room octets), answers-read n area room octets)

-- it answers one thing
pub answers-once : (n : ℕ) (area : List ℕ) (room : ℕ) (a b : Answer) → Bytes area → Answers n area room a → Answers n area room b → a ≡ b
answers-once n area room a b octets x y = sym (answers-read n area room octets x) ∙ answers-read n area room octets y

-- whatever a call of `read` returned and left is what one of the answers that stand there says
pub call-answers : (n : ℕ) (area sheet sheet' : List ℕ) (r : Reading) → Bytes area
    → Reads (read_of n area (length sheet)) sheet r sheet' ↔ ((a : Answer) × Answers n area (length sheet) a × Reads a sheet r sheet')
call-answers n area sheet sheet' r octets = (
  λ g. (read_of n area (length sheet), is-answer n area (length sheet) octets, g),
  λ g. reads_as (answers-read n area (length sheet) octets g.1) g.2,
)
