-- An area is framed to bodies exactly if it is a run of options with these bodies (RULES W1 to W8), and is a fault exactly if it is none
-- (RULES R3); once over the carrier. Assumes nothing.
use Rattle.std.specs.Prelude.{◌≡◌, refl, Bool, true, false, ◌↔◌, List, [], ◌∷◌, ◌++◌, ℕ, zero, suc, ◌+◌, ◌^◌, ◌≤◌, ◌<◌, length, get_or, take, drop, ltb, eqb, Result, Ok, Err}
use Rattle.std.proofs.Common.{sym, ap, ap₂, ◌∙◌, subst, true≢false, arith, length-append, length-drop, take-append-drop, get_or-take, length-take-le, take_at, drop_at, drop-drop, eq-eqb, ne_eqb, eqb-true, ltb-true, ltb-false}
use Rattle.std.proofs.Math.Path.{subst⁻¹}
use Rattle.std.proofs.lemmas.Bool.{false≢true, eqb-false}
use Rattle.octets.specs.Numbers.{be, number_at, Octet, Bytes}
use Rattle.octets.specs.NumbersLaws.{length-be, be-val, val-small, number-laid, number-local}
use Rattle.octets.specs.ListsLaws.{all_take, all_drop}
use Rattle.numbers.specs.declared.Refusal.{Refusal}
use Rattle.carriers.specs.declared.Carrier.{Carrier}
use Rattle.carriers.specs.Carriers.{code_of, head_width, header_of, has_reserved, bare_code, in_eights, is_joined, octets}
use Rattle.carriers.proofs.CarriersLaws.{by-joined}
use Rattle.frames.specs.declared.Head.{Head}
use Rattle.frames.specs.Frame.{whole_size, code_in, size_in, head_in, first_of, Framed, fault, framed, onto, frame}
use Rattle.frames.specs.Area.{Says, IsOption, Area, none, padding, end, own, foreign}
use Rattle.frames.specs.HeadLaws.{Read, header-pos, head-option, head-inv, head-end, narrow-header, mark-pad, mark-end, mark-other, first-append}
use Rattle.frames.specs.Laws.{fault-framed, frame-none, frame-bad, frame-end, frame-option, frame-over, onto-skipped}

-- an octet that is neither padding nor an end
abbrev Unmarked : ℕ → Type 0
Unmarked x = (x ≡ 0 → ⊥) × (x ≡ 255 → ⊥)

-- where an octet may stand for padding or an end, a code is one octet
marks-narrow : (c : Carrier) → is_joined c ≡ true → head_width c ≡ 1
marks-narrow = by-joined (λ c. is_joined c ≡ true → head_width c ≡ 1) (λ j. refl) (λ c n j. absurd (true≢false (sym j ∙ n)))

-- a length says a body exactly if an option of that length has the header and the body
says-whole : (eights : Bool) (h size body : ℕ) → Says eights h size body → whole_size eights h size ≡ h + body
says-whole true h size body s = s
says-whole false h size body s = ap (λ (n : ℕ). h + n) s

pub whole_says : (eights : Bool) (h size body : ℕ) → whole_size eights h size ≡ h + body → Says eights h size body
whole_says true h size body e = e
whole_says false h size body e = omega arith

pub framed-same : {bs cs : List (List ℕ)} → framed bs ≡ framed cs → bs ≡ cs
framed-same e = cc

-- ---- a run of options is framed

-- what stands in an option's octets
module _ (c : Carrier) (option : List ℕ) (code : ℕ) (body : List ℕ) (i : IsOption c option code body) where
  stands-there : number_at (head_width c) 0 option ≡ i.stands
  stands-there =
      ap (number_at (head_width c) 0) i.laid
      ∙ number-laid (head_width c) 0 i.stands [] (be (head_width c) i.size ++ body) i.stands_room refl

  size-there : number_at (head_width c) (head_width c) option ≡ i.size
  size-there =
      ap (number_at (head_width c) (head_width c)) i.laid
      ∙ number-laid (head_width c) (head_width c) i.size (be (head_width c) i.stands) body i.size_room (length-be (head_width c) i.stands)

  whole_length : length option ≡ header_of c + length body
  whole_length = ap length i.laid ∙ simp (length-append, length-be) (omega arith)

  body-there : drop (header_of c) option ≡ body
  body-there =
      let w : ℕ = head_width c in
      sym (drop-drop w w option)
      ∙ ap (λ (l : List ℕ). drop w (drop w l)) i.laid
      ∙ ap (drop w) (drop_at (be w i.stands) (be w i.size ++ body) w (length-be w i.stands))
      ∙ drop_at (be w i.size) body w (length-be w i.size)

  code-there : code_in c option ≡ code
  code-there = ap (bare_code (has_reserved c)) stands-there ∙ sym i.code_is

  whole-there : size_in c option ≡ length option
  whole-there =
      ap (whole_size (in_eights c) (header_of c)) size-there
      ∙ says-whole (in_eights c) (header_of c) i.size (length body) i.says
      ∙ sym whole_length

  octet-there : is_joined c ≡ true → get_or option 0 0 ≡ i.stands
  octet-there j = (narrow-header (head_width c) option (omega (arith, whole_length)) (marks-narrow c j)).0 ∙ stands-there

  -- it stands first: whether it is the carrier's own, and all of its octets
  pub first-there : first_of c option ≡ Ok (Head.Option (eqb code (code_of c)) (octets (length option)))
  first-there =
      let pos = header-pos c in
      let len = whole_length in
      let size = whole-there in
      mark-other (get_or option 0 0) (head_in c option) (is_joined c)
      (λ j. subst Unmarked (sym (octet-there j)) (i.unmarked j))
      ∙ head-option c option (omega arith) (λ z. omega arith)
      ∙ ap₂ (λ (x n : ℕ). Ok (Head.Option (eqb x (code_of c)) (octets n))) code-there size

  -- an option, and then the rest
  pub option-framed : (rest : List ℕ) → frame c (option ++ rest) ≡ onto (eqb code (code_of c)) body (frame c rest)
  option-framed rest =
      let pos : 0 < length option = omega (arith, whole_length, header-pos c) in
      let both = length-append option rest in
      let pos' : 0 < length (option ++ rest) = omega arith in
      frame-option c (option ++ rest) pos' (first-append c option rest pos first-there) (omega arith)
      ∙ ap₂ (λ (l r : List ℕ). onto (eqb code (code_of c)) (drop (header_of c) l) (frame c r))
      (take_at option rest (length option) refl) (drop_at option rest (length option) refl)
      ∙ ap (λ (l : List ℕ). onto (eqb code (code_of c)) l (frame c rest)) body-there

-- where options are joined, an octet 0 is passed over, and what follows 255 is ignored
pad-framed : (c : Carrier) (rest : List ℕ) → is_joined c ≡ true → frame c (0 ∷ rest) ≡ frame c rest
pad-framed c rest j =
    frame-option c (0 ∷ rest) (omega arith) (mark-pad 0 (head_in c (0 ∷ rest)) (is_joined c) j refl) (omega arith)
    ∙ onto-skipped (drop (header_of c) (0 ∷ [])) (frame c rest)

end_framed : (c : Carrier) (rest : List ℕ) → is_joined c ≡ true → frame c (255 ∷ rest) ≡ framed []
end_framed c rest j = frame-end c (255 ∷ rest) (omega arith) (mark-end 255 (head_in c (255 ∷ rest)) (is_joined c) j refl)

-- a run of options is framed to its bodies
pub area-framed : (c : Carrier) (area : List ℕ) (bodies : List (List ℕ)) → Area c area bodies → frame c area ≡ framed bodies
area-framed c area bodies none = frame-none c
area-framed c area bodies (padding {area = rest} j a) = pad-framed c rest j ∙ area-framed c rest bodies a
area-framed c area bodies (end {rest} j) = end_framed c rest j
area-framed c area bodies (own {option} {body} {area = rest} {bodies = bs} i a) =
    option-framed c option (code_of c) body i rest
    ∙ ap₂ (λ (b : Bool) (f : Framed). onto b body f) (eq-eqb (code_of c) (code_of c) refl) (area-framed c rest bs a)
area-framed c area bodies (foreign {code} {option} {body} {area = rest} i n a) =
    option-framed c option code body i rest
    ∙ ap₂ (λ (b : Bool) (f : Framed). onto b body f) (ne_eqb code (code_of c) n) (area-framed c rest bodies a)

-- ---- what is framed is a run of options

-- the octets of a number are the octets that it was read from, and it has room in them
number-part : (w i : ℕ) (s : List ℕ) → Bytes s → i + w ≤ length s → (be w (number_at w i s) ≡ take w (drop i s)) × (number_at w i s < 256 ^ w)
unfolding number_at
number-part w i s h room =
    let part : List ℕ = take w (drop i s) in
    let bytes : Bytes part = all_take Octet w (drop i s) (all_drop Octet i s h) in
    let len : length part ≡ w = length-take-le w (drop i s) (simp length-drop (omega arith)) in
    (rw len at (be-val part bytes), rw len at (val-small part bytes))

-- octets that say as many octets as they are, and are no mark, are an option
module _ (c : Carrier) (o : List ℕ) (bytes : Bytes o) (room : header_of c ≤ length o) where
  laid-there : o ≡ be (head_width c) (number_at (head_width c) 0 o) ++ (be (head_width c) (number_at (head_width c) (head_width c) o) ++ drop (header_of c) o)
  laid-there =
      let w : ℕ = head_width c in
      let rest : drop w o ≡ be w (number_at w w o) ++ drop (w + w) o =
      sym (take-append-drop w (drop w o)) ∙ ap₂ (λ (a b : List ℕ). a ++ b) (sym (number-part w w o bytes room).0) (drop-drop w w o) in
      sym (take-append-drop w o) ∙ ap₂ (λ (a b : List ℕ). a ++ b) (sym (number-part w 0 o bytes (omega arith)).0) rest

  is-option : size_in c o ≡ length o → (is_joined c ≡ true → Unmarked (get_or o 0 0)) → IsOption c o (code_in c o) (drop (header_of c) o)
  is-option size other =
      let w : ℕ = head_width c in
      let first : is_joined c ≡ true → get_or o 0 0 ≡ number_at w 0 o = λ j. (narrow-header w o room (marks-narrow c j)).0 in
      let len : length o ≡ header_of c + length (drop (header_of c) o) = omega (arith, length-drop (header_of c) o) in
      record {
        stands = number_at w 0 o;
        size = number_at w w o;
        laid = laid-there;
        stands_room = (number-part w 0 o bytes (omega arith)).1;
        size_room = (number-part w w o bytes room).1;
        code_is = refl;
        says = whole_says (in_eights c) (header_of c) (number_at w w o) (length (drop (header_of c) o)) (size ∙ len);
        unmarked = λ j. subst Unmarked (first j) (other j);
      }

-- an octet is padding, or an end, or neither
by-octet : (P : ℕ → Type 0) (x : ℕ) (j : Bool) → (j ≡ true → P 0) → (j ≡ true → P 255) → ((j ≡ true → Unmarked x) → P x) → P x
by-octet P x false pad stop other = other (λ j. absurd (false≢true j))
by-octet P x true pad stop other = go (eqb x 0) (eqb x 255) refl refl
  where
    go : (a b : Bool) → eqb x 0 ≡ a → eqb x 255 ≡ b → P x
    go true b t u = subst⁻¹ P (eqb-true x 0 t) (pad refl)
    go false true t u = subst⁻¹ P (eqb-true x 255 u) (stop refl)
    go false false t u = other (λ j. (eqb-false _ _ t, eqb-false _ _ u))

-- an option and then octets that are a run of options where they are framed
option-area : (c : Carrier) (option : List ℕ) (code : ℕ) (body rest : List ℕ) (bodies : List (List ℕ)) → IsOption c option code body
    → ((bs : List (List ℕ)) → frame c rest ≡ framed bs → Area c rest bs) → frame c (option ++ rest) ≡ framed bodies → Area c (option ++ rest) bodies
option-area c option code body rest bodies i ih e =
    go (eqb code (code_of c)) (frame c rest) refl refl (sym (option-framed c option code body i rest) ∙ e)
  where
    go : (b : Bool) (f : Framed) → eqb code (code_of c) ≡ b → frame c rest ≡ f → onto b body f ≡ framed bodies → Area c (option ++ rest) bodies
    go b fault t u q = absurd (fault-framed q)
    go true (framed bs) t u q =
        subst (Area c (option ++ rest)) (framed-same q) (own (subst (λ (n : ℕ). IsOption c option n body) (eqb-true _ _ t) i) (ih bs u))
    go false (framed bs) t u q = subst (Area c (option ++ rest)) (framed-same q) (foreign i (eqb-false _ _ t) (ih bs u))

-- by what is so of fewer octets
module _ (c : Carrier) (s : List ℕ) (bodies : List (List ℕ)) (some : 0 < length s) (bytes : Bytes s) (e : frame c s ≡ framed bodies)
    (ih : (r : List ℕ) (bs : List (List ℕ)) → length r < length s → Bytes r → frame c r ≡ framed bs → Area c r bs) where
  -- an option that does not run past the end
  first-option : (is_joined c ≡ true → Unmarked (get_or s 0 0)) → {b : Bool} {n : ℕ} → Read c s b n → n ≤ length s → Area c s bodies
  first-option other {b} {n} read fits =
      let w : ℕ = head_width c in
      let o : List ℕ = take n s in
      let r : List ℕ = drop n s in
      let all : o ++ r ≡ s = take-append-drop n s in
      let len : length o ≡ n = length-take-le n s fits in
      let room : header_of c ≤ length o = omega (arith, read.body) in
      let first : get_or o 0 0 ≡ get_or s 0 0 = get_or-take n s 0 0 (omega (arith, read.body, header-pos c)) in
      let size : size_in c o ≡ length o =
      ap (whole_size (in_eights c) (header_of c)) (sym (number-local w w o r room) ∙ ap (number_at w w) all) ∙ sym read.size ∙ sym len in
      let i = is-option c o (all_take Octet n s bytes) room size (λ j. subst Unmarked (sym first) (other j)) in
      let fewer : length r < length s = omega (arith, length-drop n s, read.body, header-pos c) in
      subst (λ (l : List ℕ). Area c l bodies) all
      (option-area c o (code_in c o) (drop (header_of c) o) r bodies i (λ bs. ih r bs fewer (all_drop Octet n s bytes)) (ap (frame c) all ∙ e))

  -- what is no mark is an option
  first-header : (is_joined c ≡ true → Unmarked (get_or s 0 0)) → Area c s bodies
  first-header other = go (head_in c s) refl
    where
      plain : first_of c s ≡ head_in c s
      plain = mark-other (get_or s 0 0) (head_in c s) (is_joined c) other

      fits : {b : Bool} {n : ℕ} → head_in c s ≡ Ok (Head.Option b (octets n)) → (t : Bool) → ltb (length s) n ≡ t → Area c s bodies
      fits h true t = absurd (fault-framed (sym (frame-over c s some (plain ∙ h) (ltb-true _ _ t)) ∙ e))
      fits h false t = first-option other (head-inv c s h) (ltb-false _ _ t)

      go : (z : Result Head Refusal) → head_in c s ≡ z → Area c s bodies
      go (Err r) h = absurd (fault-framed (sym (frame-bad c s some (plain ∙ h)) ∙ e))
      go (Ok Head.End) h = absurd (head-end c s h)
      go (Ok (Head.Option b size)) h = fits h (ltb (length s) size.0) refl

framed-first : (c : Carrier) (s : List ℕ) (bodies : List (List ℕ)) → Bytes s → frame c s ≡ framed bodies
    → ((r : List ℕ) (bs : List (List ℕ)) → length r < length s → Bytes r → frame c r ≡ framed bs → Area c r bs) → Area c s bodies
framed-first c [] bodies bytes e ih = subst (Area c []) (framed-same (sym (frame-none c) ∙ e)) none
framed-first c (x ∷ xs) bodies bytes e ih =
    by-octet (λ (x : ℕ). frame c (x ∷ xs) ≡ framed bodies → Area c (x ∷ xs) bodies) x (is_joined c)
    (λ j e. padding j (ih xs bodies (omega arith) bytes.1 (sym (pad-framed c xs j) ∙ e)))
    (λ j e. subst (Area c (255 ∷ xs)) (framed-same (sym (end_framed c xs j) ∙ e)) (end j))
    (λ other e. first-header c (x ∷ xs) bodies (omega arith) bytes e ih other) e

-- of fewer than n octets
framed-area : (c : Carrier) (n : ℕ) (s : List ℕ) (bodies : List (List ℕ)) → length s < n → Bytes s → frame c s ≡ framed bodies → Area c s bodies
framed-area c zero s bodies less bytes e = absurd (omega arith)
framed-area c (suc n) s bodies less bytes e = framed-first c s bodies bytes e (λ r bs fewer. framed-area c n r bs (omega arith))

-- ---- exactly

-- an area is framed to bodies exactly if it is a run of options with these bodies
pub frame-exactly : (c : Carrier) (area : List ℕ) (bodies : List (List ℕ)) → Bytes area → (frame c area ≡ framed bodies) ↔ Area c area bodies
frame-exactly c area bodies bytes = (framed-area c (suc (length area)) area bodies (omega arith) bytes, area-framed c area bodies)

-- it is a fault exactly if it is no run of options, whatever the bodies
pub fault-exactly : (c : Carrier) (area : List ℕ) → Bytes area → (frame c area ≡ fault) ↔ ((bodies : List (List ℕ)) → Area c area bodies → ⊥)
fault-exactly c area bytes = (λ e bodies a. fault-framed (sym e ∙ area-framed c area bodies a), λ never. go never (frame c area) refl)
  where
    go : ((bodies : List (List ℕ)) → Area c area bodies → ⊥) → (f : Framed) → frame c area ≡ f → f ≡ fault
    go never fault e = refl
    go never (framed bs) e = absurd (never bs ((frame-exactly c area bs bytes).0 e))

-- and the bodies are one list only
pub area-once : (c : Carrier) (area : List ℕ) (bs cs : List (List ℕ)) → Area c area bs → Area c area cs → bs ≡ cs
area-once c area bs cs a b = framed-same (sym (area-framed c area bs a) ∙ area-framed c area cs b)
