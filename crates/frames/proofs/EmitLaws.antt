-- Own options that were written are framed to their bodies, in every carrier. Assumes nothing.
use Rattle.std.specs.Prelude.{◌≡◌, refl, Bool, true, false, List, [], ◌∷◌, ◌++◌, ℕ, ◌+◌, ◌^◌, ◌≤◌, ◌<◌, length, drop, eqb, Ok}
use Rattle.std.proofs.Common.{sym, ap, ◌∙◌, subst, true≢false, append_assoc, arith, length-append, drop_at, eq-eqb}
use Rattle.std.proofs.Math.Path.{subst⁻¹}
use Rattle.std.proofs.Math.Nat.{pow-le-pow_right}
use Rattle.octets.specs.Numbers.{be}
use Rattle.octets.specs.NumbersLaws.{length-be}
use Rattle.octets.specs.Over.{Wrote}
use Rattle.octets.specs.OverLaws.{then}
use Rattle.carriers.specs.declared.Carrier.{Carrier}
use Rattle.carriers.specs.declared.Facts.{Facts}
use Rattle.carriers.specs.Carriers.{facts_of, code_of, head_width, header_of, in_eights, is_joined, octets}
use Rattle.carriers.proofs.CarriersLaws.{headed, by-joined}
use Rattle.frames.specs.declared.Head.{Head}
use Rattle.frames.specs.Frame.{whole_size, first_of, framed, onto, frame}
use Rattle.octets.specs.Lists.{All}
use Rattle.frames.specs.Emit.{length_said, length_in, head_of, option_of, CanSay, Fits, options_of}
use Rattle.frames.specs.Area.{IsOption}
use Rattle.frames.proofs.AreaLaws.{whole_says, first-there, option-framed}
use Rattle.frames.specs.Laws.{frame-none}

-- ---- one option

pub head-length : (c : Carrier) (n : ℕ) → length (head_of c n) ≡ header_of c
head-length c n = simp (length-append, length-be)

pub option-length : (c : Carrier) (b : List ℕ) → length (option_of c b) ≡ header_of c + length b
option-length c b = length-append (head_of c (length b)) b ∙ ap (λ (n : ℕ). n + length b) (head-length c (length b))

pub option-body : (c : Carrier) (b : List ℕ) → drop (header_of c) (option_of c b) ≡ b
option-body c b = drop_at (head_of c (length b)) b (header_of c) (head-length c (length b))

-- the length that a body can be said by has room, and says it
pub said : (eights : Bool) (h w n : ℕ) → CanSay eights h w n → (length_said eights h n < 256 ^ w) × (whole_size eights h (length_said eights h n) ≡ h + n)
said true h w n f = (omega arith, omega arith)
said false h w n f = (f, refl)

-- with a header of one or two octets twice, a body that it can say has fewer than 524,288 octets
pub said-small : (eights : Bool) (h w n : ℕ) → w ≤ 2 → CanSay eights h w n → n < 524288
said-small eights h w n l f = go eights f
  where
    most : 256 ^ w ≤ 65536
    most = pow-le-pow_right {n = 256} (omega arith) l

    go : (b : Bool) → CanSay b h w n → n < 524288
    go true f = omega (arith, most)
    go false f = omega (arith, most)

-- by the carrier's row: what a header asks of its two numbers, and that they make it
module _ (c : Carrier) (n : ℕ) {f : Facts} (row : f ≡ facts_of c) where
  pub row-width : (0 < f.width) × (f.width ≤ 2) × (f.width ≡ head_width c)
  row-width = rw row ((headed c).some, (headed c).few, refl)

  pub row-code : f.code < 256 ^ f.width
  row-code = subst⁻¹ (λ (f : Facts). f.code < 256 ^ f.width) row (headed c).room

  pub row-said : {m : ℕ} → m ≡ length_said f.eights (f.width + f.width) n → CanSay (in_eights c) (header_of c) (head_width c) n → m < 256 ^ f.width
  row-said e h = rw e (subst⁻¹ (λ (f : Facts). length_said f.eights (f.width + f.width) n < 256 ^ f.width) row (said (in_eights c) (header_of c) (head_width c) n h).0)

  pub row_wrote : {m at i j : ℕ} {l l₁ l₂ : List ℕ} → m ≡ length_said f.eights (f.width + f.width) n
      → Wrote at (be f.width f.code) l i l₁ → Wrote i (be f.width m) l₁ j l₂ → Wrote at (head_of c n) l j l₂
  row_wrote {m} {at} {i} {j} {l} {l₁} {l₂} e x y =
      subst (λ (bs : List ℕ). Wrote at bs l j l₂)
      (ap (λ (m : ℕ). be f.width f.code ++ be f.width m) e
      ∙ ap (λ (f : Facts). be f.width f.code ++ be f.width (length_said f.eights (f.width + f.width) n)) row)
      (then x y)

-- an own option that was written is an option with the carrier's code
option_is : (c : Carrier) (b : List ℕ) → Fits c b → IsOption c (option_of c b) (code_of c) b
option_is c b f =
    let w : ℕ = head_width c in
    let k = said (in_eights c) (header_of c) w (length b) f in
    record {
      stands = code_of c;
      size = length_in c (length b);
      laid = append_assoc (be w (code_of c)) (be w (length_in c (length b))) b;
      stands_room = (headed c).room;
      size_room = k.0;
      code_is = sym (headed c).bare;
      says = whole_says (in_eights c) (header_of c) (length_in c (length b)) (length b) k.1;
      unmarked = code-unmarked c;
    }
  where
    code-unmarked : (c : Carrier) → is_joined c ≡ true → (code_of c ≡ 0 → ⊥) × (code_of c ≡ 255 → ⊥)
    code-unmarked = by-joined (λ c. is_joined c ≡ true → (code_of c ≡ 0 → ⊥) × (code_of c ≡ 255 → ⊥))
        (λ j. (λ z. omega arith, λ z. omega arith)) (λ c n j. absurd (true≢false (sym j ∙ n)))

own_code : (c : Carrier) → eqb (code_of c) (code_of c) ≡ true
own_code c = eq-eqb (code_of c) (code_of c) refl

-- it is a whole own option
pub option-first : (c : Carrier) (b : List ℕ) → Fits c b → first_of c (option_of c b) ≡ Ok (Head.Option true (octets (length (option_of c b))))
option-first c b f =
    first-there c (option_of c b) (code_of c) b (option_is c b f) ∙ ap (λ (own : Bool). Ok (Head.Option own (octets (length (option_of c b))))) (own_code c)

-- an own option, and then the rest
pub frame-own : (c : Carrier) (b rest : List ℕ) → Fits c b → frame c (option_of c b ++ rest) ≡ onto true b (frame c rest)
frame-own c b rest f =
    option-framed c (option_of c b) (code_of c) b (option_is c b f) rest ∙ ap (λ (own : Bool). onto own b (frame c rest)) (own_code c)

-- ---- many

-- own options are framed to their bodies
pub frame-options : (c : Carrier) (bs : List (List ℕ)) → All (Fits c) bs → frame c (options_of c bs) ≡ framed bs
frame-options c [] f = frame-none c
frame-options c (b ∷ bs) f = frame-own c b (options_of c bs) f.0 ∙ ap (onto true b) (frame-options c bs f.1)
