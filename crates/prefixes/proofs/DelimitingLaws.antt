-- Where octets say where they end, lists lead each other exactly if their octets do; and the parts of which such octets are made: numbers of
-- a width, octets after their count, bodies after their header. Assumes nothing.
use Rattle.std.specs.Prelude.{◌≡◌, refl, ◌↔◌, List, [], ◌∷◌, ◌++◌, map, ℕ, ◌+◌, ◌^◌, ◌<◌, length}
use Rattle.std.proofs.Common.{sym, ap, ap₂, ◌∙◌, append_assoc, arith, length-append}
use Rattle.std.proofs.lemmas.List.{append_cancel_left}
use Rattle.octets.specs.Numbers.{be, val}
use Rattle.octets.specs.NumbersLaws.{length-be, val-be}
use Rattle.octets.specs.Lists.{All, flat}
use Rattle.octets.specs.ListsLaws.{part_apart, flat_map_append}
use Rattle.octets.specs.Fields.{put_counted}
use Rattle.carriers.specs.declared.Carrier.{Carrier}
use Rattle.carriers.specs.Carriers.{code_of, head_width, header_of, in_eights}
use Rattle.frames.specs.Emit.{length_in, head_of, option_of, Fits}
use Rattle.frames.specs.Frame.{whole_size}
use Rattle.frames.proofs.EmitLaws.{said}
use Rattle.prefixes.specs.Prefix.{Leading, SelfDelimiting}

-- ---- lists of what is encoded

module _ {A : Type 0} (P : A → Type 0) (e : A → List ℕ) where
  leads-flat : (l m : List A) → Leading l m → Leading (flat (map e l)) (flat (map e m))
  leads-flat l m (t, q) = (flat (map e t), ap (λ (n : List A). flat (map e n)) q ∙ flat_map_append e l t)

  module _ (some : (a : A) → P a → 0 < length (e a)) (apart : SelfDelimiting P e) where
    flat-leads : (l m : List A) → All P l → All P m → Leading (flat (map e l)) (flat (map e m)) → Leading l m
    flat-leads [] m h k q = (m, refl)
    flat-leads (a ∷ l) [] h k (t, q) =
        let none : 0 ≡ length (e a ++ flat (map e l) ++ t) = ap length q in
        let s = some a h.0 in
        absurd (omega (arith, length-append (e a ++ flat (map e l)) t, length-append (e a) (flat (map e l))))
    flat-leads (a ∷ l) (b ∷ m) h k (t, q) =
        let both = apart b a (flat (map e m)) (flat (map e l) ++ t) k.0 h.0 (q ∙ append_assoc (e a) (flat (map e l)) t) in
        let r = flat-leads l m h.1 k.1 (t, both.1) in
        (r.0, ap₂ (λ (x : A) (xs : List A). x ∷ xs) both.0 r.1)

    -- where an encoding is never empty and says where it ends, octets lead octets exactly if the lists do
    pub flat-exactly : (l m : List A) → All P l → All P m → Leading (flat (map e l)) (flat (map e m)) ↔ Leading l m
    flat-exactly l m h k = (flat-leads l m h k, leads-flat l m)

-- ---- parts that say where they end

-- a number of w octets
pub number-apart : (w m n : ℕ) (x y : List ℕ) → m < 256 ^ w → n < 256 ^ w → be w m ++ x ≡ be w n ++ y → (m ≡ n) × (x ≡ y)
number-apart w m n x y hm hn q =
    let both = part_apart (be w m) (be w n) x y (length-be w m ∙ sym (length-be w n)) q in
    (sym (val-be w m hm) ∙ ap val both.0 ∙ val-be w n hn, both.1)

-- octets after their count, a number of w octets
pub counted-apart : (w : ℕ) (a b x y : List ℕ) → length a < 256 ^ w → length b < 256 ^ w → put_counted w a x ≡ put_counted w b y → (a ≡ b) × (x ≡ y)
counted-apart w a b x y ha hb q =
    let both = number-apart w (length a) (length b) (a ++ x) (b ++ y) ha hb q in
    part_apart a b x y both.0 both.1

-- a header says how many octets follow
saying : (c : Carrier) (b : List ℕ) → Fits c b → let size : ℕ = length_in c (length b) in
    (size < 256 ^ head_width c) × (whole_size (in_eights c) (header_of c) size ≡ header_of c + length b)
saying c b f = said (in_eights c) (header_of c) (head_width c) (length b) f

said-length : (c : Carrier) (a b : List ℕ) → Fits c a → Fits c b → length_in c (length a) ≡ length_in c (length b) → length a ≡ length b
said-length c a b f g e =
    let same : header_of c + length a ≡ header_of c + length b = sym (saying c a f).1 ∙ ap (whole_size (in_eights c) (header_of c)) e ∙ (saying c b g).1 in
    omega arith

option-open : (c : Carrier) (b x : List ℕ) → option_of c b ++ x ≡ be (head_width c) (code_of c) ++ (be (head_width c) (length_in c (length b)) ++ (b ++ x))
option-open c b x =
    append_assoc (head_of c (length b)) b x
    ∙ append_assoc (be (head_width c) (code_of c)) (be (head_width c) (length_in c (length b))) (b ++ x)

-- bodies that their header can say, each after it
pub option-apart : (c : Carrier) → SelfDelimiting (Fits c) (option_of c)
option-apart c a b x y f g q =
    let w : ℕ = head_width c in
    let m : ℕ = length_in c (length a) in
    let n : ℕ = length_in c (length b) in
    let same : be w m ++ (a ++ x) ≡ be w n ++ (b ++ y) =
    append_cancel_left (be w (code_of c)) (be w m ++ (a ++ x)) (be w n ++ (b ++ y)) (sym (option-open c a x) ∙ q ∙ option-open c b y) in
    let both = number-apart w m n (a ++ x) (b ++ y) (saying c a f).0 (saying c b g).0 same in
    part_apart a b x y (said-length c a b f g both.0) both.1
