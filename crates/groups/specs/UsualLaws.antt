-- Every list of octets is read back from its usual texts: with a blank or a mark between octets, without leading zeros where a kind allows single digits,
-- and with nothing between octets. Assumes nothing.
use Rattle.std.specs.Prelude.{◌≡◌, refl, Bool, true, false, cond, ◌⊎◌, List, [], ◌∷◌, ◌++◌, map, ℕ, ◌+◌, ◌*◌, ◌/◌, ◌%◌, ◌≤◌, ◌<◌, ltb, length}
use Rattle.std.proofs.Common.{sym, ap, ◌∙◌, subst, inl, inr, append-nil, arith, ltb-true, ltb-false}
use Rattle.std.proofs.lemmas.Bool.{false≢true}
use Rattle.octets.specs.Lists.{All, flat}
use Rattle.octets.specs.Numbers.{Bytes}
use Rattle.octets.specs.Over.{over}
use Rattle.hexes.specs.Hexes.{digit_of, two, hex_of}
use Rattle.hexes.specs.Spelled.{Digit, decimal, upper, lower}
use Rattle.inputs.specs.Read.{Octets}
use Rattle.groups.specs.declared.Kind.{Kind}
use Rattle.groups.specs.Groups.{ended, read_of}
use Rattle.groups.specs.Spells.{Blank, Mark, Ex, Proper, Pairs, Digits, Listed, Alone, Spells}
use Rattle.groups.specs.Spells as spells
use Rattle.groups.specs.Exactly.{spelled-read}
use Rattle.groups.specs.Usual.{short, parted}

-- ---- an octet

digit-of : (v : ℕ) → v < 16 → Digit (digit_of v) v
unfolding digit_of
digit-of v h = go (ltb v 10) refl
  where
    go : (b : Bool) → ltb v 10 ≡ b → Digit (cond b (48 + v) (87 + v)) v
    go true e = decimal (ltb-true v 10 e) refl
    go false e = lower (ltb-false v 10 e) h refl

pair_of : (b : ℕ) (t bs : List ℕ) → b < 256 → Pairs t bs → Pairs (two b ++ t) (b ∷ bs)
pair_of b t bs h p =
    let e : b / 16 * 16 + b % 16 ≡ b = omega arith in
    subst (λ (n : ℕ). Pairs (two b ++ t) (n ∷ bs)) e (spells.pair (digit-of (b / 16) (omega arith)) (digit-of (b % 16) (omega arith)) p)

two_digits : (f : Kind) (b : ℕ) → b < 256 → Digits f (two b) (b ∷ [])
two_digits f b h = spells.pairs (pair_of b [] [] h spells.none) (omega arith)

short-digits : (f : Kind) → f.single ≡ true → (b : ℕ) → b < 256 → Digits f (short b) (b ∷ [])
short-digits f s b h = go (ltb b 16) refl
  where
    go : (c : Bool) → ltb b 16 ≡ c → Digits f (cond c (digit_of b ∷ []) (two b)) (b ∷ [])
    go true e = spells.single s (digit-of b (ltb-true b 16 e))
    go false e = two_digits f b h

-- ---- something between octets

-- each octet is a group
abbrev singles : List ℕ → List (List ℕ)
singles bs = map (λ (b : ℕ). b ∷ []) bs

singles-flat : (bs : List ℕ) → bs ≡ flat (singles bs ++ [])
singles-flat [] = refl
singles-flat (b ∷ bs) = ap (λ (l : List ℕ). b ∷ l) (singles-flat bs)

singles-narrow : (bs : List ℕ) → All (λ (g : List ℕ). length g ≤ 1) (singles bs)
singles-narrow [] = tt
singles-narrow (b ∷ bs) = (omega arith, singles-narrow bs)

module _ (f : Kind) (x : ℕ) (form : ℕ → List ℕ) (p : f.prefix ≡ false) (digits : (b : ℕ) → b < 256 → Digits f (form b) (b ∷ [])) where
  module _ (s : (Blank x × (f.marked ≡ false)) ⊎ Mark f x) where
    parted-listed : (bs : List ℕ) → Bytes bs → (q : Bool) → (f.marked ≡ true → q ≡ false) → Listed f q (parted x form bs) (singles bs) []
    parted-listed [] h q n = spells.nothing
    parted-listed (b ∷ []) h q n =
        subst (λ (t : List ℕ). Listed f q t ((b ∷ []) ∷ []) []) (append-nil (form b))
        (spells.group n (spells.bare p (digits b h.0)) spells.at_end spells.nothing)
    parted-listed (b ∷ c ∷ bs) h q n = go s (λ q n. parted-listed (c ∷ bs) h.1 q n)
      where
        go : (Blank x × (f.marked ≡ false)) ⊎ Mark f x
            → ((q : Bool) → (f.marked ≡ true → q ≡ false) → Listed f q (parted x form (c ∷ bs)) (singles (c ∷ bs)) [])
            → Listed f q (form b ++ x ∷ parted x form (c ∷ bs)) (singles (b ∷ c ∷ bs)) []
        go (inl k) next =
            spells.group n (spells.bare p (digits b h.0)) (spells.at_blank k.0)
            (spells.blank k.0 (next true (λ m. absurd (false≢true (sym k.1 ∙ m)))))
        go (inr k) next = spells.group n (spells.bare p (digits b h.0)) (spells.at_mark k) (spells.mark k (next false (λ m. refl)))

    parted-spelled : (bs : List ℕ) → Bytes bs → Spells f (parted x form bs) bs
    parted-spelled bs h =
        record {
          first = singles bs;
          others = [];
          listed = parted-listed bs h false (λ m. refl);
          alone = spells.narrow (singles-narrow bs, tt);
          are = singles-flat bs;
        }

-- ---- nothing between octets

pairs_of : (bs : List ℕ) → Bytes bs → Pairs (hex_of bs) bs
pairs_of [] h = spells.none
pairs_of (b ∷ bs) h = pair_of b (hex_of bs) bs h.0 (pairs_of bs h.1)

module _ (f : Kind) (p : f.prefix ≡ false) where
  alone-one : (g : List ℕ) → (f.lines ≡ true) ⊎ ((f.lines ≡ false) × (f.whole ≡ true)) → Alone f ((g ∷ []) ∷ [])
  alone-one g (inl e) = spells.by_line e (omega arith, tt)
  alone-one g (inr e) = spells.by_list e.0 e.1 (omega arith)

  joined-spelled : (f.lines ≡ true) ⊎ ((f.lines ≡ false) × (f.whole ≡ true)) → (bs : List ℕ) → Bytes bs → Spells f (hex_of bs) bs
  joined-spelled w [] h = record { first = []; others = []; listed = spells.nothing; alone = spells.narrow (tt, tt); are = refl }
  joined-spelled w (b ∷ bs) h =
      record {
        first = (b ∷ bs) ∷ [];
        others = [];
        listed = subst (λ (t : List ℕ). Listed f false t ((b ∷ bs) ∷ []) []) (append-nil (hex_of (b ∷ bs)))
            (spells.group (λ m. refl) (spells.bare p (spells.pairs (pairs_of (b ∷ bs) h) (omega arith))) spells.at_end spells.nothing);
        alone = alone-one (b ∷ bs) w;
        are = sym (append-nil (b ∷ bs));
      }

-- ---- read back

module _ (f : Kind) (y : Proper f) (p : f.prefix ≡ false) (bs out : List ℕ) (h : Bytes bs) (r : length bs ≤ length out) where
  -- two digits each, and a blank between two octets
  pub blanks-read : f.marked ≡ false → read_of f (parted 32 two bs) out ≡ ended (Octets (length bs)) (over 0 bs out)
  blanks-read m = spelled-read f (parted 32 two bs) bs out y (parted-spelled f 32 two p (two_digits f) (inl (spells.space refl, m)) bs h) r

  -- two digits each, and a mark between two octets
  pub marks-read : (f.mark ≡ 0 → ⊥) → read_of f (parted f.mark two bs) out ≡ ended (Octets (length bs)) (over 0 bs out)
  marks-read m =
      spelled-read f (parted f.mark two bs) bs out y (parted-spelled f f.mark two p (two_digits f) (inr record { is = refl; some = m }) bs h) r

  -- no leading zeros, and a mark between two octets, as dhclient writes them
  pub short-read : f.single ≡ true → (f.mark ≡ 0 → ⊥) → read_of f (parted f.mark short bs) out ≡ ended (Octets (length bs)) (over 0 bs out)
  short-read s m =
      spelled-read f (parted f.mark short bs) bs out y
      (parted-spelled f f.mark short p (short-digits f s) (inr record { is = refl; some = m }) bs h)
      r

  -- two digits each, and nothing between octets
  pub joined-read : (f.lines ≡ true) ⊎ ((f.lines ≡ false) × (f.whole ≡ true)) → read_of f (hex_of bs) out ≡ ended (Octets (length bs)) (over 0 bs out)
  joined-read w = spelled-read f (hex_of bs) bs out y (joined-spelled f p w bs h) r

-- ---- marks

-- signs, and no mark
pub data Sign (x : ℕ) : Type 0 where
  none : x ≡ 0 → Sign x
  low : 33 ≤ x → x < 48 → Sign x
  high : 58 ≤ x → x < 65 → Sign x

digit-where : {x v : ℕ} → Digit x v → (48 ≤ x) × ((x < 58) ⊎ (65 ≤ x))
digit-where (decimal h e) = (omega arith, inl (omega arith))
digit-where (upper h k e) = (omega arith, inr (omega arith))
digit-where (lower h k e) = (omega arith, inr (omega arith))

ex-where : {x : ℕ} → Ex x → 65 ≤ x
ex-where (spells.lower e) = omega arith
ex-where (spells.upper e) = omega arith

blank-where : {x : ℕ} → Blank x → (1 ≤ x) × (x < 33)
blank-where (spells.space e) = (omega arith, omega arith)
blank-where (spells.tab e) = (omega arith, omega arith)
blank-where (spells.carriage_return e) = (omega arith, omega arith)

-- a sign is told from blanks, digits and the x of 0x
pub sign-proper : (f : Kind) → Sign f.mark → Proper f
sign-proper f s =
    record {
      no_break = λ e. break s e;
      no_blank = λ b. apart s (blank-where b);
      no_digit = λ v d. other s (digit-where d).0 (digit-where d).1;
      no_ex = λ e. other s (let h = ex-where e in omega arith) (inr (ex-where e));
    }
  where
    break : Sign f.mark → f.mark ≡ 10 → ⊥
    break (none z) e = absurd (omega arith)
    break (low h k) e = absurd (omega arith)
    break (high h k) e = absurd (omega arith)

    apart : Sign f.mark → (1 ≤ f.mark) × (f.mark < 33) → ⊥
    apart (none z) b = absurd (omega arith)
    apart (low h k) b = absurd (omega arith)
    apart (high h k) b = absurd (omega arith)

    other : Sign f.mark → 48 ≤ f.mark → (f.mark < 58) ⊎ (65 ≤ f.mark) → ⊥
    other (none z) d e = absurd (omega arith)
    other (low h k) d e = absurd (omega arith)
    other (high h k) d (inl e) = absurd (omega arith)
    other (high h k) d (inr e) = absurd (omega arith)
