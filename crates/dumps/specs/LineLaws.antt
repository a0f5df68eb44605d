-- The octets of a line so far, where the column stands beside them, and one octet more. Assumes nothing.
use Rattle.std.specs.Prelude.{◌≡◌, Bool, List, [], ◌∷◌, ◌++◌, ℕ, ◌+◌, ◌≤◌, ◌<◌, length, get_or, set, take, drop}
use Rattle.std.proofs.Common.{sym, ap, subst, ◌∙◌, append_assoc, add-one, arith, length-append, length-set, length-take-le, take-suc-set, get_or-append-add, get_or-take}
use Rattle.std.proofs.lemmas.List.{drop-append-le, take-append-le}
use Rattle.std.proofs.Math.Seq.{take-length, drop-length}
use Rattle.octets.specs.ListsLaws.{all_append}
use Rattle.dumps.specs.declared.Style.{Style}
use Rattle.dumps.specs.Shows.{Blank, Blanks, Shown, Faint}
use Rattle.dumps.specs.Places.{Lined, Aside}

-- ---- lists

-- a blank more
pub blanks-more : (l : List ℕ) (x : ℕ) → Blanks l → Blank x → Blanks (l ++ (x ∷ []))
blanks-more l x b c = all_append Blank l (x ∷ []) b (c, tt)

pub snoc-two : (a b : List ℕ) (x : ℕ) {l : List ℕ} → l ≡ a ++ b → l ++ (x ∷ []) ≡ a ++ (b ++ (x ∷ []))
snoc-two a b x e = ap (λ (l : List ℕ). l ++ (x ∷ [])) e ∙ append_assoc a b (x ∷ [])

pub snoc-three : (a b c : List ℕ) (x : ℕ) {l : List ℕ} → l ≡ a ++ (b ++ c) → l ++ (x ∷ []) ≡ a ++ (b ++ (c ++ (x ∷ [])))
snoc-three a b c x e = snoc-two a (b ++ c) x e ∙ ap (λ (l : List ℕ). a ++ l) (append_assoc b c (x ∷ []))

-- ---- the octets of a line

module _ {f : Style} {stood : Bool} {y u l z : ℕ} {sd ed cd : Bool} {n : ℕ} {out now cs : List ℕ} (a : Lined f stood y u l z sd ed cd n out now cs) where
  pub lined-count : n ≡ length now + length cs
  lined-count = sym (length-take-le n out a.size) ∙ ap length a.octets ∙ length-append now cs

  -- the octet at an index of the line
  pub lined-at : (k : ℕ) → k < length cs → get_or out (length now + k) 0 ≡ get_or cs k 0
  lined-at k h =
      let c = lined-count in
      let e : length now + k < n = omega arith in
      sym (get_or-take n out (length now + k) 0 e)
      ∙ ap (λ (o : List ℕ). get_or o (length now + k) 0) a.octets
      ∙ get_or-append-add now cs k 0

  -- the column has none of them to show
  pub lined-bare : z ≤ l → Faint f cs
  lined-bare h =
      let e : a.shown ≡ 0 = omega (arith, a.to, a.here) in
      subst (Faint f) (ap (λ (i : ℕ). drop i cs) e) a.faint

  -- one octet more
  module _ (o : ℕ) (h : n < length out) where
    next-octets : take (n + 1) (set out n o) ≡ now ++ (cs ++ (o ∷ []))
    next-octets =
        ap (λ (i : ℕ). take i (set out n o)) (add-one n)
        ∙ take-suc-set out n o h
        ∙ ap (λ (p : List ℕ). p ++ (o ∷ [])) a.octets
        ∙ append_assoc now cs (o ∷ [])

    room : n + 1 ≤ length (set out n o)
    room = simp length-set (omega arith)

    length_more : length (cs ++ (o ∷ [])) ≡ length cs + 1
    length_more = length-append cs (o ∷ [])

    -- that the column has to show
    pub lined-solid : Lined f stood y u l (n + 1) sd ed cd (n + 1) (set out n o) now (cs ++ (o ∷ []))
    lined-solid =
        let c = lined-count in
        record {
          good = a.good;
          filled = omega (arith, a.filled);
          size = room;
          octets = next-octets;
          here = a.here;
          none = a.none;
          going = a.going;
          column = a.column;
          shown = length (cs ++ (o ∷ []));
          to = omega (arith, c, length_more);
          few = omega arith;
          faint = subst (Faint f) (sym (drop-length (cs ++ (o ∷ [])))) tt;
        }

    -- that it shows as a blank
    pub lined-faint : Shown f o 32 → Lined f stood y u l z sd ed cd (n + 1) (set out n o) now (cs ++ (o ∷ []))
    lined-faint s = record {
      good = a.good;
      filled = omega (arith, a.filled);
      size = room;
      octets = next-octets;
      here = a.here;
      none = a.none;
      going = a.going;
      column = a.column;
      shown = a.shown;
      to = a.to;
      few = omega (arith, length_more, a.few);
      faint = subst (Faint f) (sym (drop-append-le a.shown cs (o ∷ []) a.few))
          (all_append (λ b. Shown f b 32) (drop a.shown cs) (o ∷ []) a.faint (s, tt));
    }

module _ {f : Style} {e : ℕ} {now cs : List ℕ} (a : Aside f e now cs) (o : ℕ) where
  pub aside-more : Aside f e now (cs ++ (o ∷ []))
  aside-more = record {
    index = a.index;
    is = a.is;
    few = omega (arith, a.few, length-append cs (o ∷ []));
    faint = subst (Faint f) (sym (take-append-le a.index cs (o ∷ []) a.few)) a.faint;
  }

  pub aside-front : (n : ℕ) → n ≡ length now + length cs → e ≡ n → Shown f o 32 → Aside f (n + 1) now (cs ++ (o ∷ []))
  aside-front n c q s =
      let k : a.index ≡ length cs = omega (arith, a.is) in
      let w : take a.index cs ≡ cs = ap (λ (i : ℕ). take i cs) k ∙ take-length cs in
      record {
        index = length (cs ++ (o ∷ []));
        is = omega (arith, length-append cs (o ∷ []));
        few = omega arith;
        faint = subst (Faint f) (sym (take-length (cs ++ (o ∷ []))))
            (all_append (λ b. Shown f b 32) cs (o ∷ []) (subst (Faint f) w a.faint) (s, tt));
      }
