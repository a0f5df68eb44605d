-- Why a name as text is bad at its first bad place: along the walk of the check, what stands before the place. Assumes nothing.
use Rattle.std.specs.Prelude.{◌≡◌, refl, ◌⊎◌, true, false, cond, ℕ, ◌+◌, ◌-◌, ◌≤◌, ◌<◌, leb, eqb, get_or}
use Rattle.std.proofs.Common.{sym, ap₂, ◌∙◌, subst, inl, inr, true≢false, arith, length-append, get_or-append-add}
use Rattle.std.proofs.Math.Path.{ap}
use mathlib.Core.List.{List, [], ◌∷◌, ◌++◌, append_assoc}
use Rattle.std.proofs.Math.ListN.{length}
use Rattle.std.proofs.lemmas.List.{get_or_at}
use borrow.Author.Tests.{eqb-true, eqb-false, leb-true, leb-false, eq-eqb, ne_eqb}
use Rattle.octets.specs.Cases.{by-test}
use Rattle.octets.specs.Lists.{All}
use Rattle.names.specs.Names.{alnum, head, last, Ldh}
use Rattle.names.specs.Sound.{nil-of}
use Rattle.reasons.specs.Reason as reason
use Rattle.reasons.specs.Names.{before, dot_reason, hyphen_reason, letter_reason, text_octet, text_reason}
use Rattle.reasons.specs.NamesLaws.{last-append, text-dot, text-hyphen, text-within}
use Rattle.reasons.specs.Claims as claims
use Rattle.reasons.specs.Claims.{pointed, InText, Ends, TextWhy}

-- ---- labels and dots

pointed-part : (ls : List (List ℕ)) (a b : List ℕ) → pointed ls (a ++ b) ≡ pointed ls a ++ b
pointed-part [] a b = refl
pointed-part (l ∷ ls) a b =
    ap (λ (t : List ℕ). l ++ (46 ∷ t)) (pointed-part ls a b)
    ∙ sym (append_assoc l (46 ∷ pointed ls a) b)

pub pointed-length : (ls : List (List ℕ)) (t : List ℕ) → length (pointed ls t) ≡ length (pointed ls []) + length t
pointed-length ls t = ap length (pointed-part ls [] t) ∙ length-append (pointed ls []) t

pub pointed-snoc : (ls : List (List ℕ)) (l t : List ℕ) → pointed (ls ++ (l ∷ [])) t ≡ pointed ls (l ++ (46 ∷ t))
pointed-snoc [] l t = refl
pointed-snoc (m ∷ ms) l t = ap (λ (q : List ℕ). m ++ (46 ∷ q)) (pointed-snoc ms l t)

-- ---- the octets beside a place

last-pointed : (ls : List (List ℕ)) (t : List ℕ) → last 46 (pointed ls t) ≡ last 46 t
last-pointed [] t = refl
last-pointed (l ∷ ls) t = last-append 46 46 l (pointed ls t) ∙ last-pointed ls t

before-is : (front rest : List ℕ) (n : ℕ) → n ≡ length front → before (front ++ rest) n ≡ last 46 front
before-is [] rest n e = simp (eq-eqb n 0 e)
before-is (y ∷ front) rest n e =
    let z : n - 1 ≡ length front = omega arith in
    simp (ne_eqb n 0 (λ q. omega arith)) (ap (λ (m : ℕ). get_or (y ∷ (front ++ rest)) m 46) z ∙ go y front)
  where
    go : (y : ℕ) (front : List ℕ) → get_or (y ∷ (front ++ rest)) (length front) 46 ≡ last y front
    go y [] = refl
    go y (x ∷ front) = go x front

head-is : (t : List ℕ) → get_or t 0 46 ≡ head 46 t
head-is [] = refl
head-is (x ∷ t) = refl

-- octets of a label before a place end with no dot
last-dot : (l : List ℕ) → All Ldh l → last 46 l ≡ 46 → length l ≡ 0
unfolding alnum
last-dot [] o e = refl
last-dot (x ∷ l) o e = absurd (go x l o.0 o.1 e)
  where
    not-dot : (y : ℕ) → Ldh y → y ≡ 46 → ⊥
    not-dot y (inl a) e = true≢false (sym a ∙ ap alnum e)
    not-dot y (inr q) e = omega arith

    go : (y : ℕ) (l : List ℕ) → Ldh y → All Ldh l → last y l ≡ 46 → ⊥
    go y [] h o e = not-dot y h e
    go y (x ∷ l) h o e = go x l o.0 o.1 e

pub last-any : (d e : ℕ) (l : List ℕ) → 1 ≤ length l → last d l ≡ last e l
last-any d e [] h = absurd (omega arith)
last-any d e (x ∷ l) h = refl

-- ---- the reason at a place

module _ (s : List ℕ) (p : ℕ) (begun rest : List ℕ) (i : InText s p begun rest) where
  split : s ≡ pointed i.labels begun ++ rest
  split = i.is ∙ pointed-part i.labels begun rest

  whole : length s ≡ p + length rest
  whole = let a = ap length split in let b = length-append (pointed i.labels begun) rest in let q = i.place in omega arith

  prior : before s p ≡ last 46 begun
  prior = ap (λ (l : List ℕ). before l p) split ∙ before-is (pointed i.labels begun) rest p i.place ∙ last-pointed i.labels begun

reason-at : (s : List ℕ) (p : ℕ) (begun : List ℕ) (x : ℕ) (t : List ℕ) → InText s p begun (x ∷ t)
    → text_reason s p ≡ text_octet (last 46 begun) (head 46 t) p x
reason-at s p begun x t i =
    let front = pointed i.labels begun in
    let w = whole s p begun (x ∷ t) i in
    let e = split s p begun (x ∷ t) i in
    let here : get_or s p 0 ≡ x = ap (λ (l : List ℕ). get_or l p 0) e ∙ get_or_at front x t 0 p (sym i.place) in
    let next : get_or s (p + 1) 46 ≡ head 46 t =
    ap₂ (λ (l : List ℕ) (n : ℕ). get_or l (n + 1) 46) e i.place ∙ get_or-append-add front (x ∷ t) 1 46 ∙ head-is t in
    sym (text-within s p (λ z. omega arith) (sym (prior s p begun (x ∷ t) i)) {n = head 46 t} (omega arith) (sym next) refl)
    ∙ ap (text_octet (last 46 begun) (head 46 t) p) here

-- ---- where it stops

ends_of : (t : List ℕ) → head 46 t ≡ 46 → Ends t
ends_of [] e = inl refl
ends_of (y ∷ u) e = inr (u, ap (λ (v : ℕ). v ∷ u) e)

goes_on : (t : List ℕ) → (head 46 t ≡ 46 → ⊥) → (y : ℕ) × (u : List ℕ) × (t ≡ y ∷ u) × (y ≡ 46 → ⊥)
goes_on [] n = absurd (n refl)
goes_on (y ∷ u) n = (y, u, refl, n)

module _ (s : List ℕ) (p : ℕ) (begun : List ℕ) (x : ℕ) (t : List ℕ) (i : InText s p begun (x ∷ t)) where
  abbrev y : ℕ
  y = last 46 begun

  abbrev n : ℕ
  n = head 46 t

  abbrev Says : ℕ → Type 0
  Says r = TextWhy s p r

  with-octet : (v : ℕ) → x ≡ v → InText s p begun (v ∷ t)
  with-octet v e = subst (λ (w : ℕ). InText s p begun (w ∷ t)) e i

  alone : (v : ℕ) → x ≡ v → y ≡ 46 → InText s p [] (v ∷ t)
  alone v e q = subst (λ (b : List ℕ). InText s p b (v ∷ t)) (nil-of begun (last-dot begun i.octets q)) (with-octet v e)

  begun-some : (y ≡ 46 → ⊥) → 1 ≤ length begun
  begun-some = go begun
    where
      go : (b : List ℕ) → (last 46 b ≡ 46 → ⊥) → 1 ≤ length b
      go [] q = absurd (q refl)
      go (z ∷ b) q = omega arith

  too_long : 252 ≤ p → (n ≡ 46 → ⊥) → Says reason.long
  too_long h q =
      let w = whole s p begun (x ∷ t) i in
      let g = goes_on t q in
      let l = ap length g.2 in
      claims.long refl (omega arith)

  dot-why : x ≡ 46 → (1 ≤ length begun → (last 46 begun ≡ 45 → ⊥) → 252 ≤ p) → Says (dot_reason y n)
  dot-why e h =
      by-test (eqb y 46) (λ b. Says (cond b reason.dot (cond (eqb y 45) reason.hyphen (cond (eqb n 46) reason.dot reason.long))))
      (λ a. claims.dot refl t (alone 46 e (eqb-true _ _ a)))
      (λ a. let some = begun-some (eqb-false _ _ a) in
      by-test (eqb y 45) (λ b. Says (cond b reason.hyphen (cond (eqb n 46) reason.dot reason.long)))
      (λ b. claims.hyphen_last refl begun (46 ∷ t) (with-octet 46 e) (last-any 0 46 begun some ∙ eqb-true _ _ b) (inr (t, refl)))
      (λ b. by-test (eqb n 46) (λ c. Says (cond c reason.dot reason.long))
      (λ c. claims.dot_far refl begun t (with-octet 46 e) (ends_of t (eqb-true _ _ c)))
      (λ c. too_long (h some (eqb-false _ _ b)) (eqb-false _ _ c))))

  hyphen-why : x ≡ 45 → (1 ≤ length begun → (62 ≤ length begun) ⊎ (252 ≤ p)) → Says (hyphen_reason y n p)
  hyphen-why e h =
      by-test (eqb y 46) (λ b. Says (cond b reason.hyphen (cond (eqb n 46) reason.hyphen (cond (leb 252 p) reason.long reason.label))))
      (λ a. claims.hyphen refl t (alone 45 e (eqb-true _ _ a)))
      (λ a. by-test (eqb n 46) (λ b. Says (cond b reason.hyphen (cond (leb 252 p) reason.long reason.label)))
      (λ b. claims.hyphen_far refl begun t (with-octet 45 e) (ends_of t (eqb-true _ _ b)))
      (λ b. by-test (leb 252 p) (λ c. Says (cond c reason.long reason.label))
      (λ c. too_long (leb-true _ _ c) (eqb-false _ _ b))
      (λ c. full (h (begun-some (eqb-false _ _ a))) (leb-false _ _ c) (goes_on t (eqb-false _ _ b)))))
    where
      full : (62 ≤ length begun) ⊎ (252 ≤ p) → p < 252 → (z : ℕ) × (u : List ℕ) × (t ≡ z ∷ u) × (z ≡ 46 → ⊥) → Says reason.label
      full (inl q) l g =
          claims.label refl begun (45 ∷ g.0 ∷ []) g.1
          (subst (λ (v : List ℕ). InText s p begun (45 ∷ v)) g.2 (with-octet 45 e))
          ((λ z. omega arith), (g.3, tt))
          (omega arith)
      full (inr q) l g = absurd (omega arith)

  letter-why : (x ≡ 46 → ⊥) → (63 ≤ length begun) ⊎ (253 ≤ p) → Says (letter_reason p)
  letter-why d h =
      let w = whole s p begun (x ∷ t) i in
      by-test (leb 253 p) (λ c. Says (cond c reason.long reason.label))
      (λ c. let l : 253 ≤ p = leb-true _ _ c in claims.long refl (omega arith))
      (λ c. full h (leb-false _ _ c))
    where
      full : (63 ≤ length begun) ⊎ (253 ≤ p) → p < 253 → Says reason.label
      full (inl q) l = claims.label refl begun (x ∷ []) t i (d, tt) (omega arith)
      full (inr q) l = absurd (omega arith)

  pub stop-why : (x ≡ 46 → 1 ≤ length begun → (last 46 begun ≡ 45 → ⊥) → 252 ≤ p)
      → (x ≡ 45 → 1 ≤ length begun → (62 ≤ length begun) ⊎ (252 ≤ p))
      → (alnum x ≡ true → (63 ≤ length begun) ⊎ (253 ≤ p))
      → TextWhy s p (text_reason s p)
  stop-why hd hh ha = subst Says (sym (reason-at s p begun x t i)) judged
    where
      other : alnum x ≡ false → (x ≡ 45 → ⊥) → Ldh x → ⊥
      other a q (inl b) = true≢false (sym b ∙ a)
      other a q (inr b) = q b

      letters : ℕ
      letters = cond (alnum x) (letter_reason p) reason.octet

      hyphens : ℕ
      hyphens = cond (eqb x 45) (hyphen_reason y n p) letters

      judged : Says (text_octet y n p x)
      judged =
          by-test (eqb x 95) (λ b. Says (cond b reason.underscore (cond (eqb x 46) (dot_reason y n) hyphens)))
          (λ u. claims.underscore refl begun t (with-octet 95 (eqb-true _ _ u)))
          (λ u. by-test (eqb x 46) (λ b. Says (cond b (dot_reason y n) hyphens))
          (λ d. let e : x ≡ 46 = eqb-true _ _ d in dot-why e (hd e))
          (λ d. by-test (eqb x 45) (λ b. Says (cond b (hyphen_reason y n p) letters))
          (λ h. let e : x ≡ 45 = eqb-true _ _ h in hyphen-why e (hh e))
          (λ h. by-test (alnum x) (λ b. Says (cond b (letter_reason p) reason.octet))
          (λ a. letter-why (eqb-false _ _ d) (ha a))
          (λ a. claims.octet refl x begun t i (other a (eqb-false _ _ h)) (eqb-false _ _ d) (eqb-false _ _ u)))))

-- at the end
module _ (s : List ℕ) (p : ℕ) (begun : List ℕ) (i : InText s p begun []) where
  pub end-start : length begun ≡ 0 → TextWhy s p (text_reason s p)
  unfolding text_reason
  end-start z =
      let e = nil-of begun z in
      let w = whole s p begun [] i in
      by-test (eqb (length s) 0) (λ _. TextWhy s p (text_reason s p))
      (λ t. let q : length s ≡ 0 = eqb-true _ _ t in claims.empty (simp (eq-eqb _ _ q)) q (omega arith))
      (λ t. let q : length s ≡ 0 → ⊥ = eqb-false _ _ t in
      claims.dot_last (sym (text-dot s p q {b = 46} (sym (prior s p begun [] i ∙ ap (last 46) e)) (omega arith) refl))
      (omega (arith, q))
      (subst (λ (b : List ℕ). InText s p b []) e i))

  pub end-hyphen : 1 ≤ length begun → last 0 begun ≡ 45 → TextWhy s p (text_reason s p)
  end-hyphen h e =
      let w = whole s p begun [] i in
      let q = i.place in
      let l = pointed-length i.labels begun in
      claims.hyphen_last
      (sym (text-hyphen s p (λ z. omega arith) {b = 45} (sym (prior s p begun [] i ∙ last-any 46 0 begun h ∙ e)) (omega arith)
      (λ z. omega arith)))
      begun [] i e (inl refl)
