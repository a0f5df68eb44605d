-- How a text of \x and two digits each is read: where a character leads, and the turns of the loop. Assumes nothing.
use Rattle.std.specs.Prelude.{◌≡◌, Bool, true, false, cond, List, [], ◌∷◌, ◌++◌, ℕ, ◌+◌, ◌*◌, ◌≤◌, ◌<◌, length, get_or, set}
use Rattle.std.proofs.Math.Path.{refl, ap}
use Rattle.std.proofs.Common.{sym, ◌∙◌, arith, eq-eqb, ne_eqb, le-leb}
use Rattle.std.proofs.lemmas.Bool.{lt-leb}
use Rattle.std.proofs.Math.ListN.{drop}
use Rattle.hexes.specs.Hexes.{digit}
use Rattle.hexes.specs.Hexes as hexes
use Rattle.inputs.specs.Why as why
use Rattle.inputs.specs.Read.{Read, Octets, Bad, Long}
use Rattle.groups.specs.Escapes.{next, octet_of, Ended, ended, arrive, read_from, read_of, Escaped}
use Rattle.inputs.specs.TextLaws.{closed-cons, closed-end}

module _ (text out₀ : List ℕ) where
  -- i characters were taken, and with those that are left they decide
  pub record Escaping (at high n i : ℕ) (out : List ℕ) : Type 0 where
    pub within : i ≤ length text + 1
    pub rest : read_from at high n i out (drop i (text ++ (10 ∷ []))) ≡ read_of text out₀

module _ {text out₀ : List ℕ} where
  escaped-as : {r : Read} {out : List ℕ} → ended r out ≡ read_of text out₀ → Escaped text out₀ r out
  escaped-as e = record { answered = ap (λ (b : Ended). b.read) e; leaves = ap (λ (b : Ended). b.out) e }

  pub escape-start : Escaping text out₀ 0 48 0 0 out₀
  unfolding read_of
  escape-start = record { within = omega arith; rest = refl }

  module _ {at high n i : ℕ} {out : List ℕ} (c : Escaping text out₀ at high n i out) where
    pub escape-done : length text < i → Escaped text out₀ (Octets n) out
    unfolding read_from
    escape-done h = escaped-as (ap (read_from at high n i out) (sym (closed-end text i h)) ∙ c.rest)

    module _ {x to : ℕ} (h : i ≤ length text) (e : x ≡ get_or text i 10) (d : to ≡ next at x) where
      -- the character leads to `to`
      arrived : arrive to (octet_of high x) n i out (λ m out'. read_from to x m (i + 1) out' (drop (i + 1) (text ++ (10 ∷ [])))) ≡ read_of text out₀
      unfolding read_from
      arrived =
          ap (λ (q : ℕ). arrive q (octet_of high x) n i out (λ m out'. read_from q x m (i + 1) out' (drop (i + 1) (text ++ (10 ∷ []))))) d
          ∙ ap (λ (y : ℕ). read_from at high n i out (y ∷ drop (i + 1) (text ++ (10 ∷ [])))) e
          ∙ ap (read_from at high n i out) (sym (closed-cons text i h))
          ∙ c.rest

      pub escape-none : to ≡ 5 → Escaped text out₀ (Bad i why.form) out
      escape-none z = escaped-as (rw (eq-eqb to 5 z) at arrived)

      pub escape-long : to ≡ 4 → length out ≤ n → Escaped text out₀ Long out
      escape-long z l = escaped-as (rw (ne_eqb to 5 (λ y. absurd (omega arith)), eq-eqb to 4 z, le-leb (length out) n l) at arrived)

      pub escape-octet : {b : ℕ} → to ≡ 4 → n < length out → b ≡ octet_of high x → Escaping text out₀ to x (n + 1) (i + 1) (set out n b)
      escape-octet {b} z l o =
          record {
            within = omega arith;
            rest = ap (λ (y : ℕ). read_from to x (n + 1) (i + 1) (set out n y) (drop (i + 1) (text ++ (10 ∷ [])))) o
                ∙ rw (ne_eqb to 5 (λ y. absurd (omega arith)), eq-eqb to 4 z, lt-leb (length out) n l) at arrived;
          }

      pub escape-on : (to ≡ 5 → ⊥) → (to ≡ 4 → ⊥) → Escaping text out₀ to x n (i + 1) out
      escape-on m k = record { within = omega arith; rest = rw (ne_eqb to 5 m, ne_eqb to 4 k) at arrived }

-- ---- an octet

module _ (x y : ℕ) where
  pub octet-high : digit x ≡ false → 0 ≡ octet_of x y
  octet-high a = rw a

  pub octet-low : digit y ≡ false → 0 ≡ octet_of x y
  octet-low b = go (digit x)
    where
      go : (a : Bool) → 0 ≡ cond a (cond (digit y) (hexes.octet x y) 0) 0
      go true = rw b
      go false = refl

  pub octet-both : {v w : ℕ} → digit x ≡ true → digit y ≡ true → v ≡ hexes.value x → w ≡ hexes.value y → v * 16 + w ≡ octet_of x y
  octet-both a b p q = rw (a, b, p, q)
