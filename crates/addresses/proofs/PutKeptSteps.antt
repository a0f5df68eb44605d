-- What the proof of `addresses::put_kept` says of its loop. Assumes nothing.
use Rattle.std.proofs.Common.{arith, ◌≡◌, refl, sym, ap, ◌∙◌, Bool, true, false, not, List, [], ◌++◌, append_assoc, append-nil, ℕ, ◌+◌, ◌≤◌, ◌<◌, length, length-append}
use Rattle.octets.specs.Lists.{flat}
use Rattle.octets.specs.Over.{Wrote}
use Rattle.octets.specs.OverLaws.{then, wrote_none}
use Rattle.addresses.specs.Addresses.{Width, unusable, list_of, kept_of}
use Rattle.addresses.specs.AddressesLaws.{kept-drop, kept-keep, kept-end}

-- the kept addresses of s are written from o to next, up to those of the rest
pub record Keeping (w : ℕ) (s : List ℕ) (o : ℕ) (out₀ : List ℕ) (rest : List ℕ) (next : ℕ) (out : List ℕ) : Type 0 where
  pub passed : List ℕ
  pub wrote : Wrote o passed out₀ next out
  pub whole : flat (kept_of w (list_of w s)) ≡ passed ++ flat (kept_of w (list_of w rest))
  pub same : length out ≡ length out₀

module _ {w : ℕ} {s : List ℕ} {o : ℕ} {out₀ : List ℕ} where
  pub keeping_start : o + length (flat (kept_of w (list_of w s))) ≤ length out₀ → Keeping w s o out₀ s o out₀
  keeping_start h = record { passed = []; wrote = wrote_none (omega arith); whole = refl; same = refl }

  pub keeping-done : {rest : List ℕ} {next : ℕ} {out : List ℕ} → length rest < w → Keeping w s o out₀ rest next out
      → Wrote o (flat (kept_of w (list_of w s))) out₀ next out
  keeping-done {rest} h k =
      let e : flat (kept_of w (list_of w s)) ≡ k.passed = k.whole ∙ rw (kept-end w rest h) (append-nil k.passed) in
      rw e k.wrote

  module _ {rest : List ℕ} (a more : List ℕ) {next : ℕ} {out : List ℕ} {r : Bool} (wide : Width w) (size : length a ≡ w) (q : rest ≡ a ++ more)
      (e : r ≡ unusable w a) (k : Keeping w s o out₀ rest next out) where
    -- an address that is dropped
    pub keeping-drop : not r ≡ false → Keeping w s o out₀ more next out
    keeping-drop t =
        record {
          passed = k.passed;
          wrote = k.wrote;
          whole = k.whole ∙ ap (λ (l : List (List ℕ)). k.passed ++ flat l) (kept-drop w rest a more wide size q e t);
          same = k.same;
        }

    module _ (t : not r ≡ true) where
      pub keeping-whole : flat (kept_of w (list_of w s)) ≡ k.passed ++ a ++ flat (kept_of w (list_of w more))
      keeping-whole =
          k.whole
          ∙ ap (λ (l : List (List ℕ)). k.passed ++ flat l) (kept-keep w rest a more wide size q e t)
          ∙ sym (append_assoc k.passed a (flat (kept_of w (list_of w more))))

      -- an address that is kept has room
      pub keeping-room : o + length (flat (kept_of w (list_of w s))) ≤ length out₀ → next + length a ≤ length out
      keeping-room room = omega (arith, k.wrote.next, k.same, simp length-append at (ap length keeping-whole))

      -- an address that is kept, written
      pub keeping-keep : {next' : ℕ} {out' : List ℕ} → Wrote next a out next' out' → length out' ≡ length out → Keeping w s o out₀ more next' out'
      keeping-keep v l = record { passed = k.passed ++ a; wrote = then k.wrote v; whole = keeping-whole; same = l ∙ k.same }
