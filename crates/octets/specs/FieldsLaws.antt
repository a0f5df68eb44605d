-- The laws of fields: what was written is read (`-read`), and what was read was written so (`-says`). Assumes nothing.
use Rattle.std.specs.Prelude.{◌≡◌, Bool, cond, List, ◌++◌, ℕ, ◌^◌, ◌≤◌, ◌<◌, take, drop}
use Rattle.std.proofs.Math.Path.{refl, ap}
use Rattle.std.proofs.Common.{◌∙◌, arith, le-leb, leb-true, length-take-le}
use Rattle.std.proofs.Math.Bool.{true, false}
use Rattle.std.proofs.Math.Dec.{leb}
use Rattle.std.proofs.Math.ListN.{length, length-append, take-append-drop}
use Rattle.std.proofs.Math.Seq.{take_at, drop_at}
use Rattle.octets.specs.ListsLaws.{all_take, all_drop}
use Rattle.octets.specs.Numbers.{be, val, Octet, Bytes}
use Rattle.octets.specs.NumbersLaws.{length-be, val-be, be-val, val-small}
use Rattle.octets.specs.Fields.{part, number, counted, put_counted}

module _ {R : Type 0} (stop : R) where
  -- ---- written, then read

  pub part-read : (n : ℕ) (x l : List ℕ) (next : List ℕ → List ℕ → R) → length x ≡ n → part stop n (x ++ l) next ≡ next x l
  unfolding part
  part-read n x l next e =
      let h : n ≤ length (x ++ l) = simp length-append (omega arith) in
      rw (le-leb n (length (x ++ l)) h, take_at x l n e, drop_at x l n e)

  pub number_read : (w v : ℕ) (l : List ℕ) (next : ℕ → List ℕ → R) → v < 256 ^ w → number stop w (be w v ++ l) next ≡ next v l
  unfolding number
  number_read w v l next h = part-read w (be w v) l (λ x l. next (val x) l) (length-be w v) ∙ ap (λ (n : ℕ). next n l) (val-be w v h)

  pub counted-read : (w : ℕ) (x l : List ℕ) (next : List ℕ → List ℕ → R) → length x < 256 ^ w → counted stop w (put_counted w x l) next ≡ next x l
  unfolding counted
  counted-read w x l next h = number_read w (length x) (x ++ l) (λ n l. part stop n l next) h ∙ part-read (length x) x l next refl

  -- ---- read, so it was written: S relates octets and an answer, and holds of every `stop`

  pub part_says : (n : ℕ) (S : List ℕ → R → Type 0) (l : List ℕ) (next : List ℕ → List ℕ → R) → Bytes l → S l stop
      → ((x r : List ℕ) → length x ≡ n → Bytes x → Bytes r → S (x ++ r) (next x r)) → S l (part stop n l next)
  unfolding part
  part_says n S l next h s k = go (leb n (length l)) refl
    where
      go : (b : Bool) → leb n (length l) ≡ b → S l (cond b (next (take n l) (drop n l)) stop)
      go false t = s
      go true t = rw take-append-drop at (k (take n l) (drop n l) (length-take-le n l (leb-true _ _ t)) (all_take Octet n l h) (all_drop Octet n l h))

  pub number-says : (w : ℕ) (S : List ℕ → R → Type 0) (l : List ℕ) (next : ℕ → List ℕ → R) → Bytes l → S l stop
      → ((v : ℕ) (r : List ℕ) → v < 256 ^ w → Bytes r → S (be w v ++ r) (next v r)) → S l (number stop w l next)
  unfolding number
  number-says w S l next h s k = part_says w S l (λ x l. next (val x) l) h s (λ x r e hx hr.
      let small : val x < 256 ^ w = rw e at (val-small x hx) in
      let same : be w (val x) ≡ x = rw e at (be-val x hx) in
      rw same at (k (val x) r small hr))

  pub counted-says : (w : ℕ) (S : List ℕ → R → Type 0) (l : List ℕ) (next : List ℕ → List ℕ → R) → Bytes l → ((l : List ℕ) → S l stop)
      → ((x r : List ℕ) → length x < 256 ^ w → Bytes x → Bytes r → S (put_counted w x r) (next x r)) → S l (counted stop w l next)
  unfolding counted
  counted-says w S l next h s k = number-says w S l (λ n l. part stop n l next) h (s l) (λ n l hn h.
      part_says n (λ l. S (be w n ++ l)) l next h (s (be w n ++ l)) (λ x r e hx hr. rw e at (k x r (rw e hn) hx hr)))
