-- Lines of values become an area that is framed as exactly those values: what `--value` reads is what the lines spell, value by value. Assumes nothing.
use Rattle.std.proofs.Math.Path.{◌≡◌, refl}
use Rattle.std.proofs.Common.{sym, ap, ◌∙◌, subst, append_assoc, append-nil, arith}
use Rattle.std.specs.Prelude.{Bool, true, false, cond, List, [], ◌∷◌, ◌++◌, map, ℕ, ◌+◌, ◌≤◌, eqb, take}
use Rattle.std.proofs.Math.ListN.{length}
use Rattle.std.proofs.lemmas.Bool.{eqb-false}
use Rattle.octets.specs.Lists.{All}
use Rattle.carriers.specs.declared.Carrier.{Carrier}
use Rattle.inputs.specs.Read.{Read, Octets, Bad, Long}
use Rattle.forms.specs.Forms.{list_of}
use Rattle.headers.specs.Headers.{Held, Framed, area_of, headed_of}
use Rattle.headers.specs.HeadersLaws.{Sound, Lays, add-length, add-lays}
use Rattle.headers.specs.Exactly.{headed-exactly}
use Rattle.decoding.specs.Decoding.{room, added_of, listed_of, line_of, lines_in, after_line, lines_from, lines_of}
use Rattle.decoding.specs.DecodingLaws.{value-octets, line-sound}
use Rattle.decoding.specs.Values.{octets_in, value_in, some, values_in}

-- the first octets of `after` are those before and the options of values that the carrier's options hold
record Adds (c : Carrier) (vs : List (List ℕ)) (before after : List ℕ) : Type 0 where
  pub are : after ≡ before ++ area_of c vs
  pub held : All (Held c) vs

-- ---- a line

module _ (c : Carrier) (line out : List ℕ) (n : ℕ) where
  line-length : length (line_of c line out n).out ≡ length out
  unfolding line_of
  line-length = go (list_of line room).read
    where
      go : (p : Read) → length (added_of c p (list_of line room).out out n).out ≡ length out
      go (Octets k) = add-length out n c (take k (list_of line room).out)
      go (Bad at w) = refl
      go Long = refl

  line-lays : {m : ℕ} → n ≤ length out → (line_of c line out n).read ≡ Octets m → Lays c (value_in line) (take n out) (take m (line_of c line out n).out)
  unfolding line_of value_in
  line-lays {m} h e = go (list_of line room).read (value-octets line (listed_of c line out n).read e)
    where
      go : (p : Read) → (added_of c p (list_of line room).out out n).read ≡ Octets m
          → Lays c (octets_in p (list_of line room).out) (take n out) (take m (added_of c p (list_of line room).out out n).out)
      go (Octets k) e = add-lays out n c (take k (list_of line room).out) h e
      go (Bad at w) e = let z : ◌≡◌ {A = ℕ} 0 1 = cc in absurd (omega arith)
      go Long e = let z : ◌≡◌ {A = ℕ} 0 1 = cc in absurd (omega arith)

-- ---- lines

adds-more : (c : Carrier) (v : List ℕ) (vs : List (List ℕ)) {a b d : List ℕ} → Lays c v a b → Adds c (some vs) b d → Adds c (some (v ∷ vs)) a d
unfolding some
adds-more c v vs {a} {b} {d} w u = go (eqb (length v) 0) refl
  where
    go : (x : Bool) → eqb (length v) 0 ≡ x → Adds c (cond (eqb (length v) 0) (some vs) (v ∷ some vs)) a d
    go true e =
        let q : b ≡ a = w.are ∙ ap (λ (x : Bool). a ++ cond x [] (headed_of c v)) e ∙ append-nil a in
        rw e (record { are = u.are ∙ ap (λ (l : List ℕ). l ++ area_of c (some vs)) q; held = u.held })
    go false e =
        let q : b ≡ a ++ headed_of c v = w.are ∙ ap (λ (x : Bool). a ++ cond x [] (headed_of c v)) e in
        rw e
        (record {
          are = u.are ∙ ap (λ (l : List ℕ). l ++ area_of c (some vs)) q ∙ append_assoc a (headed_of c v) (area_of c (some vs));
          held = (w.held (eqb-false (length v) 0 e), u.held);
        })

from-adds : (c : Carrier) (i n : ℕ) (out : List ℕ) (ls : List (List ℕ)) {m : ℕ} → n ≤ length out → (lines_from c i n out ls).read ≡ Octets m
    → Adds c (some (map value_in ls)) (take n out) (take m (lines_from c i n out ls).out)
unfolding lines_from some
from-adds c i n out [] {m} h e =
    let k : m ≡ n = cc in
    record { are = ap (λ (j : ℕ). take j out) k ∙ sym (append-nil (take n out)); held = tt }
from-adds c i n out (l ∷ ls) {m} h e =
    go (line_of c l out n).read refl (λ j k. from-adds c (i + (length l + 1)) j (line_of c l out n).out ls k) e
  where
    o : List ℕ
    o = (line_of c l out n).out

    go : (r : Read) → (line_of c l out n).read ≡ r
        → ((j : ℕ) → j ≤ length o → (lines_from c (i + (length l + 1)) j o ls).read ≡ Octets m
        → Adds c (some (map value_in ls)) (take j o) (take m (lines_from c (i + (length l + 1)) j o ls).out))
        → (after_line i r o (λ j out'. lines_from c (i + (length l + 1)) j out' ls)).read ≡ Octets m
        → Adds c (some (value_in l ∷ map value_in ls)) (take n out) (take m (after_line i r o (λ j out'. lines_from c (i + (length l + 1)) j out' ls)).out)
    go (Octets j) q rest e =
        let few : j ≤ length out = subst (Sound (length out) (length l)) q (line-sound c l out n h) in
        let size = line-length c l out n in
        adds-more c (value_in l) (map value_in ls) (line-lays c l out n h q) (rest j (omega arith) e)
    go (Bad at w) q rest e = let z : ◌≡◌ {A = ℕ} 0 1 = cc in absurd (omega arith)
    go Long q rest e = let z : ◌≡◌ {A = ℕ} 0 1 = cc in absurd (omega arith)

-- ---- the theorem

-- where lines are read, the options of their values stand at the front of the buffer, and these are framed as exactly the values
pub lines-exactly : (c : Carrier) (text out : List ℕ) {n : ℕ} → (lines_of c text out).read ≡ Octets n
    → (take n (lines_of c text out).out ≡ area_of c (values_in text)) × Framed c (values_in text)
lines-exactly c text out {n} e =
    let a = from-adds c 0 0 out (lines_in text) (omega arith) e in
    (a.are, headed-exactly c (values_in text) a.held)
