-- One record of a sheet: what was written is read, and what is read was written so. Assumes nothing.
use Rattle.std.specs.Prelude.{◌≡◌, refl, Bool, true, false, cond, not, ◌&&◌, List, ◌++◌, ℕ, ◌*◌, ◌/◌, ◌%◌, ◌≤◌, ◌<◌, eqb, length}
use Rattle.std.proofs.Common.{sym, ap, ◌∙◌, append_assoc, append-nil, mul-div_cancel, div-add-mod', arith, le-ltb, eqb-true, eq-eqb}
use Rattle.std.proofs.lemmas.Bool.{false≢true}
use Rattle.std.proofs.Math.Nat.{mul-mod_left}
use Rattle.octets.specs.Cases.{by_less, by_equal}
use Rattle.octets.specs.Numbers.{be, Bytes}
use Rattle.octets.specs.Fields.{put_counted}
use Rattle.octets.specs.FieldsLaws.{part-read, number_read, counted-read, part_says, number-says, counted-says}
use Rattle.carriers.specs.declared.Carrier.{Carrier}
use Rattle.carriers.specs.Carriers.{address_width, lifetime_width}
use Rattle.carriers.proofs.CarriersLaws.{address-width}
use Rattle.blocks.specs.Block.{Fields, name_only, whole}
use Rattle.records.specs.Records.{tail_of, record_of}
use Rattle.taking.specs.Taking.{Records, none, misplaced, full_fields, one_record}
use Rattle.taking.specs.Sheet.{FitsTail, FitsRecord}
use Rattle.taking.specs.WalkLaws.{after_name}

-- ---- a lifetime where none belongs

pub placed : (c : Carrier) (t : ℕ) → misplaced c t ≡ false → lifetime_width c ≡ 0 → t ≡ 0
placed c t e z = go (eqb t 0) refl (rw (eq-eqb (lifetime_width c) 0 z) at e)
  where
    go : (b : Bool) → eqb t 0 ≡ b → not b ≡ false → t ≡ 0
    go true i e = eqb-true t 0 i
    go false i e = absurd (false≢true (sym e))

pub not-misplaced : (c : Carrier) (t : ℕ) → (lifetime_width c ≡ 0 → t ≡ 0) → misplaced c t ≡ false
not-misplaced c t h = go (eqb (lifetime_width c) 0) refl
  where
    go : (b : Bool) → eqb (lifetime_width c) 0 ≡ b → b && not (eqb t 0) ≡ false
    go true e = rw (eq-eqb t 0 (h (eqb-true (lifetime_width c) 0 e)))
    go false e = refl

-- ---- a record's octets and what follows them

-- the octets before a name's length
abbrev opening : ℕ → ℕ → ℕ → List ℕ → List ℕ
opening p t mode l = be 2 p ++ (be 4 t ++ (be 1 mode ++ l))

-- a record of mode 0, and of mode 1, before the octets m
named_put : (c : Carrier) (p t : ℕ) (n m : List ℕ) → record_of c (name_only p t n) ++ m ≡ opening p t 0 (put_counted 1 n m)
unfolding record_of
named_put c p t n m = ap (λ (x : List ℕ). opening p t 0 (be 1 (length n) ++ (x ++ m))) (append-nil n)

abbrev full_tail : Carrier → List ℕ → List ℕ → List ℕ → List ℕ
full_tail c a q m = be 1 (length a / address_width c) ++ (a ++ put_counted 2 q m)

full_put : (c : Carrier) (p t : ℕ) (n a q m : List ℕ) → record_of c (whole p t n a q) ++ m ≡ opening p t 1 (put_counted 1 n (full_tail c a q m))
unfolding record_of
full_put c p t n a q m =
    ap (λ (x : List ℕ). opening p t 1 (be 1 (length n) ++ x))
    (append_assoc n (tail_of (address_width c) true a q) m
    ∙ ap (λ (x : List ℕ). n ++ (be 1 (length a / address_width c) ++ x)) (append_assoc a (be 2 (length q) ++ q) m))

-- ---- written, then read

module _ (c : Carrier) (least : ℕ) (next : Fields → List ℕ → Records) where
  opening-read : (p t mode : ℕ) (n l : List ℕ) → p < 65536 → t < 4294967296 → mode < 256 → length n < 256
      → one_record c least (opening p t mode (put_counted 1 n l)) next ≡ after_name c least next p t mode n l
  opening-read p t mode n l hp ht hm hn =
      number_read none 2 p (be 4 t ++ (be 1 mode ++ put_counted 1 n l)) _ hp
      ∙ number_read none 4 t (be 1 mode ++ put_counted 1 n l) _ ht
      ∙ number_read none 1 mode (put_counted 1 n l) _ hm
      ∙ counted-read none 1 n l (after_name c least next p t mode) hn

  fields_read : (p t : ℕ) (n a q m : List ℕ) → FitsTail (address_width c) true a q → full_fields c p t n (full_tail c a q m) next ≡ next (whole p t n a q) m
  fields_read p t n a q m h =
      let w : ℕ = address_width c in
      let e : length a ≡ length a / w * w = omega (arith, div-add-mod' (length a) w, h.0) in
      number_read none 1 (length a / w) (a ++ put_counted 2 q m) _ h.1
      ∙ part-read none (length a / w * w) a (put_counted 2 q m) _ e
      ∙ counted-read none 2 q m (λ q l. next (whole p t n a q) l) h.2

  pub one-read : (r : Fields) (m : List ℕ) → FitsRecord c r → least ≤ r.priority → one_record c least (record_of c r ++ m) next ≡ next r m
  one-read r m h k = go r.full r.addresses r.parameters h.tail
    where
      go : (b : Bool) (a q : List ℕ) → FitsTail (address_width c) b a q
          → let f : Fields = record { priority = r.priority; lifetime = r.lifetime; full = b; name = r.name; addresses = a; parameters = q } in
          one_record c least (record_of c f ++ m) next ≡ next f m
      go false a q f =
          let e : record { priority = r.priority; lifetime = r.lifetime; full = false; name = r.name; addresses = a; parameters = q }
          ≡ name_only r.priority r.lifetime r.name = rw (f.0, f.1) in
          rw e
          (ap (λ (l : List ℕ). one_record c least l next) (named_put c r.priority r.lifetime r.name m)
          ∙ opening-read r.priority r.lifetime 0 r.name m h.priority h.lifetime (omega arith) h.name
          ∙ rw (le-ltb r.priority least k, not-misplaced c r.lifetime h.placed))
      go true a q f =
          ap (λ (l : List ℕ). one_record c least l next) (full_put c r.priority r.lifetime r.name a q m)
          ∙ opening-read r.priority r.lifetime 1 r.name (full_tail c a q m) h.priority h.lifetime (omega arith) h.name
          ∙ rw (le-ltb r.priority least k, not-misplaced c r.lifetime h.placed) (fields_read r.priority r.lifetime r.name a q m f)

-- ---- read, so it was written

module _ (c : Carrier) (least : ℕ) (next : Fields → List ℕ → Records) (S : List ℕ → Records → Type 0) (stop : (l : List ℕ) → S l none)
    (one : (r : Fields) (m : List ℕ) → FitsRecord c r → least ≤ r.priority → Bytes m → S (record_of c r ++ m) (next r m)) where
  fields-says : (p t : ℕ) (n l : List ℕ) → p < 65536 → t < 4294967296 → length n < 256 → least ≤ p → (lifetime_width c ≡ 0 → t ≡ 0) → Bytes l
      → S (opening p t 1 (put_counted 1 n l)) (full_fields c p t n l next)
  fields-says p t n l hp ht hn hl hz hb =
      let w : ℕ = address_width c in
      number-says none 1 (λ l. S (opening p t 1 (put_counted 1 n l))) l _ hb (stop _) (λ count l hc hb.
      part_says none (count * w) (λ l. S (opening p t 1 (put_counted 1 n (be 1 count ++ l)))) l _ hb (stop _) (λ a l ea _ hb.
      counted-says none 2 (λ l. S (opening p t 1 (put_counted 1 n (be 1 count ++ (a ++ l))))) l _ hb (λ l. stop _) (λ q m hq _ hm.
      let e : length a / w ≡ count = rw ea (mul-div_cancel count (address-width c).0) in
      let z : length a % w ≡ 0 = rw ea (mul-mod_left count w) in
      let f : FitsRecord c (whole p t n a q) = record { priority = hp; lifetime = ht; placed = hz; name = hn; tail = (z, rw e hc, hq) } in
      let made = one (whole p t n a q) m f hl hm in
      rw e at (rw (full_put c p t n a q m) at made))))

  pub one-says : (l : List ℕ) → Bytes l → S l (one_record c least l next)
  one-says l hb =
      number-says none 2 S l _ hb (stop _) (λ p l hp hb.
      number-says none 4 (λ l. S (be 2 p ++ l)) l _ hb (stop _) (λ t l ht hb.
      number-says none 1 (λ l. S (be 2 p ++ (be 4 t ++ l))) l _ hb (stop _) (λ mode l hm hb.
      counted-says none 1 (λ l. S (opening p t mode l)) l (after_name c least next p t mode) hb (λ l. stop _) (λ n l hn _ hb.
      let T : Records → Type 0 = S (opening p t mode (put_counted 1 n l)) in
      let by_mode : Records = cond (eqb mode 0) (next (name_only p t n) l) (cond (eqb mode 1) (full_fields c p t n l next) none) in
      by_less T p least none (cond (misplaced c t) none by_mode) (λ _. stop _) (λ hl.
      by-misplaced T by_mode (misplaced c t) refl (stop _) (λ hz.
      by_equal T mode 0 (next (name_only p t n) l) (cond (eqb mode 1) (full_fields c p t n l next) none)
      (λ z.
      let f : FitsRecord c (name_only p t n) = record { priority = hp; lifetime = ht; placed = placed c t hz; name = hn; tail = (refl, refl) } in
      rw z (rw (named_put c p t n l) at (one (name_only p t n) l f hl hb)))
      (λ _. by_equal T mode 1 (full_fields c p t n l next) none
      (λ z. rw z (fields-says p t n l hp ht hn hl (placed c t hz) hb))
      (λ _. stop _))))))))
    where
      by-misplaced : (T : Records → Type 0) (x : Records) {m : Bool} (b : Bool) → m ≡ b → T none → (m ≡ false → T x) → T (cond b none x)
      by-misplaced T x true e s k = s
      by-misplaced T x false e s k = k e
