-- Areas put together and cut: the frame of a framed area and what follows it, and the frames of the leading parts of an area made of
-- own options. Assumes nothing.
use Rattle.std.specs.Prelude.{◌≡◌, refl, Bool, true, false, List, [], ◌∷◌, ◌++◌, ℕ, zero, suc, ◌+◌, ◌-◌, ◌≤◌, ◌<◌, length, get_or, take, drop, ltb, Result, Ok, Err}
use Rattle.std.proofs.Common.{sym, ap, ap₂, ◌∙◌, arith, length-append, take-append-drop, take_at, length-take-le, ltb-true, ltb-false}
use Rattle.std.proofs.lemmas.List.{take-append-le}
use Rattle.std.proofs.Math.Seq.{take-append-add}
use Rattle.numbers.specs.declared.Refusal.{Refusal}
use Rattle.carriers.specs.declared.Carrier.{Carrier}
use Rattle.carriers.specs.Carriers.{header_of, is_joined, octets, Plain}
use Rattle.frames.specs.declared.Head.{Head}
use Rattle.frames.specs.Frame.{head_in, first_of, Framed, fault, framed, onto, after, frame_from, frame}
use Rattle.octets.specs.Lists.{All}
use Rattle.octets.specs.ListsLaws.{flat_map_append}
use Rattle.frames.specs.Walk.{prepend}
use Rattle.frames.specs.Emit.{option_of, Fits, options_of}
use Rattle.frames.specs.HeadLaws.{head-end, mark-apart, first-local, first-append, first-cut}
use Rattle.frames.specs.Laws.{fault-framed, frame-bad, frame-over}
use Rattle.frames.specs.WalkLaws.{prepend-none}
use Rattle.frames.proofs.EmitLaws.{option-first, frame-own, frame-options}

-- ---- putting areas together

first_plain : (c : Carrier) (s : List ℕ) → Plain c → first_of c s ≡ Ok Head.End → ⊥
first_plain c s p e = head-end c s (sym (mark-apart (get_or s 0 0) (head_in c s) (is_joined c) p) ∙ e)

onto-prepend : (own : Bool) (b : List ℕ) (cs bs : List (List ℕ)) (f : Framed) → onto own b (framed cs) ≡ framed bs → onto own b (prepend cs f) ≡ prepend bs f
onto-prepend own b cs bs fault e = refl
onto-prepend true b cs bs (framed ds) e = let q : b ∷ cs ≡ bs = cc in ap (λ (l : List (List ℕ)). framed (l ++ ds)) q
onto-prepend false b cs bs (framed ds) e = let q : cs ≡ bs = cc in ap (λ (l : List (List ℕ)). framed (l ++ ds)) q

-- where the walk ends well, what was to be skipped was there
skipped-there : (c : Carrier) (k : ℕ) (s : List ℕ) {bs : List (List ℕ)} → frame_from c k s ≡ framed bs → k ≤ length s
unfolding frame_from
skipped-there c zero s e = omega arith
skipped-there c (suc k) [] e = absurd (fault-framed e)
skipped-there c (suc k) (x ∷ xs) e = let h = skipped-there c k xs e in omega arith

-- the case of an option in front, from the law for the octets after its first
module _ (c : Carrier) (plain : Plain c) (x : ℕ) (xs b : List ℕ)
    (ih : (k : ℕ) (cs : List (List ℕ)) → frame_from c k xs ≡ framed cs → frame_from c k (xs ++ b) ≡ prepend cs (frame c b)) where
  append-rest : (own : Bool) (n : ℕ) (bs : List (List ℕ)) (f : Framed) → frame_from c (n - 1) xs ≡ f
      → onto own (drop (header_of c) (take n (x ∷ xs))) f ≡ framed bs
      → onto own (drop (header_of c) (take n (x ∷ xs ++ b))) (frame_from c (n - 1) (xs ++ b)) ≡ prepend bs (frame c b)
  append-rest own n bs fault q o = absurd (fault-framed o)
  append-rest own n bs (framed cs) q o =
      let there = skipped-there c (n - 1) xs q in
      let there' : n ≤ length (x ∷ xs) = omega arith in
      ap₂ (λ (l : List ℕ) (f : Framed). onto own (drop (header_of c) l) f) (take-append-le n (x ∷ xs) b there') (ih (n - 1) cs q)
      ∙ onto-prepend own (drop (header_of c) (take n (x ∷ xs))) cs bs (frame c b) o

  append-first : (z : Result Head Refusal) (bs : List (List ℕ)) → first_of c (x ∷ xs) ≡ z → after c (x ∷ xs) z (λ k. frame_from c k xs) ≡ framed bs
      → after c (x ∷ xs ++ b) (first_of c (x ∷ xs ++ b)) (λ k. frame_from c k (xs ++ b)) ≡ prepend bs (frame c b)
  append-first (Err r) bs e o = absurd (fault-framed o)
  append-first (Ok Head.End) bs e o = absurd (first_plain c (x ∷ xs) plain e)
  append-first (Ok (Head.Option own size)) bs e o =
      ap (λ (z : Result Head Refusal). after c (x ∷ xs ++ b) z (λ k. frame_from c k (xs ++ b))) (first-append c (x ∷ xs) b (omega arith) e)
      ∙ append-rest own size.0 bs (frame_from c (size.0 - 1) xs) refl o

append-from : (c : Carrier) → Plain c → (k : ℕ) (a b : List ℕ) (bs : List (List ℕ)) → frame_from c k a ≡ framed bs
    → frame_from c k (a ++ b) ≡ prepend bs (frame c b)
unfolding frame_from
append-from c p zero [] b bs e =
    let q : [] ≡ bs = cc in
    sym (prepend-none (frame c b)) ∙ ap (λ (l : List (List ℕ)). prepend l (frame c b)) q
append-from c p (suc k) [] b bs e = absurd (fault-framed e)
append-from c p zero (x ∷ xs) b bs e = append-first c p x xs b (λ k cs q. append-from c p k xs b cs q) (first_of c (x ∷ xs)) bs refl e
append-from c p (suc k) (x ∷ xs) b bs e = append-from c p k xs b bs e

-- in carriers 2 to 5, the bodies of a framed area, followed by those of what comes after it
pub frame-append : (c : Carrier) → Plain c → (a b : List ℕ) (bs : List (List ℕ)) → frame c a ≡ framed bs → frame c (a ++ b) ≡ prepend bs (frame c b)
frame-append c p a b bs e = append-from c p zero a b bs e

-- ---- cutting own options, in every carrier

-- at an option's end
pub cut-at-end : (c : Carrier) (bs cs : List (List ℕ)) → All (Fits c) bs → frame c (take (length (options_of c bs)) (options_of c (bs ++ cs))) ≡ framed bs
cut-at-end c bs cs f =
    ap (λ (l : List ℕ). frame c (take (length (options_of c bs)) l)) (flat_map_append (option_of c) bs cs)
    ∙ ap (frame c) (take_at (options_of c bs) (options_of c cs) (length (options_of c bs)) refl)
    ∙ frame-options c bs f

-- inside one option
pub cut_inside : (c : Carrier) (b : List ℕ) (k : ℕ) → Fits c b → 0 < k → k < length (option_of c b) → frame c (take k (option_of c b)) ≡ fault
cut_inside c b k f p h = go (ltb k (header_of c)) refl
  where
    len : length (take k (option_of c b)) ≡ k
    len = length-take-le k (option_of c b) (omega arith)

    some : 0 < length (take k (option_of c b))
    some = omega (arith, len)

    go : (t : Bool) → ltb k (header_of c) ≡ t → frame c (take k (option_of c b)) ≡ fault
    go true t = frame-bad c (take k (option_of c b)) some (first-cut c (option_of c b) k (option-first c b f) p h (omega arith) (ltb-true _ _ t))
    go false t =
        let ge : header_of c ≤ k = ltb-false _ _ t in
        let there : header_of c ≤ length (take k (option_of c b)) = omega (arith, len) in
        let same : first_of c (take k (option_of c b)) ≡ Ok (Head.Option true (octets (length (option_of c b)))) =
        sym (first-local c (take k (option_of c b)) (drop k (option_of c b)) there) ∙ ap (first_of c) (take-append-drop k (option_of c b)) ∙ option-first c b f in
        frame-over c (take k (option_of c b)) some same (omega (arith, len))

-- anywhere else than at an option's end
pub cut-elsewhere : (c : Carrier) (bs : List (List ℕ)) (k : ℕ) → All (Fits c) bs → k ≤ length (options_of c bs)
    → ((j : ℕ) → k ≡ length (options_of c (take j bs)) → ⊥) → frame c (take k (options_of c bs)) ≡ fault
cut-elsewhere c [] k f h not_end = absurd (not_end 0 (omega arith))
cut-elsewhere c (b ∷ bs) k f h not_end =
    go (ltb k (length (option_of c b))) refl
    (λ d hd nod. cut-elsewhere c bs d f.1 hd nod)
  where
    pos : 0 < k
    pos = omega (arith, not_end 0)

    go : (t : Bool) → ltb k (length (option_of c b)) ≡ t
        → ((d : ℕ) → d ≤ length (options_of c bs) → ((j : ℕ) → d ≡ length (options_of c (take j bs)) → ⊥) → frame c (take d (options_of c bs)) ≡ fault)
        → frame c (take k (option_of c b ++ options_of c bs)) ≡ fault
    go true t ih =
        let lt : k < length (option_of c b) = ltb-true _ _ t in
        ap (frame c) (take-append-le k (option_of c b) (options_of c bs) (omega arith)) ∙ cut_inside c b k f.0 pos lt
    go false t ih =
        let ge : length (option_of c b) ≤ k = ltb-false _ _ t in
        let d : ℕ = k - length (option_of c b) in
        let split : k ≡ length (option_of c b) + d = omega arith in
        ap (λ (n : ℕ). frame c (take n (option_of c b ++ options_of c bs))) split
        ∙ ap (frame c) (take-append-add (option_of c b) (options_of c bs) d)
        ∙ frame-own c b (take d (options_of c bs)) f.0
        ∙ ap (onto true b)
        (ih d (omega (arith, length-append (option_of c b) (options_of c bs)))
        (λ j q. not_end (suc j) (omega (arith, length-append (option_of c b) (options_of c (take j bs))))))
