-- Parts of octets are octets: what a length counts, what follows it, and the parameters of a body. Assumes nothing.
use Rattle.std.specs.Prelude.{◌≡◌, refl, true, cond, List, ◌++◌, ℕ, ◌/◌, length}
use Rattle.octets.specs.ListsLaws.{all_left, all_right}
use Rattle.octets.specs.Numbers.{be, Octet, Bytes}
use Rattle.octets.specs.Fields.{put_counted}
use Rattle.carriers.specs.declared.Carrier.{Carrier}
use Rattle.carriers.specs.declared.Carrier.TheVariants.{Router}
use Rattle.carriers.specs.declared.Form.{Form}
use Rattle.carriers.specs.declared.Form.TheVariants.{Wire, Padded, Text}
use Rattle.carriers.specs.Carriers.{length_width, lifetime_width, address_width, form_of}
use Rattle.carriers.proofs.CarriersLaws.{padded-router}
use Rattle.blocks.specs.Block.{Fields, put_opening, put_after_name, put_after_name_padded, put_attribute, padding, layout_by, layout}

pub counted-left : (w : ℕ) (x l : List ℕ) → Bytes (put_counted w x l) → Bytes x
counted-left w x l h = all_left Octet x l (all_right Octet (be w (length x)) (x ++ l) h)

pub counted-right : (w : ℕ) (x l : List ℕ) → Bytes (put_counted w x l) → Bytes l
counted-right w x l h = all_right Octet x l (all_right Octet (be w (length x)) (x ++ l) h)

opening-right : (c : Carrier) (f : Fields) (l : List ℕ) → Bytes (put_opening c f l) → Bytes l
opening-right c f l h =
    let named : List ℕ = put_counted (length_width c) f.name l in
    let timed : List ℕ = be (lifetime_width c) f.lifetime ++ named in
    counted-right (length_width c) f.name l (all_right Octet (be (lifetime_width c) f.lifetime) named (all_right Octet (be 2 f.priority) timed h))

named-parameters : (c : Carrier) (f : Fields) → f.full ≡ true → Bytes (put_opening c f (put_after_name c f)) → Bytes f.parameters
named-parameters c f e h = counted-right (length_width c) f.addresses f.parameters (rw e at (opening-right c f (put_after_name c f) h))

-- z is the padding
padded-parameters : (f : Fields) (z : List ℕ) → f.full ≡ true → let v : ℕ = length_width Router in
    Bytes (cond f.full (put_counted v f.addresses (put_counted v f.parameters z)) z) → Bytes f.parameters
padded-parameters f z e h =
    let v : ℕ = length_width Router in
    counted-left v f.parameters z (counted-right v f.addresses (put_counted v f.parameters z) (rw e at h))

router-parameters : (f : Fields) → f.full ≡ true → Bytes (put_opening Router f (put_after_name_padded f)) → Bytes f.parameters
router-parameters f e h = padded-parameters f (padding f) e (opening-right Router f (put_after_name_padded f) h)

attribute-parameters : (c : Carrier) (f : Fields) → Bytes (put_attribute c f) → Bytes f.parameters
attribute-parameters c f h =
    let named : List ℕ = f.name ++ f.parameters in
    let addressed : List ℕ = f.addresses ++ named in
    let sized : List ℕ = be (length_width c) (length f.name) ++ addressed in
    let numbered : List ℕ = be 1 (length f.addresses / address_width c) ++ sized in
    let a : Bytes numbered = all_right Octet (be 2 f.priority) numbered h in
    let b : Bytes sized = all_right Octet (be 1 (length f.addresses / address_width c)) sized a in
    let d : Bytes addressed = all_right Octet (be (length_width c) (length f.name)) addressed b in
    all_right Octet f.name f.parameters (all_right Octet f.addresses named d)

-- the parameters of a layout of octets are octets
pub parameters-bytes : (c : Carrier) (f : Fields) → f.full ≡ true → Bytes (layout c f) → Bytes f.parameters
unfolding layout
parameters-bytes c f e h = go (form_of c) refl h
  where
    go : (k : Form) → form_of c ≡ k → Bytes (layout_by k c f) → Bytes f.parameters
    go Wire q h = named-parameters c f e h
    go Padded q h = router-parameters f e (rw (padded-router c q) at h)
    go Text q h = attribute-parameters c f h
