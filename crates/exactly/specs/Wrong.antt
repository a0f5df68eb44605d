-- Where a reading says that a name is wrong (RULES W10, W11), said of the octets of the first discarded block. Assumes nothing: these are definitions.
use Rattle.std.specs.Prelude.{◌≡◌, true, false, List, [], ◌∷◌, ◌++◌, ℕ, ◌+◌, ◌-◌, ◌≤◌, ◌<◌, length}
use Rattle.octets.specs.Lists.{All, Stands}
use Rattle.octets.specs.Numbers.{be}
use Rattle.octets.specs.Fields.{put_counted}
use Rattle.numbers.specs.Fault as fault
use Rattle.carriers.specs.declared.Carrier.{Carrier}
use Rattle.carriers.specs.Carriers.{number_of, code_of, header_of, is_joined}
use Rattle.names.specs.Names.{FirstBad}
use Rattle.frames.specs.Area.{IsOption, Area, blocks_of}
use Rattle.blocks.specs.Block.{Fields, name_at}
use Rattle.blocks.specs.Holding.{Laid}
use Rattle.judge.specs.declared.Side.TheVariants.{Reading}
use Rattle.judge.specs.Place.{Judged}
use Rattle.judge.specs.Place.{judged}
use Rattle.judge.specs.Allowed.{NameAllowed}
use Rattle.reading.specs.Result.{discarded, yields}
use Rattle.exactly.specs.Answers.{Instances, BlockIs}

-- a body of a block, with what stands before it and after it in the octets in which the block's places are counted (RULES W11)
pub data BodyIn (c : Carrier) (area block : List ℕ) : (front body rest : List ℕ) → Type 0 where
  -- carriers 2 to 5: the block is the body of an own option, which stands in the area, and places are counted from the first octet of its header
  of_option : (before header after : List ℕ) → is_joined c ≡ false → area ≡ before ++ ((header ++ block) ++ after) → length header ≡ header_of c
      → IsOption c (header ++ block) (code_of c) block → BodyIn c area block header block []
  -- carrier 1: the body of an instance, after instances that yield records and after its own length, in the joined data
  of_instance : (front body rest : List ℕ) (rs : List Fields) → is_joined c ≡ true → block ≡ front ++ put_counted 2 body rest → length body < 65536
      → Instances 0 front (yields rs) → BodyIn c area block (front ++ be 2 (length body)) body rest

-- its name is wrong: the body is laid out from fields (RULES B1); their name stands in the octets from `start` on, and p is the place of the name's first bad
-- octet (RULES N5), in carriers 4 and 5 of the text as carried
pub record WrongName (c : Carrier) (front body rest : List ℕ) (p : ℕ) : Type 0 where
  pub fields : Fields
  pub laid : Laid c body fields
  pub service : fields.priority ≡ 0 → ⊥
  pub start : ℕ
  pub starts : start ≡ length front + name_at c (length fields.addresses)
  pub stands : Stands fields.name start (front ++ (body ++ rest))
  pub from : start ≤ p
  pub bad : FirstBad (NameAllowed Reading c) fields.name (p - start)

-- the first of these blocks that is discarded, and those before it, which are not (RULES W10)
pub record FirstDiscarded (c : Carrier) (blocks : List (List ℕ)) (j : Judged) : Type 0 where
  pub before : List (List ℕ)
  pub block : List ℕ
  pub after : List (List ℕ)
  pub are : blocks ≡ before ++ (block ∷ after)
  pub taken : All (λ b. (rs : List Fields) × BlockIs c b (yields rs)) before
  pub is : BlockIs c block (discarded j)

-- the first block of an area that is discarded has this fault and place
pub record FirstIn (n : ℕ) (area : List ℕ) (j : Judged) : Type 0 where
  pub carrier : Carrier
  pub chosen : number_of carrier ≡ n
  pub bodies : List (List ℕ)
  pub framed : Area carrier area bodies
  pub first : FirstDiscarded carrier (blocks_of carrier bodies) j

-- a body of that block has a name that is wrong at p
pub record WrongIn (n : ℕ) (area : List ℕ) (p : ℕ) : Type 0 where
  pub found : FirstIn n area (judged fault.name p)
  pub front : List ℕ
  pub body : List ℕ
  pub rest : List ℕ
  pub stands : BodyIn found.carrier area found.first.block front body rest
  pub wrong : WrongName found.carrier front body rest p
