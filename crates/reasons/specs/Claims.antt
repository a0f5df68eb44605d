-- What a reason says of a name, and what a parameter at fault is, by layout alone. Assumes nothing: these are definitions.
use Rattle.std.specs.Prelude.{◌≡◌, ◌⊎◌, List, [], ◌∷◌, ◌++◌, ℕ, ◌+◌, ◌≤◌, ◌<◌, length}
use Rattle.octets.specs.Lists.{All}
use Rattle.names.specs.Names.{last, Ldh, Label}
use Rattle.svcparams.specs.Key as key
use Rattle.svcparams.specs.Param.{Param, keys}
use Rattle.svcparams.specs.Accepted.{put, field_of, Fits, Ordered, Hinted, Allowed}
use Rattle.reasons.specs.Params as told
use Rattle.reasons.specs.Reason as reason
use Rattle.reasons.specs.Params.{none}

-- ---- names in wire form (RULES N1, N2; RFC 1035 §3.1)

-- labels, each after its length octet, and then t
abbrev pub labelled : List (List ℕ) → List ℕ → List ℕ
labelled [] t = t
labelled (l ∷ ls) t = length l ∷ (l ++ labelled ls t)

-- x stands at the place p where a length octet is to stand: at the beginning, or right after a label
pub record AtLength (s : List ℕ) (p x : ℕ) : Type 0 where
  pub labels : List (List ℕ)
  pub after : List ℕ
  pub each : All Label labels
  pub is : s ≡ labelled labels (x ∷ after)
  pub place : p ≡ length (labelled labels [])

-- x stands at the place p within a label of n octets, of which `begun` stand before it
pub record InLabel (s : List ℕ) (p x n : ℕ) (begun : List ℕ) : Type 0 where
  pub labels : List (List ℕ)
  pub after : List ℕ
  pub each : All Label labels
  pub is : s ≡ labelled labels (n ∷ (begun ++ (x ∷ after)))
  pub place : p ≡ length (labelled labels (n ∷ begun))
  pub within : length begun < n
  pub short : n ≤ 63
  pub octets : All Ldh begun

-- p is the place after the root octet, labels stand before that, and something stands there
pub record AfterRoot (s : List ℕ) (p : ℕ) : Type 0 where
  pub labels : List (List ℕ)
  pub after : List ℕ
  pub named : 1 ≤ length labels
  pub each : All Label labels
  pub is : s ≡ labelled labels (0 ∷ after)
  pub place : p ≡ length (labelled labels (0 ∷ []))
  pub some : 0 < length after

-- the reason r is true of s at its first bad place p
pub data WireWhy (s : List ℕ) (p r : ℕ) : Type 0 where
  -- that s begins a name and is none, `FirstBad` says (RULES N5)
  cut : r ≡ reason.cut → 0 < length s → p ≡ length s → WireWhy s p r
  empty : r ≡ reason.empty → (length s ≡ 0) ⊎ ((t : List ℕ) × (s ≡ 0 ∷ t)) → p ≡ 0 → WireWhy s p r
  pointer : r ≡ reason.pointer → (x : ℕ) → AtLength s p x → 192 ≤ x → WireWhy s p r
  label : r ≡ reason.label → (x : ℕ) → AtLength s p x → 64 ≤ x → x < 192 → WireWhy s p r
  -- with the root octet after this label the name would have more than 255 octets
  long : r ≡ reason.long → (x : ℕ) → AtLength s p x → 1 ≤ x → x ≤ 63 → 255 < p + 1 + x + 1 → WireWhy s p r
  after : r ≡ reason.after → AfterRoot s p → WireWhy s p r
  underscore : r ≡ reason.underscore → (n : ℕ) (begun : List ℕ) → InLabel s p 95 n begun → WireWhy s p r
  -- it begins the label, or ends it
  hyphen : r ≡ reason.hyphen → (n : ℕ) (begun : List ℕ) → InLabel s p 45 n begun → (length begun ≡ 0) ⊎ (length begun + 1 ≡ n) → WireWhy s p r
  octet : r ≡ reason.octet → (x n : ℕ) (begun : List ℕ) → InLabel s p x n begun → (Ldh x → ⊥) → (x ≡ 95 → ⊥) → WireWhy s p r

-- ---- names as text (RULES N2, N4)

-- labels, each with a dot after it, and then t
abbrev pub pointed : List (List ℕ) → List ℕ → List ℕ
pointed [] t = t
pointed (l ∷ ls) t = l ++ (46 ∷ pointed ls t)

-- at the place p the octets `rest` follow labels and, after the last dot, the octets `begun` of a label
pub record InText (s : List ℕ) (p : ℕ) (begun rest : List ℕ) : Type 0 where
  pub labels : List (List ℕ)
  pub each : All Label labels
  pub is : s ≡ pointed labels (begun ++ rest)
  pub place : p ≡ length (pointed labels begun)
  pub octets : All Ldh begun

-- a label ends before t: at the text's end or at a dot
abbrev pub Ends : List ℕ → Type 0
Ends t = (length t ≡ 0) ⊎ ((u : List ℕ) × (t ≡ 46 ∷ u))

-- the reason r is true of s at its first bad place p
pub data TextWhy (s : List ℕ) (p r : ℕ) : Type 0 where
  empty : r ≡ reason.empty → length s ≡ 0 → p ≡ 0 → TextWhy s p r
  -- no label stands before the dot: it is the first octet, or follows a dot
  dot : r ≡ reason.dot → (t : List ℕ) → InText s p [] (46 ∷ t) → TextWhy s p r
  -- no label stands after it
  dot_last : r ≡ reason.dot → 0 < length s → InText s p [] [] → TextWhy s p r
  dot_far : r ≡ reason.dot → (begun t : List ℕ) → InText s p begun (46 ∷ t) → Ends t → TextWhy s p r
  -- the hyphen begins its label
  hyphen : r ≡ reason.hyphen → (t : List ℕ) → InText s p [] (45 ∷ t) → TextWhy s p r
  -- it ends its label, before the place or there
  hyphen_last : r ≡ reason.hyphen → (begun t : List ℕ) → InText s p begun t → last 0 begun ≡ 45 → Ends t → TextWhy s p r
  hyphen_far : r ≡ reason.hyphen → (begun t : List ℕ) → InText s p begun (45 ∷ t) → Ends t → TextWhy s p r
  -- more than 63 octets without a dot
  label : r ≡ reason.label → (begun more t : List ℕ) → InText s p begun (more ++ t) → All (λ x. x ≡ 46 → ⊥) more
      → 63 < length begun + length more → TextWhy s p r
  long : r ≡ reason.long → 253 < length s → TextWhy s p r
  underscore : r ≡ reason.underscore → (begun t : List ℕ) → InText s p begun (95 ∷ t) → TextWhy s p r
  octet : r ≡ reason.octet → (x : ℕ) (begun t : List ℕ) → InText s p begun (x ∷ t) → (Ldh x → ⊥) → (x ≡ 46 → ⊥) → (x ≡ 95 → ⊥) → TextWhy s p r

-- ---- service parameters (RULES P1 to P8)

-- the parameter r begins at the end of the parameters `front`, and has the key k
pub record Stands (front : List Param) (k : ℕ) (r : told.Param) : Type 0 where
  pub place : r.at ≡ length (field_of front)
  pub key : r.key ≡ k

-- r is the first address hint of the field p, which is in order (RULES P3, R27)
pub record FirstHint (p : List ℕ) (r : told.Param) : Type 0 where
  pub front : List Param
  pub hint : Param
  pub back : List Param
  pub ordered : Ordered p (front ++ (hint ∷ back))
  pub stands : Stands front hint.key r
  pub found : (hint.key ≡ key.ipv4hint) ⊎ (hint.key ≡ key.ipv6hint)
  pub before : Hinted front → ⊥

-- r is the first parameter of the field p, which is in order, whose value is not one that its key allows (RULES P4 to P7, R28)
pub record FirstForbidden (p : List ℕ) (r : told.Param) : Type 0 where
  pub front : List Param
  pub kv : Param
  pub back : List Param
  pub ordered : Ordered p (front ++ (kv ∷ back))
  pub stands : Stands front kv.key r
  pub forbidden : Allowed (keys (front ++ (kv ∷ back))) kv → ⊥
  pub before : All (Allowed (keys (front ++ (kv ∷ back)))) front

-- what stands after parameters with the keys ks breaks their order (RULES P1, P2), and has the key k
pub data Unordered (ks rest : List ℕ) (k : ℕ) : Type 0 where
  -- octets that begin with no whole parameter
  short : k ≡ none → 0 < length rest → ((kv : Param) (t : List ℕ) → Fits kv → rest ≡ put kv t → ⊥) → Unordered ks rest k
  -- a parameter whose key is not above every key before it, or is the invalid one
  low : (kv : Param) (t : List ℕ) → Fits kv → rest ≡ put kv t → k ≡ kv.key → (All (λ x. x < kv.key) ks → ⊥) → Unordered ks rest k
  invalid : (kv : Param) (t : List ℕ) → Fits kv → rest ≡ put kv t → k ≡ kv.key → kv.key ≡ key.invalid → Unordered ks rest k

-- r is the first that breaks the order of the field p (RULES R26)
pub record FirstUnordered (p : List ℕ) (r : told.Param) : Type 0 where
  pub front : List Param
  pub rest : List ℕ
  pub is : p ≡ field_of front ++ rest
  pub ordered : Ordered (field_of front) front
  pub place : r.at ≡ length (field_of front)
  pub breaks : Unordered (keys front) rest r.key
