-- The paths that wait while an argument is read by a matcher
use Rattle.std.specs.Prelude.{◌≡◌, ℕ, suc, zero, ◌+◌, ◌*◌, ◌≤◌, ◌<◌, Bool, true, false, List, [], ◌∷◌, ◌++◌, map, max, Option, Some, None, if◌then◌else◌}
use Rattle.std.specs.List.{flat_map}
use Rattle.mbe_matcher.specs.Paths.{when}
use Rattle.mbe_rules.specs.Items.{dollar, variable, Items, done, item, group_of, repetition, may_skip, has_empty_round}
use Rattle.mbe_rules.specs.declared.parser.MetaVarKind.TheVariants.{Vis}
use Rattle.mbe_matcher.specs.Grammar.{Grammar}
use Rattle.mbe_matcher.specs.Readings.{Move, State, at, Frame, in_group, in_round, parted, next, has_used_up, takes, is_fragment, room}

-- what is gathered along the paths of at most n moves
module _ {M S A : Type 0} (step : S → List (M × S)) (base : S → List A) (one : S → M × S → List A → List A) where
  -- what is gathered at a state, and at those that its moves lead to
  abbrev pub gather : ℕ → S → List A
  gather zero s = base s
  gather (suc n) s = base s ++ flat_map (λ c. one s c (gather n c.1)) (step s)

-- a path that has ended; or one whose last move consumes: whether a fragment, and the next state
pub data Waiting (M S : Type 0) : Type 0 where
  ended : List M → Waiting M S
  pending : List M → Bool → S → Waiting M S

-- a path with these moves before its own
abbrev pub prefixed : {M S : Type 0} → List M → Waiting M S → Waiting M S
prefixed ms (ended ns) = ended (ms ++ ns)
prefixed ms (pending ns b t) = pending (ms ++ ns) b t

-- the moves of a path that has ended
abbrev pub finished : {M S : Type 0} → Waiting M S → List (List M)
finished (ended ms) = ms ∷ []
finished (pending ms m t) = []

-- none where b is true
abbrev pub unless : {A : Type 0} → Bool → Option A → Option A
unless true x = None
unless false x = x

-- each element has this property
abbrev pub Each : {A : Type 0} → (A → Type 0) → List A → Type 0
Each Q [] = Unit {0}
Each Q (x ∷ xs) = Q x × Each Q xs

-- whether its last move consumes a fragment, for each path that has not ended
abbrev pub heads : {M S : Type 0} → Waiting M S → List Bool
heads (ended ms) = []
heads (pending ms b t) = b ∷ []

-- the paths that wait next
abbrev pub advanced_by : {M S : Type 0} → (S → List (Waiting M S)) → Waiting M S → List (Waiting M S)
advanced_by settle (ended ms) = ended ms ∷ []
advanced_by settle (pending ms b t) = map (prefixed ms) (settle t)

-- a waiting path whose last move was made at position p
abbrev pub IsFrom : {M S P : Type 0} → (S → Type 0) → (S → ℕ) → (S → P) → (P → ℕ) → (P → P) → P → Waiting M S → Type 0
IsFrom Good left place left_at after p (ended ms) = Unit {0}
IsFrom Good left place left_at after p (pending ms b t) = Good t × (left t < left_at p) × (b ≡ false → place t ≡ after p)

-- a waiting path whose last move leads to position r, with fewer than q steps left
abbrev pub IsTo : {M S P : Type 0} → (S → Type 0) → (S → ℕ) → (S → P) → ℕ → P → Waiting M S → Type 0
IsTo Good left place q r (ended ms) = Unit {0}
IsTo Good left place q r (pending ms b t) = Good t × (left t < q) × (place t ≡ r)

-- how many moves in a row can consume nothing in a list of ops, if k can after it
abbrev pub empties : Items → ℕ → ℕ
empties done k = k
empties (item (dollar (variable n (Some Vis)) s) rest) k = 1 + empties rest k
empties (item _ rest) k = 0
empties (group_of d inner rest) k = 0
empties (repetition body sep op rest) k =
    1 + max (empties body (1 + (empties rest k + empties body 0))) (if may_skip op then empties rest k else 0)

-- how many moves in a row can consume nothing in these frames
abbrev pub empties_after : List Frame → ℕ
empties_after [] = 0
empties_after (in_group after ∷ fs) = 0
empties_after (in_round body sep op after ∷ fs) = 1 + (empties after (empties_after fs) + empties body 0)
empties_after (parted body sep op after ∷ fs) = 1 + empties body (1 + (empties after (empties_after fs) + empties body 0))

-- how many moves in a row can consume nothing from a state on
abbrev pub empties_at : State → ℕ
empties_at (at items fs p) = empties items (empties_after fs)

-- the room that frames need
abbrev pub hold : List Frame → ℕ
hold [] = 0
hold (in_group after ∷ fs) = 0
hold (in_round body sep op after ∷ fs) = 1 + (room body + (room after + hold fs))
hold (parted body sep op after ∷ fs) = 2 + (2 * room body + (room after + hold fs))

-- the frames of a state of a matcher that parses and has room N
abbrev pub GoodFrames : ℕ → List Frame → Type 0
GoodFrames N [] = Unit {0}
GoodFrames N (in_group after ∷ fs) =
    (has_empty_round after ≡ false) × (room after + hold fs ≤ N) × GoodFrames N fs
GoodFrames N (in_round body sep op after ∷ fs) =
    (has_empty_round (repetition body sep op after) ≡ false) × (2 + (2 * room body + (room after + hold fs)) ≤ N) × GoodFrames N fs
GoodFrames N (parted body sep op after ∷ fs) =
    (has_empty_round (repetition body sep op after) ≡ false) × (2 + (2 * room body + (room after + hold fs)) ≤ N) × GoodFrames N fs

-- a state of a matcher that parses and has room N
abbrev pub Good : ℕ → State → Type 0
Good N (at items fs p) = (has_empty_round items ≡ false) × (room items + hold fs ≤ N) × GoodFrames N fs

-- the paths that wait after a move, given those of the state after it
abbrev pub settled_one : {M S : Type 0} → (M → Bool) → (M → Bool) → S → M × S → List (Waiting M S) → List (Waiting M S)
settled_one takes is_fragment t c r =
    elim (takes c.0) [ true ↦ pending (c.0 ∷ []) (is_fragment c.0) c.1 ∷ [] | false ↦ map (prefixed (c.0 ∷ [])) r ]

-- the paths that wait once the moves that consume nothing are made
unfoldable pub settled_at : Grammar → State → List (Waiting Move State)
settled_at g s =
    gather (next g) (λ t. when (has_used_up t) (ended [])) (settled_one takes is_fragment) (suc (empties_at s)) s
