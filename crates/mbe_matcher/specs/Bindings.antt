-- Bindings: the values of a matcher's metavariables after a reading.
use Rattle.std.specs.Prelude.{ℕ, suc, zero, ◌-◌, List, [], ◌∷◌, ◌++◌, Option, Some, None, if◌then◌else◌}
use Rattle.tt_data.specs.Forest.{Forest, empty}
use Rattle.mbe_rules.specs.Text.{same_text}
use Rattle.mbe_rules.specs.declared.parser.MetaVarKind.{MetaVarKind}
use Rattle.mbe_rules.specs.declared.parser.MetaVarKind.TheVariants.{Vis}
use Rattle.mbe_matcher.specs.Readings.{Move, fragment_move, nothing_move, enter, skip, leave, next_round}

mutual
  -- the value of a name: the trees of a fragment, a value for each iteration, or skipped
  pub data Binding : Type 0 where
    fragment : MetaVarKind → Forest → Binding
    rounds : Values → Binding
    skipped : Binding

  -- values of iterations, in order
  pub data Values : Type 0 where
    no_more : Values
    value : Binding → Values → Values

-- the n-th of these values, from 0
abbrev pub value_at : ℕ → Values → Option Binding
value_at n no_more = None
value_at zero (value b vs) = Some b
value_at (suc n) (value b vs) = value_at n vs

-- a list, filled up with empty lists to n members, and then b
abbrev pub value_put : ℕ → Binding → Values → Values
value_put zero b no_more = value b no_more
value_put (suc n) b no_more = value (rounds no_more) (value_put n b no_more)
value_put n b (value c vs) = value c (value_put (n - 1) b vs)

-- a finite map: each name occurs once
abbrev pub Map : Type 0
Map = List (List ℕ × Binding)

-- the value of a name
abbrev pub binding_of : List ℕ → Map → Option Binding
binding_of n [] = None
binding_of n (e ∷ es) = if same_text n e.0 then Some e.1 else binding_of n es

-- the map with b in place of what the name had
abbrev pub bind : List ℕ → Binding → Map → Map
bind n b [] = (n, b) ∷ []
bind n b (e ∷ es) = if same_text n e.0 then (n, b) ∷ es else e ∷ bind n b es

-- each of these names is bound as skipped
abbrev pub bind_skipped : List (List ℕ) → Map → Map
bind_skipped [] m = m
bind_skipped (n ∷ ns) m = bind_skipped ns (bind n skipped m)

-- the binding of a name after iteration n gave it b; one that is no list stays as it is
abbrev pub with_round : ℕ → Binding → Option Binding → Binding
with_round n b None = rounds (value_put n b no_more)
with_round n b (Some (rounds vs)) = rounds (value_put n b vs)
with_round n b (Some c) = c

-- the values of iteration n are added to the lists of their names
abbrev pub bind_round : ℕ → Map → Map → Map
bind_round n [] m = m
bind_round n (e ∷ es) m = bind_round n es (bind e.0 (with_round n e.1 (binding_of e.0 m)) m)

-- the values of these iterations are added, the first of which has index n
abbrev pub bind_rounds : ℕ → List Map → Map → Map
bind_rounds n [] m = m
bind_rounds n (r ∷ rs) m = bind_rounds (suc n) rs (bind_round n r m)

-- an open repetition: the bindings around it, and those of its finished iterations
abbrev pub Open : Type 0
Open = Map × List Map

-- the bindings after these moves, from those so far and the open repetitions, innermost first
abbrev pub bindings_from : Map → List Open → List Move → Map
bindings_from m opens [] = m
bindings_from m opens (fragment_move n k f ∷ ms) = bindings_from (bind n (fragment k f) m) opens ms
bindings_from m opens (nothing_move n ∷ ms) = bindings_from (bind n (fragment Vis empty) m) opens ms
bindings_from m opens (skip ns ∷ ms) = bindings_from (bind_skipped ns m) opens ms
bindings_from m opens (enter ∷ ms) = bindings_from [] ((m, []) ∷ opens) ms
bindings_from m (o ∷ opens) (next_round ∷ ms) = bindings_from [] ((o.0, o.1 ++ (m ∷ [])) ∷ opens) ms
bindings_from m (o ∷ opens) (leave ∷ ms) = bindings_from (bind_rounds 0 (o.1 ++ (m ∷ [])) o.0) opens ms
bindings_from m opens (_ ∷ ms) = bindings_from m opens ms

-- the bindings of a reading
abbrev pub bindings : List Move → Map
bindings ms = bindings_from [] [] ms
