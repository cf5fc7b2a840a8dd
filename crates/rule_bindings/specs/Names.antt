-- The metavariables that are left to name.
use Rattle.std.specs.Prelude.{ℕ, List, [], ◌∷◌, ◌++◌, map, Option, Some, None}
use Rattle.mbe_rules.specs.Ops.{part_of}
use Rattle.mbe_transcriber.specs.Filling.{part_names}
use Rattle.mbe_transcriber.specs.Walks.{names_left}
use Rattle.rule_bindings.specs.declared.names.Names.{Names}

-- one, or none
abbrev pub listed : {A : Type 0} → Option A → List A
listed None = []
listed (Some a) = a ∷ []

-- those in the parts and ops that are left
abbrev pub names_ahead : Names → List (List ℕ)
names_ahead w = part_names (map part_of w.parts.now) ++ names_left w.ops
