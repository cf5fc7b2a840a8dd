-- How an iteration uses its metavariables, taken together
use Rattle.std.specs.Prelude.{ℕ, List, [], ◌∷◌, Option, Some, None, map, nat_lt, if◌then◌else◌}
use Rattle.mbe_matcher.specs.Bindings.{Map, binding_of}
use Rattle.mbe_transcriber.specs.Filling.{Use, unused, has_value, has_none, use_in}

-- the use by the iteration of this index of what has a value in so many, from the first on
abbrev pub use_at : ℕ → Option ℕ → Use
use_at k None = unused
use_at k (Some n) = if nat_lt k n then has_value else has_none

-- two uses taken together: lacking a value prevails, then having one
abbrev pub beside : Use → Use → Use
beside has_none v = has_none
beside has_value has_none = has_none
beside has_value v = has_value
beside unused v = v

-- all these uses taken together
abbrev pub together : List Use → Use
together [] = unused
together (u ∷ us) = beside u (together us)

-- how the innermost of these iterations uses some names
abbrev pub uses_of : List ℕ → Map → List (List ℕ) → List Use
uses_of ns bound = map (λ n. use_in ns (binding_of n bound))
