-- The steps that a move passes, and the token that is next in a walk.
use Rattle.std.specs.Prelude.{Bool, true, false, List, [], ◌∷◌, Option, Some, None}
use Rattle.tt_data.specs.Forest.{Forest, leaf}
use Rattle.tt_data.specs.Walk.{Step}
use Rattle.tt_data.specs.declared.span.Span.{Span}
use Rattle.mbe_matcher.specs.Readings.{trees_here}
use Rattle.mbe_matcher.specs.Units.{Place}
use Rattle.mbe_matcher.specs.declared.position.Consumed.{Consumed}
use Rattle.mbe_matcher.specs.declared.position.Consumed.TheVariants as takes
use Rattle.mbe_explain.specs.Distances.{span_at}

-- the span of the first of some steps
abbrev pub first_span : List Step → Option Span
first_span [] = None
first_span (s ∷ ss) = Some (span_at s)

-- a list begins with no leaf
abbrev pub begins_with_no_leaf : Forest → Bool
begins_with_no_leaf (leaf l rest) = false
begins_with_no_leaf f = true

-- a move from a position goes into a group, or out of one
abbrev pub is_over_bracket : Consumed → Place → Bool
is_over_bracket (takes.Fragment n) p = false
is_over_bracket takes.Unit p = begins_with_no_leaf (trees_here p)
