-- The pre-order traversal of a list of trees: leaves, openings and closings, as in the text.
use Rattle.std.specs.Prelude.{List, [], ◌∷◌, ◌++◌}
use Rattle.tt_data.specs.declared.span.Span.{Span}
use Rattle.tt_data.specs.declared.leaf.Leaf.{Leaf}
use Rattle.tt_data.specs.declared.delimiter.DelimiterKind.{DelimiterKind}
use Rattle.tt_data.specs.Spans.{leaf_with}
use Rattle.tt_data.specs.Forest.{Forest, empty, leaf, group}

-- an event: a leaf, an opening or a closing, each of the latter with its kind and its span
pub data Step : Type 0 where
  at_leaf : Leaf → Step
  opens : DelimiterKind → Span → Step
  closes : DelimiterKind → Span → Step

-- the events of a forest, a group's between its two brackets, invisible ones too
abbrev pub walk : Forest → List Step
walk empty = []
walk (leaf l rest) = at_leaf l ∷ walk rest
walk (group d inner rest) = opens d.kind d.open_span ∷ (walk inner ++ (closes d.kind d.close_span ∷ walk rest))

-- an event with f applied to its span
abbrev pub step_with : (Span → Span) → Step → Step
step_with f (at_leaf l) = at_leaf (leaf_with f l)
step_with f (opens kind span) = opens kind (f span)
step_with f (closes kind span) = closes kind (f span)
