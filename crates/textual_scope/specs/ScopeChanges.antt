-- A span map applied to what is around a list, and to what a search of it gives.
use Rattle.std.specs.Prelude.{map, option_map}
use Rattle.tt_data.specs.declared.span.Span.{Span}
use Rattle.expander_model.specs.Changes.{outcome_with}
use Rattle.expander_model.specs.OtherPlaces.{definition_with}
use Rattle.expander_model.specs.Scoping.{Around, Scoped}

-- what is around a list, with f applied to its spans
abbrev pub around_with : (Span → Span) → Around → Around
around_with f around = record {
  standing = around.standing;
  outer = option_map f around.outer;
  locals = map (definition_with f) around.locals;
}

-- a result with f applied to its spans, and h to the definitions that were looked up
abbrev pub scoped_with : {D E : Type 0} → (Span → Span) → (D → E) → Scoped D → Scoped E
scoped_with f h a = record {
  outcome = outcome_with f h a.outcome;
  defines = map (definition_with f) a.defines;
}
