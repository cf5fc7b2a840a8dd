-- Definitions in scope by the spans of their texts, without ids.
use Rattle.std.specs.Prelude.{List, map}
use Rattle.bridge.specs.RelativeSpans.{own_place}
use Rattle.expander_model.specs.Definitions.{Definition}
use Rattle.expander_model.specs.Held.{Met, unnumbered}
use Rattle.expander_model.specs.declared.dialect.Dialect.{Dialect}
use Rattle.expander_scope.specs.ScopeTable.{HasMet}
use Rattle.expander_scope.specs.declared.scope.Scope as table

-- a definition without an id: no span counts from its place
abbrev pub met_alone : Definition → Met
met_alone d = record { place = own_place 0; numbered = unnumbered d }

-- these definitions are in scope, given nearest first
abbrev pub HasInScope : Dialect → table.Scope → List Definition → Type 0
HasInScope dialect s before = HasMet dialect s (map met_alone before)
