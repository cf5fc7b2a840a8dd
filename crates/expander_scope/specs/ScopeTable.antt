-- What names resolve to, in the table of the definitions in scope, and where these start.
use Rattle.std.specs.Prelude.{◌≡◌, ℕ, IfSome, List, Option, option_map, option_and_then, slice_get}
use Rattle.std.specs.Rc.{rc_value}
use Rattle.expander_model.specs.mbe.Grammar.{Grammar}
use Rattle.tt_data.specs.Forest.{Forest}
use Rattle.expander_scope.specs.Editions.{IsRead}
use Rattle.expander_model.specs.Expansion.{Outcome}
use Rattle.expander_model.specs.Held.{Met, Numbered, numbered_scope, numbered_world, place_of}
use Rattle.expander_model.specs.Held.{unnumbered}
use Rattle.expander_model.specs.Limits.{expanded}
use Rattle.expander_model.specs.declared.dialect.Dialect.{Dialect}
use Rattle.expander_scope.specs.NameTables.{index_of}
use Rattle.expander_scope.specs.Outcomes.{numbered_of_known}
use Rattle.expander_scope.specs.OffsetTables.{place_at}
use Rattle.expander_model.specs.World.{world}
use Rattle.expander_scope.specs.declared.scope.Scope as table

-- each definition has its rules, all its identifiers being of the table's edition
abbrev pub AreRead : table.Scope → Type 0
AreRead s = (i : ℕ) → IfSome (slice_get s.known.items i) (λ k. IsRead s.edition (rc_value k))

-- the definition that each name resolves to, with its id
unfoldable pub scope_in : table.Scope → List ℕ → Option Numbered
scope_in s name = option_map (λ k. numbered_of_known (rc_value k))
    (option_and_then (λ i. slice_get s.known.items i) (index_of s.names name))

-- a tree's expansion by this grammar and dialect, in this scope, with so many levels of calls
abbrev pub expanded_under : Grammar → table.Scope → Dialect → ℕ → Forest → Outcome Numbered
expanded_under grammar s dialect depth tree =
    expanded (numbered_world (world grammar s.edition dialect)) unnumbered (scope_in s) depth tree

-- these definitions are in scope, given nearest first
pub record HasMet (dialect : Dialect) (s : table.Scope) (before : List Met) : Type 0 where
  pub finds : scope_in s ≡ numbered_scope dialect before
  pub starts : (n : ℕ) → place_at s.starts n ≡ place_of before n
