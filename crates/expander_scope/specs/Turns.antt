-- What a search of lists does turn by turn: where it stands, and what it adds to the output.
use Rattle.std.specs.Prelude.{◌≡◌, ◌<◌, ◌+◌, ◌*◌, ℕ, Bool, true, false, List, [], ◌∷◌, ◌++◌}
use Rattle.std.specs.Prelude.{length, map, Option, Some, None, option_map, unwrap_or, is_some}
use Rattle.std.specs.Prelude.{reverse, if◌then◌else◌}
use Rattle.bridge.specs.Text.{is_char}
use Rattle.small_grammar.specs.Text.{◌>>=◌}
use Rattle.tt.specs.FirstTrees.{first_ident, first_punct, first_group}
use Rattle.tt_data.specs.Forest.{Forest, group, size}
use Rattle.tt_data.specs.Walk.{Step, at_leaf, walk}
use Rattle.tt_data.specs.declared.leaf.Leaf.{Leaf}
use Rattle.tt_data.specs.declared.delimiter.Delimiter.{Delimiter}
use Rattle.tt_data.specs.declared.edition.Edition.{Edition}
use Rattle.tt_data.specs.declared.span.Span.{Span}
use Rattle.expander_model.specs.mbe.Grammar.{Grammar}
use Rattle.expander_model.specs.CallSteps.{call_at, call_behind_colons, key_at}
use Rattle.expander_model.specs.Definitions.{Definition, nearest}
use Rattle.expander_model.specs.cfg_options.Conditions.{or_else}
use Rattle.expander_model.specs.Expansion.{World, Outcome, PlacedStep, just}
use Rattle.expander_model.specs.Held.{Numbered, unnumbered}
use Rattle.expander_model.specs.PieceStates.{after_call, after_group, after_name, is_dropped}
use Rattle.expander_model.specs.Scoping.{Scoped, in_brackets, is_alone_in}
use Rattle.expander_model.specs.declared.scope_rules.Standing.{Standing}
use Rattle.expander_model.specs.WalkSteps.{groups_of}
use Rattle.expander_model.specs.declared.begun.Begun.{Begun}
use Rattle.expander_model.specs.declared.begun.Begun.TheVariants as begun
use Rattle.expander_model.specs.declared.call.Call.{Call}
use Rattle.expander_model.specs.declared.dialect.Dialect.{Dialect}
use Rattle.expander_model.specs.declared.scope_rules.ScopeRules.TheVariants.{Rust}
use Rattle.expander_model.specs.declared.scope_rules.Standing.TheVariants.{Argument}
use Rattle.expander_model.specs.declared.fault.FaultKind.{FaultKind}
use Rattle.expander_model.specs.declared.fault.FaultKind.TheVariants.{BrokenDefinition}
use Rattle.expander_model.specs.declared.tree_walk.Around.{Around}
use Rattle.expander_model.specs.Limits.{Noted}
use Rattle.expander_scope.specs.Expanding.{Adds, Levels, levels_at, searched, world_under}
use Rattle.expander_scope.specs.ListsLeft.{IsAhead, IsOutAhead, Left, Open, Place, all_left}
use Rattle.expander_scope.specs.ListsLeft.{groups_left, in_list, then_left}
use Rattle.expander_scope.specs.LocalTables.{AreReadIn, locals_of}
use Rattle.expander_scope.specs.ScopeTable.{scope_in}
use Rattle.expander_scope.specs.Spending.{Spends}
use Rattle.expander_scope.specs.declared.expand.search.Search.{Search}
use Rattle.expander_scope.specs.declared.list_walk.Level.{Level}
use Rattle.expander_scope.specs.declared.list_walk.ListWalk.{ListWalk}
use Rattle.expander_scope.specs.declared.locals.Locals.{Locals}
use Rattle.expander_scope.specs.declared.scope.Scope as table

-- ---- what a call finds

-- a call with which a list begins is a name alone: `!` comes right behind the first word
abbrev pub is_bare : Forest → Bool
is_bare f = unwrap_or (do
  (name, after_name) ← first_ident f
  (p, rest) ← first_punct after_name
  Some (is_char "!" p)) false

-- the definition that it finds among these, which the lists around it have
abbrev pub local_at : List Definition → Forest → Call → Option Definition
local_at locals f c = if is_bare f then nearest locals c.name.sym else None

-- what it finds there, or else outside of all lists
abbrev pub resolved : (List ℕ → Option Numbered) → List Definition → Forest → Call → Option Numbered
resolved scope locals f c = or_else (option_map unnumbered (local_at locals f c))
    (scope (key_at f c))

-- the look-up that it makes outside of all lists, or none
abbrev pub lookups_of : (List ℕ → Option Numbered) → List Definition → Forest → Call
    → List (List ℕ × Option Numbered)
lookups_of scope locals f c =
    if is_some (local_at locals f c) then [] else (key_at f c, scope (key_at f c)) ∷ []

-- what of a piece came behind a call whose group these trees begin with; `gone` tells that a `;`
-- right behind goes with it
abbrev pub begun_behind : Bool → Begun → Forest → Begun
begun_behind gone s f = unwrap_or (do
  (d, inner, rest) ← first_group f
  Some (after_call gone s d.kind)) begun.Other

-- a call whose group these trees begin with stands alone in a list of items, in parentheses or
-- brackets
abbrev pub is_alone_at : Dialect → Begun → Standing → Forest → Bool
is_alone_at dialect s standing f = unwrap_or (do
  (d, inner, rest) ← first_group f
  Some (is_alone_in dialect s standing d)) false

-- the fault of a definition that is invalid, at this place
abbrev pub broken_at : Bool → Span → List (FaultKind × Span)
broken_at broken at = if broken then (BrokenDefinition, at) ∷ [] else []

-- a leaf before which so much came of its piece, unless it is a `;` that went with a call
abbrev pub shown_of : Begun → Leaf → List Step
shown_of s l = if is_dropped s l then [] else at_leaf l ∷ []

-- ---- where a search stands

-- what closes an open group, and the trees behind it
abbrev pub around_of : Open → Around
around_of g = record { kind = g.kind; close_span = g.close_span; behind = g.behind }

-- how the list around it goes on
abbrev pub level_of : Open → Level
level_of g = record { begun = g.begun; standing = g.standing; locals = length g.locals }

-- these definitions are around, and others before them
abbrev pub IsAfter : List Definition → List Definition → Type 0
IsAfter back locals = (front : List Definition) × (locals ≡ front ++ back)

-- each group was opened where the definitions outside of it were all those around, and the first
-- where these were
abbrev pub AreNested : List Definition → List Definition → List Open → Type 0
AreNested outside locals [] = IsAfter outside locals
AreNested outside locals (g ∷ gs) = IsAfter g.locals locals × AreNested outside g.locals gs

-- a traversal stands at this place, with these definitions around
pub record IsAt (w : ListWalk) (l : Locals) (p : Place) : Type 0 where
  pub here : w.trees.here ≡ p.here
  pub begun : w.begun ≡ p.begun
  pub standing : w.standing ≡ p.standing
  pub locals : locals_of l ≡ p.locals
  pub groups : groups_of w.trees ≡ map around_of p.groups
  pub levels : reverse w.levels.items ≡ map level_of p.groups
  pub nested : AreNested p.outside p.locals p.groups

-- a traversal went on behind a call; `gone` tells that a `;` right behind goes with it
pub record GoesBehind (gone : Bool) (c : Call) (before after : ListWalk) : Type 0 where
  pub here : after.trees.here ≡ c.rest
  pub groups : groups_of after.trees ≡ groups_of before.trees
  pub begun : after.begun ≡ begun_behind gone before.begun c.from_group
  pub standing : after.standing ≡ before.standing
  pub levels : after.levels ≡ before.levels

-- a bound of the turns to come
abbrev pub steps_in : List Around → ℕ
steps_in [] = 0
steps_in (a ∷ around) = 1 + 2 * size a.behind + steps_in around

abbrev pub turns_left : ListWalk → ℕ
turns_left w = 2 * size w.trees.here + steps_in (groups_of w.trees)

-- no piece that is left out or a definition begins here
abbrev pub IsPlainAhead : Dialect → Place → Type 0
IsPlainAhead dialect p =
    (p.begun ≡ begun.Nothing → IsOutAhead dialect.cfg p.standing p.here None)
    × (dialect.scope ≡ Rust → p.begun ≡ begun.Nothing → IsAhead p.here None)

-- neither does a call, nor what would be one but for the `::` before it
abbrev pub IsNoCall : Place → Type 0
IsNoCall p = (call_at p.here ≡ None) × (call_behind_colons p.here ≡ None)

-- these trees begin with a group
abbrev pub BeginsWithGroup : Forest → Type 0
BeginsWithGroup f = (d : Delimiter) × (inner : Forest) × (rest : Forest) × (f ≡ group d inner rest)

-- the next event can be passed: it is the opening of an argument, or no call and no definition
-- begins here
abbrev pub IsPassable : Dialect → Bool → Place → Type 0
IsPassable dialect true p = BeginsWithGroup p.here
IsPassable dialect false p = IsPlainAhead dialect p × IsNoCall p

module _ (dialect : Dialect) (world : World Numbered) (scope : List ℕ → Option Numbered)
    (levels : Levels) (outer : Option Span) where
  -- what is left where the group ahead is that of a call that stays
  abbrev pub argument_left : Place → Forest → Left
  argument_left p (group d inner rest) =
      let a : Scoped (Noted Numbered) =
      in_brackets outer d (searched dialect world scope levels
      (record { standing = Argument; outer = outer; locals = p.locals }) inner) in
      then_left a.outcome
      (in_list dialect world scope levels outer (after_group p.begun d.kind) p.standing
      (a.defines ++ p.locals) rest (groups_left dialect world scope levels outer p.groups))
  argument_left p _ = all_left dialect world scope levels outer p

  -- what is left of a call that stays: the trees before its group, its group, and the rest
  abbrev pub kept_left : Forest → Forest → Place → Left
  kept_left before from_group p =
      then_left (just outer (walk before))
      (argument_left (record p { here = from_group; begun = after_name p.begun }) from_group)

  -- what is left, where the group ahead may be that of such a call
  abbrev pub left_ahead : Bool → Place → Left
  left_ahead true p = argument_left p p.here
  left_ahead false p = all_left dialect world scope levels outer p

  -- `Has` tells which events a sink has taken. The search went on from what was left to another
  -- place, with these definitions around all groups, and added what comes between
  pub record Goes (outside : List Definition) (edition : Edition) {S : Type 0}
      (Has : S → List PlacedStep → Type 0)
      (from : Left) (old new : Search S) (before after : ListWalk) : Type 0 where
    pub next : Place
    pub at : IsAt after new.locals next
    pub outcome : Outcome (Noted Numbered)
    pub is : from ≡ then_left outcome (all_left dialect world scope levels outer next)
    pub adds : Adds Has old.out new.out outcome
    pub spends : Spends old.left new.left outcome.finds
    pub read : AreReadIn edition old.locals → AreReadIn edition new.locals
    pub outside_is : next.outside ≡ outside
    pub less : turns_left after < turns_left before

-- the same by this grammar and dialect, in the scope of this table
abbrev pub left_under : Grammar → table.Scope → Dialect → ℕ → Option Span → Place → Left
left_under grammar s dialect depth outer p =
    all_left dialect (world_under grammar s dialect) (scope_in s) (levels_at dialect depth outer)
    outer p

abbrev pub GoesUnder : Grammar → table.Scope → Dialect → ℕ → Option Span → {S : Type 0}
    → (S → List PlacedStep → Type 0) → Place → Search S → Search S → ListWalk → ListWalk → Type 0
GoesUnder grammar s dialect depth outer Has p old new before after =
    Goes dialect (world_under grammar s dialect) (scope_in s) (levels_at dialect depth outer) outer
    p.outside s.edition Has (left_under grammar s dialect depth outer p) old new before after
