-- The expansion of a forest, left to right, outermost calls first. (The Rust Reference, "Macros".)
use Rattle.std.specs.Prelude.{ℕ, zero, suc, Bool, true, false, ◌||◌, List, [], ◌∷◌, ◌++◌, map, Option, Some, None, unwrap_or}
use Rattle.tt_data.specs.Forest.{Forest, empty, leaf, group}
use Rattle.tt_data.specs.Walk.{Step, at_leaf, opens, closes, walk}
use Rattle.tt_data.specs.declared.delimiter.Delimiter.{Delimiter}
use Rattle.tt_data.specs.declared.leaf.Ident.{Ident}
use Rattle.tt_data.specs.declared.leaf.Leaf.TheVariants as as_leaf
use Rattle.tt_data.specs.declared.leaf.Punct.{Punct}
use Rattle.tt_data.specs.declared.span.Span.{Span}
use Rattle.expander_model.specs.declared.dialect.Dialect.{Dialect}
use Rattle.expander_model.specs.declared.fault.FaultKind.{FaultKind}
use Rattle.expander_model.specs.declared.fault.FaultKind.TheVariants.{CannotExpand, BrokenDefinition, RecursionLimit}
use Rattle.expander_model.specs.Calls.{Path, other, Marked, none, token, inside, call, marked, unmarked, in_front, key_of}

-- an event of the output, with the span of the name of the outermost call that gave it, or none
pub record PlacedStep : Type 0 where
  pub step : Step
  pub outer : Option Span

-- what definitions mean: which are invalid, the forest that a definition gives for a call's
-- argument, or none, how many tokens its rules put out for it, and where these are too many; and by
-- which options a text is expanded
pub record World (D : Type 0) : Type 0 where
  pub broken : D → Bool
  pub fit : D → Forest → Option Forest
  -- how many tokens the rules put out that are tried for a call of a definition with this argument
  pub put_out : D → Forest → ℕ
  -- whether a call of a definition with this argument makes more tokens than a tree may have
  pub bursts : D → Forest → Bool
  pub dialect : Dialect

-- the result of an expansion
pub record Outcome (D : Type 0) : Type 0 where
  pub steps : List PlacedStep
  -- each fault with the span that it is reported at
  pub faults : List (FaultKind × Span)
  -- each name that was looked up, with the definition found or none
  pub finds : List (List ℕ × Option D)
  -- whether a call made more tokens than a tree may have
  pub bursts : Bool

abbrev pub placed : Option Span → List Step → List PlacedStep
placed outer steps = map (λ s. record { step = s; outer = outer }) steps

abbrev pub just : {D : Type 0} → Option Span → List Step → Outcome D
just outer steps = record { steps = placed outer steps; faults = []; finds = []; bursts = false }

-- one result after another
abbrev pub followed_by : {D : Type 0} → Outcome D → Outcome D → Outcome D
followed_by a b =
    record {
      steps = a.steps ++ b.steps;
      faults = a.faults ++ b.faults;
      finds = a.finds ++ b.finds;
      bursts = a.bursts || b.bursts;
    }

-- a result in brackets
abbrev pub grouped : {D : Type 0} → Option Span → Delimiter → Outcome D → Outcome D
grouped outer d a =
    record a {
      steps = placed outer (opens d.kind d.open_span ∷ [])
          ++ (a.steps ++ placed outer (closes d.kind d.close_span ∷ []));
    }

abbrev pub faulted : {D : Type 0} → FaultKind → Span → Outcome D → Outcome D
faulted kind place a = record a { faults = (kind, place) ∷ a.faults }

abbrev pub found : {D : Type 0} → List ℕ → Option D → Outcome D → Outcome D
found name definition a = record a { finds = (name, definition) ∷ a.finds }

abbrev pub bursting : {D : Type 0} → Bool → Outcome D → Outcome D
bursting bursts a = record a { bursts = bursts || a.bursts }

-- what expands the result of a call, given its outermost call's name: none if no level is left
abbrev pub Deeper : Type 0 → Type 0
Deeper D = Option (Option Span → Forest → Outcome D)

-- a call: its name's span, the call as it is, and its argument
pub record CallSite : Type 0 where
  pub at : Span
  pub whole : Forest
  pub argument : Forest

-- a call that stays because of a fault, its argument not expanded
abbrev pub stays : {D : Type 0} → FaultKind → Option Span → CallSite → Outcome D
stays kind outer site = faulted kind (unwrap_or outer site.at) (just outer (walk site.whole))

-- a result that fits is replaced by its own expansion; if none fits the call stays
abbrev pub fitted : {D : Type 0} → (Option Span → Forest → Outcome D) → Option Span → CallSite
    → Option Forest → Outcome D
fitted deeper outer site None = stays CannotExpand outer site
fitted deeper outer site (Some result) = deeper (Some (unwrap_or outer site.at)) result

-- a call of a valid definition
abbrev pub at_level : {D : Type 0} → World D → D → Deeper D → Option Span → CallSite → Outcome D
at_level world d None outer site = stays RecursionLimit outer site
at_level world d (Some deeper) outer site =
    bursting (world.bursts d site.argument) (fitted deeper outer site (world.fit d site.argument))

abbrev pub unbroken : {D : Type 0} → World D → D → Bool → Deeper D → Option Span → CallSite
    → Outcome D
unbroken world d true deeper outer site = stays BrokenDefinition outer site
unbroken world d false deeper outer site = at_level world d deeper outer site

-- a call whose name was looked up; `kept` is the call with only the calls in its group expanded
abbrev pub looked_up : {D : Type 0} → World D → Option D → Deeper D → Option Span → CallSite
    → Outcome D → Outcome D
looked_up world None deeper outer site kept = kept
looked_up world (Some d) deeper outer site kept =
    unbroken world d (world.broken d) deeper outer site

-- a call by what comes before its name: after another `::` it is none
abbrev pub at_call : {D : Type 0} → World D → (List ℕ → Option D) → Deeper D → Option Span → Path
    → Ident → CallSite → Outcome D → Outcome D
at_call world scope deeper outer (other first second) name site kept = kept
at_call world scope deeper outer path name site kept =
    found (key_of path name) (scope (key_of path name))
    (looked_up world (scope (key_of path name)) deeper outer site kept)

-- a call's tokens before its group
abbrev pub before_group : Path → Ident → Punct → Forest
before_group path name bang = in_front path
    (leaf (as_leaf.Ident name) (leaf (as_leaf.Punct bang) empty))

abbrev pub whole_call : Path → Ident → Punct → Delimiter → Forest → Forest
whole_call path name bang d argument =
    in_front path (leaf (as_leaf.Ident name) (leaf (as_leaf.Punct bang) (group d argument empty)))

-- the expansion of a forest whose calls are marked, from left to right
abbrev pub search_calls : {D : Type 0} → World D → (List ℕ → Option D) → Deeper D → Option Span
    → Marked → Outcome D
search_calls world scope deeper outer none = just outer []
search_calls world scope deeper outer (token l rest) =
    followed_by (just outer (at_leaf l ∷ [])) (search_calls world scope deeper outer rest)
search_calls world scope deeper outer (inside d a rest) =
    followed_by (grouped outer d (search_calls world scope deeper outer a))
    (search_calls world scope deeper outer rest)
search_calls world scope deeper outer (call path name bang d a rest) =
    followed_by
    (at_call world scope deeper outer path name
    (record {
      at = name.span;
      whole = whole_call path name bang d (unmarked a);
      argument = unmarked a;
    })
    (followed_by (just outer (walk (before_group path name bang)))
    (grouped outer d (search_calls world scope deeper outer a))))
    (search_calls world scope deeper outer rest)

-- the expansion of a forest with n levels left, under the name of an outermost call or none
abbrev pub expansion : {D : Type 0} → World D → (List ℕ → Option D) → ℕ → Option Span → Forest
    → Outcome D
expansion world scope zero outer f = search_calls world scope None outer (marked f)
expansion world scope (suc n) outer f = search_calls world scope
    (Some (expansion world scope n)) outer (marked f)
