-- The steps of trees: their calls from left to right, each before those in what it gives, with what
-- its name finds and what comes of it. (Of this project.)
use Rattle.std.specs.Prelude.{ℕ, zero, suc, Bool, true, ◌+◌, List, [], ◌∷◌, ◌++◌, Option, Some}
use Rattle.std.specs.Prelude.{None, is_some, Result, Ok, Err, if◌then◌else◌}
use Rattle.tt_data.specs.Forest.{Forest}
use Rattle.tt_data.specs.declared.edition.Edition.{Edition}
use Rattle.tt_data.specs.declared.span.Span.{Span}
use Rattle.mbe_rules.specs.declared.macro_call_style.MacroCallStyle.TheVariants.{FnLike}
use Rattle.mbe.specs.Fit as rules
use Rattle.mbe.specs.Grammar.{Grammar}
use Rattle.mbe.specs.Markers.{is_name}
use Rattle.mbe.specs.PutOut as counted
use Rattle.expander_model.specs.Calls.{other, Marked, none, token, inside, call, marked, unmarked}
use Rattle.expander_model.specs.Calls.{key_of}
use Rattle.expander_model.specs.Definitions.{Definition}
use Rattle.expander_model.specs.Expansion.{whole_call}
use Rattle.expander_model.specs.World.{made, rules_in}
use Rattle.expander_model.specs.declared.fault.FaultKind.{FaultKind}
use Rattle.expander_model.specs.declared.fault.FaultKind.TheVariants.{CannotExpand}
use Rattle.expander_model.specs.declared.fault.FaultKind.TheVariants.{BrokenDefinition}
use Rattle.expander_model.specs.declared.fault.FaultKind.TheVariants.{RecursionLimit}
use Rattle.call_expansion.specs.Around.{contains, place_of}
use Rattle.call_expansion.specs.declared.around.CallPlace.{CallPlace}

-- what definitions do: which are invalid, what the first rule that fits an argument gives, with the
-- rule's number from 0, and how many tokens the rules put out that are tried
pub record Rewrites (D : Type 0) : Type 0 where
  pub broken : D → Bool
  pub fit : D → Forest → Option (ℕ × Forest)
  pub put_out : D → Forest → ℕ

-- the same of definitions of a text, by this grammar, in this edition
abbrev pub rewrites : Grammar → Edition → Rewrites Definition
rewrites grammar edition = record {
  broken = λ d. is_some (rules_in edition d).err;
  fit = λ d argument. rules.fit is_name grammar made (rules_in edition d).list FnLike argument;
  put_out = λ d argument. counted.put_out is_name grammar made
      (rules_in edition d).list FnLike argument;
}

-- a call of a definition: its tokens, how many tokens rules put out for it, and the rule's number
-- and what it gives, or the fault for which the call stays
pub record Attempt (D : Type 0) : Type 0 where
  pub definition : D
  pub call : Forest
  pub tokens : ℕ
  pub given : Result (ℕ × Forest) FaultKind

-- a call: in how many others it is expanded, its name's span, what it is looked up by, and what
-- comes of it, or none if nothing has that name
pub record Step (D : Type 0) : Type 0 where
  pub level : ℕ
  pub name : Span
  pub key : List ℕ
  pub attempt : Option (Attempt D)

-- what a call gives that is tried with so many levels left
abbrev pub fitted : ℕ → Option (ℕ × Forest) → Result (ℕ × Forest) FaultKind
fitted zero given = Err RecursionLimit
fitted (suc n) None = Err CannotExpand
fitted (suc n) (Some given) = Ok given

-- how many tokens rules put out for it
abbrev pub spent : ℕ → ℕ → ℕ
spent zero tokens = 0
spent (suc n) tokens = tokens

-- the calls that are asked for: all, or those whose bytes contain this one
abbrev pub is_asked : Option ℕ → CallPlace → Bool
is_asked None c = true
is_asked (Some at) c = contains at c

-- the steps in what a call gives
abbrev pub steps_below : {D : Type 0} → (Forest → List (Step D)) → Result (ℕ × Forest) FaultKind
    → List (Step D)
steps_below deeper (Err kind) = []
steps_below deeper (Ok given) = deeper given.1

module _ {D : Type 0} (by : Rewrites D) where
  -- what a call of a definition with this argument gives, with so many levels left
  abbrev pub given_at : D → ℕ → Forest → Result (ℕ × Forest) FaultKind
  given_at d depth argument =
      if by.broken d then Err BrokenDefinition else fitted depth (by.fit d argument)

  -- how many tokens rules put out for it
  abbrev pub spent_at : D → ℕ → Forest → ℕ
  spent_at d depth argument = if by.broken d then 0 else spent depth (by.put_out d argument)

  abbrev pub attempt_at : D → ℕ → Forest → Forest → Attempt D
  attempt_at d depth whole argument = record {
    definition = d;
    call = whole;
    tokens = spent_at d depth argument;
    given = given_at d depth argument;
  }

  -- `scope` is what names find, `level` in how many calls the trees are, `depth` how many levels
  -- are left, and `deeper` gives the steps of what a call gives
  module _ (scope : List ℕ → Option D) (level depth : ℕ) (deeper : Forest → List (Step D)) where
    -- the steps of a call, where `kept` are those in its group: these if its name finds nothing,
    -- and else those in what it gives
    abbrev pub call_steps : Span → List ℕ → Forest → Forest → List (Step D) → Option D
        → List (Step D)
    call_steps name key whole argument kept None =
        record { level = level; name = name; key = key; attempt = None } ∷ kept
    call_steps name key whole argument kept (Some d) =
        record {
          level = level;
          name = name;
          key = key;
          attempt = Some (attempt_at d depth whole argument);
        } ∷ steps_below deeper (given_at d depth argument)

    -- the steps of trees whose calls are marked: of the calls that are asked for
    abbrev pub marked_steps : Option ℕ → Marked → List (Step D)
    marked_steps at none = []
    marked_steps at (token l rest) = marked_steps at rest
    marked_steps at (inside d a rest) = marked_steps at a ++ marked_steps at rest
    marked_steps at (call (other first second) name bang d a rest) =
        marked_steps at a ++ marked_steps at rest
    marked_steps at (call path name bang d a rest) =
        (if is_asked at (place_of path name d)
        then call_steps name.span (key_of path name) (whole_call path name bang d (unmarked a))
        (unmarked a) (marked_steps at a) (scope (key_of path name))
        else []) ++ marked_steps at rest

  -- the steps of trees that are in so many calls, with n levels left
  abbrev pub steps_of : (List ℕ → Option D) → ℕ → ℕ → Option ℕ → Forest → List (Step D)
  steps_of scope zero level at f = marked_steps scope level 0 (λ g. []) at (marked f)
  steps_of scope (suc n) level at f =
      marked_steps scope level (suc n) (steps_of scope n (level + 1) None) at (marked f)
