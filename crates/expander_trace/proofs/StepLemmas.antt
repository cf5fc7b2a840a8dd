-- The steps that trees begin with.
use Rattle.std.proofs.Common.{◌≡◌, ◌+◌, ◌-◌, ◌∙◌, ℕ, zero, suc, List, [], ◌∷◌, ◌++◌, Bool, true, false, refl, sym, ap, arith, if◌then◌else◌}
use Rattle.std.specs.Prelude.{Option, Some, None, Err}
use Rattle.tt_data.specs.Forest.{Forest, empty, leaf, group}
use Rattle.tt_data.specs.declared.delimiter.Delimiter.{Delimiter}
use Rattle.tt_data.specs.declared.leaf.Ident.{Ident}
use Rattle.tt_data.specs.declared.leaf.Leaf.{Leaf}
use Rattle.tt_data.specs.declared.leaf.Punct.{Punct}
use Rattle.tt_data.specs.declared.span.Span.{Span}
use Rattle.expander_model.specs.Calls.{Path, bare, from_crate, other, Marked, call, key_of, marked, unmarked}
use Rattle.expander_model.specs.CallSteps.{bare_call, call_at, call_behind_colons, crate_call, key_at}
use Rattle.expander_model.specs.Expansion.{whole_call}
use Rattle.expander_model.specs.declared.call.Call.{Call}
use Rattle.expander_scope.proofs.CallLemmas.{no_call}
use Rattle.expander_scope.proofs.MarkLemmas.{unmarked-marked}
use Rattle.expander_scope.proofs.TurnLemmas.{IsCall, colons_is_call, is_open, neither}
use Rattle.call_expansion.specs.Around.{calls_in, place_of}
use Rattle.expander_model.specs.declared.fault.FaultKind.{FaultKind}
use Rattle.expander_model.specs.declared.fault.FaultKind.TheVariants.{BrokenDefinition, RecursionLimit}
use Rattle.expander_trace.specs.Steps.{Rewrites, Step, attempt_at, call_steps, is_asked, marked_steps, steps_below, steps_of}

-- ---- where a call is

open_calls : (path : Path) (name : Ident) (bang : Punct) (d : Delimiter) (a rest : Marked) → is_open path ≡ true
    → calls_in (call path name bang d a rest) ≡ place_of path name d ∷ (calls_in a ++ calls_in rest)
open_calls bare name bang d a rest e = refl
open_calls (from_crate crate p q) name bang d a rest e = refl
open_calls (other p q) name bang d a rest e = cc

pub place_is : (f : Forest) (c : Call) (k : IsCall f c true) → calls_in (marked f) ≡ place_of k.path c.name k.brackets ∷ (calls_in (marked c.argument) ++ calls_in (marked c.rest))
place_is f c k = ap calls_in k.marks ∙ open_calls k.path c.name k.bang k.brackets (marked c.argument) (marked c.rest) k.is_so

-- two lists that are the same begin alike
pub first_is : {X : Type 0} (x y : X) (xs ys : List X) → x ∷ xs ≡ y ∷ ys → x ≡ y
first_is x y xs ys e = cc

-- ---- the steps of trees

module _ {D : Type 0} (by : Rewrites D) (scope : List ℕ → Option D) (level depth : ℕ) (deeper : Forest → List (Step D)) (at : Option ℕ) where
  abbrev found : Forest → List (Step D)
  found f = marked_steps by scope level depth deeper at (marked f)

  -- of a call, if it is asked for
  abbrev asked_steps : (path : Path) → Ident → Punct → Delimiter → Forest → List (Step D) → List ℕ → List (Step D)
  asked_steps path name bang d argument kept key =
      if is_asked at (place_of path name d)
      then call_steps by scope level depth deeper name.span key (whole_call path name bang d argument) argument kept (scope key) else []

  open_steps : (path : Path) (name : Ident) (bang : Punct) (d : Delimiter) (a rest : Marked) → is_open path ≡ true
      → marked_steps by scope level depth deeper at (call path name bang d a rest)
      ≡ asked_steps path name bang d (unmarked a) (marked_steps by scope level depth deeper at a) (key_of path name) ++ marked_steps by scope level depth deeper at rest
  open_steps bare name bang d a rest e = refl
  open_steps (from_crate crate p q) name bang d a rest e = refl
  open_steps (other p q) name bang d a rest e = cc

  closed_steps : (path : Path) (name : Ident) (bang : Punct) (d : Delimiter) (a rest : Marked) → is_open path ≡ false
      → marked_steps by scope level depth deeper at (call path name bang d a rest)
      ≡ marked_steps by scope level depth deeper at a ++ marked_steps by scope level depth deeper at rest
  closed_steps bare name bang d a rest e = cc
  closed_steps (from_crate crate p q) name bang d a rest e = cc
  closed_steps (other p q) name bang d a rest e = refl

  call_found : (f : Forest) (c : Call) (k : IsCall f c true)
      → found f ≡ asked_steps k.path c.name k.bang k.brackets c.argument (found c.argument) (key_at f c) ++ found c.rest
  call_found f c k =
      ap (marked_steps by scope level depth deeper at) k.marks ∙ open_steps k.path c.name k.bang k.brackets (marked c.argument) (marked c.rest) k.is_so
      ∙ ap (λ a. asked_steps k.path c.name k.bang k.brackets a (found c.argument) (key_of k.path c.name) ++ found c.rest) (unmarked-marked c.argument)
      ∙ ap (λ key. asked_steps k.path c.name k.bang k.brackets c.argument (found c.argument) key ++ found c.rest) (k.key refl)

  colons_found : (f : Forest) (c : Call) → call_behind_colons f ≡ Some c → found f ≡ found c.from_group
  colons_found f c e =
      let k : IsCall f c false = colons_is_call f c e in
      ap (marked_steps by scope level depth deeper at) k.marks ∙ closed_steps k.path c.name k.bang k.brackets (marked c.argument) (marked c.rest) k.is_so
      ∙ sym (ap found k.group_is)

  leaf_found : (f rest : Forest) (l : Leaf) → call_at f ≡ None → call_behind_colons f ≡ None → f ≡ leaf l rest → found f ≡ found rest
  leaf_found f rest l none colons is =
      let both = neither (crate_call (leaf l rest)) (bare_call (leaf l rest)) (sym (ap call_at is) ∙ none) in
      ap found is ∙ ap (marked_steps by scope level depth deeper at) (no_call l rest both.0 both.1 (sym (ap call_behind_colons is) ∙ colons))

-- ---- level by level

module _ {D : Type 0} (by : Rewrites D) (scope : List ℕ → Option D) where
  -- the steps of what a call gives
  abbrev pub deeper_by : (level depth : ℕ) → Forest → List (Step D)
  deeper_by level zero g = []
  deeper_by level (suc n) g = steps_of by scope n (level + 1) None g

  pub steps_are : (depth level : ℕ) (at : Option ℕ) (f : Forest) → steps_of by scope depth level at f ≡ marked_steps by scope level depth (deeper_by level depth) at (marked f)
  steps_are zero level at f = refl
  steps_are (suc n) level at f = refl

  -- a call of a definition gives nothing where no level is left
  none_below : (b : Bool) (deeper : Forest → List (Step D)) (x y : FaultKind) → steps_below deeper (if b then Err x else Err y) ≡ []
  none_below true deeper x y = refl
  none_below false deeper x y = refl

  pub known_same : (depth level : ℕ) (name : Span) (key : List ℕ) (whole argument : Forest) (kept : List (Step D)) (d : D)
      → call_steps by scope level depth (deeper_by level depth) name key whole argument kept (Some d)
      ≡ call_steps by scope level depth (steps_of by scope (depth - 1) (level + 1) None) name key whole argument [] (Some d)
  known_same zero level name key whole argument kept d =
      let first : Step D = record { level = level; name = name; key = key; attempt = Some (attempt_at by d 0 whole argument) } in
      ap (λ xs. first ∷ xs)
      (none_below (by.broken d) (deeper_by level 0) BrokenDefinition RecursionLimit
      ∙ sym (none_below (by.broken d) (steps_of by scope (0 - 1) (level + 1) None) BrokenDefinition RecursionLimit))
  known_same (suc n) level name key whole argument kept d =
      let e : n ≡ suc n - 1 = omega arith in
      ap (λ m. call_steps by scope level (suc n) (steps_of by scope m (level + 1) None) name key whole argument [] (Some d)) e

  module _ (depth level : ℕ) (at : Option ℕ) where
    abbrev steps : Forest → List (Step D)
    steps f = steps_of by scope depth level at f

    pub call_steps_are : (f : Forest) (c : Call) (k : IsCall f c true)
        → steps f ≡ asked_steps by scope level depth (deeper_by level depth) at k.path c.name k.bang k.brackets c.argument (steps c.argument) (key_at f c) ++ steps c.rest
    call_steps_are f c k =
        steps_are depth level at f ∙ call_found by scope level depth (deeper_by level depth) at f c k
        ∙ ap (λ xs. asked_steps by scope level depth (deeper_by level depth) at k.path c.name k.bang k.brackets c.argument xs (key_at f c)
        ++ marked_steps by scope level depth (deeper_by level depth) at (marked c.rest)) (sym (steps_are depth level at c.argument))
        ∙ ap (λ xs. asked_steps by scope level depth (deeper_by level depth) at k.path c.name k.bang k.brackets c.argument (steps c.argument) (key_at f c) ++ xs) (sym (steps_are depth level at c.rest))

    -- ---- what a walk needs of these steps

    pub no_steps : steps empty ≡ []
    no_steps = steps_are depth level at empty

    pub group_steps : (d : Delimiter) (inner rest : Forest) → steps (group d inner rest) ≡ steps inner ++ steps rest
    group_steps d inner rest =
        steps_are depth level at (group d inner rest)
        ∙ (λ i. sym (steps_are depth level at inner) i ++ sym (steps_are depth level at rest) i)

    pub leaf_steps : (f rest : Forest) (l : Leaf) → call_at f ≡ None → call_behind_colons f ≡ None → f ≡ leaf l rest → steps f ≡ steps rest
    leaf_steps f rest l none colons is =
        steps_are depth level at f ∙ leaf_found by scope level depth (deeper_by level depth) at f rest l none colons is ∙ sym (steps_are depth level at rest)

    pub colons_steps : (f : Forest) (c : Call) → call_behind_colons f ≡ Some c → steps f ≡ steps c.from_group
    colons_steps f c e =
        steps_are depth level at f ∙ colons_found by scope level depth (deeper_by level depth) at f c e ∙ sym (steps_are depth level at c.from_group)
