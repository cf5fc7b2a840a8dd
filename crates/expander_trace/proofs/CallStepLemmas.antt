-- The steps of a call with which trees begin are added to a trace.
use Rattle.std.proofs.Common.{◌≡◌, ◌<◌, ◌≤◌, ◌+◌, ◌-◌, ◌∙◌, ℕ, List, [], ◌∷◌, ◌++◌, Bool, true, false, refl, sym, ap, map, arith, subst, if◌then◌else◌}
use Rattle.std.specs.Prelude.{Option, Some, None, Result, Ok, Err, is_some, nat_lt, not}
use Rattle.std.specs.Rc.{rc_value}
use Rattle.std.proofs.lemmas.Bool.Decides.{nat_tests}
use Rattle.tt.specs.Tops.{Top}
use Rattle.tt_data.specs.Forest.{Forest, joined}
use Rattle.tt_data.specs.declared.span.Span.{Span}
use Rattle.mbe.specs.Grammar.{Grammar}
use Rattle.expander_model.specs.Calls.{marked}
use Rattle.expander_model.specs.CallSteps.{call_at, key_at}
use Rattle.expander_model.specs.Expansion.{whole_call}
use Rattle.expander_model.specs.Held.{Numbered}
use Rattle.expander_model.specs.declared.call.Call.{Call}
use Rattle.expander_model.specs.declared.fault.FaultKind.{FaultKind}
use Rattle.expander_model.specs.declared.scope_rules.ScopeRules.{ScopeRules}
use Rattle.expander_scope.specs.ScopeTable.{scope_in}
use Rattle.expander_scope.specs.declared.scope.Scope as table
use Rattle.expander_scope.proofs.TurnLemmas.{IsCall, call_is_call, call_smaller, rest_smaller}
use Rattle.call_expansion.specs.Around.{calls_in, place_of}
use Rattle.call_expansion.specs.declared.around.CallPlace.{CallPlace}
use Rattle.expander_trace.specs.Given.{given_in}
use Rattle.expander_trace.specs.Numbered.{step_numbered}
use Rattle.expander_trace.specs.Parts.{given_defines, may_define, part_of, part_within, room_behind}
use Rattle.expander_trace.specs.Passing.{Adds, AddsBelow, IsAdded, Passes, by_table, known_steps, steps_under}
use Rattle.expander_trace.specs.Steps.{Attempt, Step, attempt_at, call_steps, given_at, is_asked, steps_below}
use Rattle.expander_trace.specs.Trying.{given_top}
use Rattle.expander_trace.specs.declared.limits.Cut.TheVariants as cuts
use Rattle.expander_trace.specs.declared.limits.Limits.{Limits}
use Rattle.expander_trace.specs.declared.step.Given.{Given}
use Rattle.expander_trace.specs.declared.step.Trace.{Trace}
use Rattle.expander_trace.proofs.PartLemmas.{adds_none, adds_off, adds_rest, adds_step, behind_is, part_full, part_large}
use Rattle.expander_trace.proofs.StepLemmas.{call_steps_are, colons_steps, deeper_by, group_steps, known_same, leaf_steps, no_steps, place_is}
use Rattle.expander_trace.proofs.WalkLemmas.{AreSteps}

-- ---- options and results

pub some_from : {X : Type 0} (o : Option X) → is_some o ≡ true → (x : X) × (o ≡ Some x)
some_from (Some x) e = (x, refl)
some_from None e = cc

pub none_from : {X : Type 0} (o : Option X) → is_some o ≡ false → o ≡ None
none_from None e = refl
none_from (Some x) e = cc

-- what gives no tree is a fault
pub stays_from : (r : Result Given FaultKind) → None ≡ given_top r → (kind : FaultKind) × (given_in r ≡ Err kind)
stays_from (Err kind) e = (kind, refl)
stays_from (Ok given) e = absurd (cc e)

-- what gives a tree is what a rule gives
pub gives_from : (r : Result Given FaultKind) (tree : Top) → Some tree ≡ given_top r → (rule : ℕ) × (given_in r ≡ Ok (rule, tree.inner))
gives_from (Err kind) tree e = absurd (cc e)
gives_from (Ok given) tree e = let is : tree ≡ rc_value given.tree = cc e in (given.rule, ap (λ (t : Top). Ok (given.rule, t.inner)) (sym is))

pub not_less : (b : Bool) → true ≡ not b → b ≡ false
not_less false e = refl
not_less true e = absurd (cc e)

pub is_less : (b : Bool) → false ≡ not b → b ≡ true
is_less true e = refl
is_less false e = absurd (cc e)

pub at_most : (m n : ℕ) → nat_lt m n ≡ false → n ≤ m
at_most m n e = grind (arith, nat_tests, e)

not_below : (m : ℕ) → nat_lt m 0 ≡ false
not_below m = grind (arith, nat_tests)

-- ---- a call

module _ (grammar : Grammar) (s : table.Scope) (depth level : ℕ) (at : Option ℕ) where
  abbrev found_steps : Forest → List (Step Numbered)
  found_steps f = steps_under grammar s depth level at f

  pub are_steps : AreSteps (λ f. steps_under grammar s depth level at f)
  are_steps = record {
    nothing = no_steps (by_table grammar s) (scope_in s) depth level at;
    at_group = group_steps (by_table grammar s) (scope_in s) depth level at;
    at_leaf = leaf_steps (by_table grammar s) (scope_in s) depth level at;
    at_colons = colons_steps (by_table grammar s) (scope_in s) depth level at;
  }

  -- the steps of a call that is asked for
  abbrev own_steps : (f : Forest) (c : Call) → IsCall f c true → Option Numbered → List (Step Numbered)
  own_steps f c k o =
      call_steps (by_table grammar s) (scope_in s) level depth (deeper_by (by_table grammar s) (scope_in s) level depth) c.name.span (key_at f c)
      (whole_call k.path c.name k.bang k.brackets c.argument) c.argument (found_steps c.argument) o

  asked_first : (f : Forest) (c : Call) (k : IsCall f c true) → is_asked at (place_of k.path c.name k.brackets) ≡ true → found_steps f ≡ own_steps f c k (scope_in s (key_at f c)) ++ found_steps c.rest
  asked_first f c k e =
      call_steps_are (by_table grammar s) (scope_in s) depth level at f c k
      ∙ ap (λ b. (if b then own_steps f c k (scope_in s (key_at f c)) else []) ++ found_steps c.rest) e

  module _ (rules : ScopeRules) (f : Forest) (c : Call) (e : call_at f ≡ Some c) where
    abbrev k : IsCall f c true
    k = call_is_call f c e

    -- whether it is asked for is known of its place
    abbrev Asked : Bool → Type 0
    Asked b = (place : CallPlace) (more : List CallPlace) → calls_in (marked f) ≡ place ∷ more → b ≡ is_asked at place

    asked_here : (b : Bool) → Asked b → is_asked at (place_of k.path c.name k.brackets) ≡ b
    asked_here b h = sym (h (place_of k.path c.name k.brackets) (calls_in (marked c.argument) ++ calls_in (marked c.rest)) (place_is f c k))

    -- it is not
    pub passes_unasked : (t : Trace) → Asked false → Passes (λ g. steps_under grammar s depth level at g) rules t t f c.rest
    passes_unasked t h = record {
      first = [];
      begins = record {
        is = call_steps_are (by_table grammar s) (scope_in s) depth level at f c k
            ∙ ap (λ b. (if b then own_steps f c k (scope_in s (key_at f c)) else []) ++ found_steps c.rest) (asked_here false h);
        less = rest_smaller f c e;
      };
      adds = adds_none rules t;
    }

    -- no step is left
    pub passes_full : (t new : Trace) → Asked true → t.room.cut ≡ None → t.room.left.steps ≡ 0 → new.steps ≡ t.steps → new.room.left ≡ t.room.left → new.room.cut ≡ Some cuts.Steps
        → Passes (λ g. steps_under grammar s depth level at g) rules t new f c.rest
    passes_full t new h going full steps left off = record {
      first = own_steps f c k (scope_in s (key_at f c));
      begins = record { is = asked_first f c k (asked_here true h); less = rest_smaller f c e };
      adds = go (scope_in s (key_at f c));
    }
      where
        go : (o : Option Numbered) → Adds rules t new (own_steps f c k o)
        go None =
            adds_off rules t new cuts.Steps (part_of rules t.room (own_steps f c k None))
            (part_full rules t.room (record { level = level; name = c.name.span; key = key_at f c; attempt = None }) (found_steps c.argument) going full) steps left off
        go (Some d) =
            adds_off rules t new cuts.Steps (part_of rules t.room (own_steps f c k (Some d)))
            (part_full rules t.room
            (record {
              level = level;
              name = c.name.span;
              key = key_at f c;
              attempt = Some (attempt_at (by_table grammar s) d depth (whole_call k.path c.name k.bang k.brackets c.argument) c.argument);
            })
            (steps_below (deeper_by (by_table grammar s) (scope_in s) level depth) (given_at (by_table grammar s) d depth c.argument)) going full) steps left off

    -- its name finds nothing
    pub passes_unknown : (t new : Trace) (key : List ℕ) → Asked true → t.room.cut ≡ None → 0 < t.room.left.steps → key ≡ key_at f c → None ≡ scope_in s key
        → map step_numbered new.steps.items ≡ map step_numbered t.steps.items ++ record { level = level; name = c.name.span; key = key; attempt = None } ∷ []
        → new.room.left ≡ record { steps = t.room.left.steps - 1; tokens = t.room.left.tokens - 0 } → new.room.cut ≡ t.room.cut
        → Passes (λ g. steps_under grammar s depth level at g) rules t new f c.from_group
    passes_unknown t new key h going steps is none pushed left same =
        let first : Step Numbered = record { level = level; name = c.name.span; key = key; attempt = None } in
        record {
          first = first ∷ [];
          begins = record {
            is = asked_first f c k (asked_here true h)
                ∙ ap (λ x. own_steps f c k (scope_in s x) ++ found_steps c.rest) (sym is) ∙ ap (λ o. own_steps f c k o ++ found_steps c.rest) (sym none)
                ∙ ap (λ x. record { level = level; name = c.name.span; key = x; attempt = None } ∷ (found_steps c.argument ++ found_steps c.rest)) (sym is)
                ∙ ap (λ xs. first ∷ xs) (sym (ap found_steps k.group_is ∙ group_steps (by_table grammar s) (scope_in s) depth level at k.brackets c.argument c.rest));
            less = call_smaller f c e;
          };
          adds = adds_step rules t new new first [] going steps (not_below t.room.left.tokens) pushed
              (adds_rest rules new (room_behind rules t.room.left first).left _ refl left (same ∙ going));
        }

    -- its name finds this definition
    pub passes_known : (t new : Trace) (key : List ℕ) (d : Numbered) → Asked true → key ≡ key_at f c → Some d ≡ scope_in s key
        → ((whole : Forest) → f ≡ joined whole c.rest → Adds rules t new (known_steps grammar s depth level c.name.span key whole c.argument d))
        → Passes (λ g. steps_under grammar s depth level at g) rules t new f c.rest
    passes_known t new key d h is finds adds =
        let whole : Forest = whole_call k.path c.name k.bang k.brackets c.argument in
        record {
          first = known_steps grammar s depth level c.name.span key whole c.argument d;
          begins = record {
            is = asked_first f c k (asked_here true h)
                ∙ ap (λ x. own_steps f c k (scope_in s x) ++ found_steps c.rest) (sym is) ∙ ap (λ o. own_steps f c k o ++ found_steps c.rest) (sym finds)
                ∙ ap (λ xs. xs ++ found_steps c.rest)
                (known_same (by_table grammar s) (scope_in s) depth level c.name.span (key_at f c) whole c.argument (found_steps c.argument) d
                ∙ ap (λ x. known_steps grammar s depth level c.name.span x whole c.argument d) (sym is));
            less = rest_smaller f c e;
          };
          adds = adds whole k.whole;
        }

-- ---- a call of a definition

module _ (grammar : Grammar) (s : table.Scope) (depth level : ℕ) (rules : ScopeRules) (name : Span) (key : List ℕ) (whole argument : Forest) (d : Numbered) (t : Trace)
    (going : t.room.cut ≡ None) (steps : 0 < t.room.left.steps) where
  abbrev A : Attempt Numbered
  A = attempt_at (by_table grammar s) d depth whole argument

  abbrev first_step : Step Numbered
  first_step = record { level = level; name = name; key = key; attempt = Some A }

  abbrev deep : Forest → List (Step Numbered)
  deep f = steps_under grammar s (depth - 1) (level + 1) None f

  -- rules put out too much
  pub adds_large : (new : Trace) → nat_lt t.room.left.tokens A.tokens ≡ true → new.steps ≡ t.steps → new.room.left ≡ t.room.left → new.room.cut ≡ Some cuts.Tokens
      → Adds rules t new (known_steps grammar s depth level name key whole argument d)
  adds_large new large same left off = adds_off rules t new cuts.Tokens _ (part_large rules t.room first_step (steps_below deep A.given) going steps large) same left off

  module _ (fits : nat_lt t.room.left.tokens A.tokens ≡ false) (mid : Trace) (got : Attempt Numbered) (is : got ≡ A)
      (pushed : map step_numbered mid.steps.items ≡ map step_numbered t.steps.items ++ record { level = level; name = name; key = key; attempt = Some got } ∷ [])
      (left : mid.room.left ≡ record { steps = t.room.left.steps - 1; tokens = t.room.left.tokens - A.tokens }) (same : mid.room.cut ≡ t.room.cut) where
    abbrev own_left : Limits
    own_left = record { steps = t.room.left.steps - 1; tokens = t.room.left.tokens - A.tokens }

    own_push : map step_numbered mid.steps.items ≡ map step_numbered t.steps.items ++ first_step ∷ []
    own_push = pushed ∙ ap (λ (a : Attempt Numbered). map step_numbered t.steps.items ++ record { level = level; name = name; key = key; attempt = Some a } ∷ []) is

    -- it stays
    pub adds_stays : (kind : FaultKind) → A.given ≡ Err kind → Adds rules t mid (known_steps grammar s depth level name key whole argument d)
    adds_stays kind e =
        adds_step rules t mid mid first_step (steps_below deep A.given) going steps fits own_push
        (adds_rest rules mid own_left _
        (ap (λ r. part_within rules own_left (if given_defines rules r then Some cuts.Definitions else None) (steps_below deep r)) e) left (same ∙ going))

    -- it gives trees
    pub adds_gives : (new : Trace) (rule : ℕ) (tree : Forest) → A.given ≡ Ok (rule, tree) → AddsBelow rules mid new tree (deep tree)
        → Adds rules t new (known_steps grammar s depth level name key whole argument d)
    adds_gives new rule tree e h =
        adds_step rules t mid new first_step (steps_below deep A.given) going steps fits own_push
        (subst (IsAdded mid new)
        (behind_is rules mid own_left (may_define rules tree) (deep tree) left (same ∙ going)
        ∙ ap (λ r. part_within rules own_left (if given_defines rules r then Some cuts.Definitions else None) (steps_below deep r)) (sym e)) h)
