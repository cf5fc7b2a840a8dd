-- The steps of trees are those of their expansion, and their results give its trees.
use Rattle.std.proofs.Common.{◌≡◌, ◌+◌, ◌∙◌, ℕ, zero, suc, List, [], ◌∷◌, ◌++◌, append_assoc, Bool, true, false, refl, subst, sym, ap, map, if◌then◌else◌}
use Rattle.std.specs.Prelude.{Option, Some, None, option_map, unwrap_or, Result, Err, flat_map}
use Rattle.std.proofs.lemmas.List.{map-append}
use Rattle.std.proofs.lemmas.List.Concat.{flat_map-append}
use Rattle.tt_data.specs.Forest.{Forest, empty, leaf, group, joined}
use Rattle.tt_data.specs.Walk.{Step as Event, at_leaf, closes, opens, walk}
use Rattle.tt_data.specs.declared.delimiter.Delimiter.{Delimiter}
use Rattle.tt_data.specs.declared.leaf.Ident.{Ident}
use Rattle.tt_data.specs.declared.leaf.Leaf.{Leaf}
use Rattle.tt_data.specs.declared.leaf.Punct.{Punct}
use Rattle.tt_data.specs.declared.span.Span.{Span}
use Rattle.tt_data.proofs.ForestLemmas.{walk-joined}
use Rattle.expander_model.specs.Calls.{Path, bare, from_crate, other, Marked, none, token, inside, call, key_of, marked, unmarked}
use Rattle.expander_model.specs.Expansion.{CallSite, Deeper, Outcome, PlacedStep, World, at_level, before_group, bursting, expansion, fitted, followed_by, found, grouped, just, looked_up, placed, search_calls, stays, unbroken, whole_call}
use Rattle.expander_model.specs.declared.fault.FaultKind.{FaultKind}
use Rattle.expander_model.specs.declared.fault.FaultKind.TheVariants.{BrokenDefinition, CannotExpand, RecursionLimit}
use Rattle.expander_trace.specs.Laws.{DoAs, Substituted, Substitution, events_of, faults_of, find_of, given_faults, substitute_call, substitute_given, substitute_marked, substitute_steps, map_trees}
use Rattle.expander_trace.specs.Steps.{Attempt, Rewrites, Step, attempt_at, call_steps, given_at, marked_steps, steps_below, steps_of}
use Rattle.expander_trace.specs.Steps as spec

-- ---- the events of results

just_is : (outer : Option Span) (events : List Event) → map (λ (s : PlacedStep). s.step) (placed outer events) ≡ events
just_is outer [] = refl
just_is outer (e ∷ events) = ap (λ es. e ∷ es) (just_is outer events)

module _ {D : Type 0} where
  followed_events : (a b : Outcome D) → events_of (followed_by a b) ≡ events_of a ++ events_of b
  followed_events a b = map-append (λ (s : PlacedStep). s.step) a.steps b.steps

  grouped_events : (outer : Option Span) (d : Delimiter) (a : Outcome D) → events_of (grouped outer d a) ≡ opens d.kind d.open_span ∷ (events_of a ++ closes d.kind d.close_span ∷ [])
  grouped_events outer d a =
      ap (λ es. opens d.kind d.open_span ∷ es) (map-append (λ (s : PlacedStep). s.step) a.steps (placed outer (closes d.kind d.close_span ∷ [])))

-- a call's tokens are those before its group, and its group
whole_walk : (path : Path) (name : Ident) (bang : Punct) (d : Delimiter) (a : Forest)
    → walk (whole_call path name bang d a) ≡ walk (before_group path name bang) ++ (opens d.kind d.open_span ∷ (walk a ++ closes d.kind d.close_span ∷ []))
whole_walk bare name bang d a = refl
whole_walk (from_crate root p q) name bang d a = refl
whole_walk (other p q) name bang d a = refl

-- ---- what is said of an expansion by steps

-- the look-ups are those of the steps, and so are the faults; and the steps' results, put into
-- trees by `put`, give the events
pub record Tells {D : Type 0} (steps : List (Step D)) (put : List (Step D) → Substituted D) (o : Outcome D) : Type 0 where
  pub finds : map find_of steps ≡ o.finds
  pub faults : flat_map (λ (s : Step D). faults_of s.attempt) steps ≡ map (λ (f : FaultKind × Span). f.0) o.faults
  pub forest : Forest
  pub puts : (more : List (Step D)) → put (steps ++ more) ≡ (forest, more)
  pub events : walk forest ≡ events_of o

module _ {D : Type 0} where
  abbrev kinds : List (Step D) → List FaultKind
  kinds steps = flat_map (λ (s : Step D). faults_of s.attempt) steps

  abbrev told : Outcome D → List FaultKind
  told o = map (λ (f : FaultKind × Span). f.0) o.faults

  tells_nothing : (outer : Option Span) (put : List (Step D) → Substituted D) → ((more : List (Step D)) → put more ≡ (empty, more)) → Tells [] put (just outer [])
  tells_nothing outer put puts = record { finds = refl; faults = refl; forest = empty; puts = puts; events = refl }

  -- a leaf in front
  tells_token : (outer : Option Span) (l : Leaf) (steps : List (Step D)) (put : List (Step D) → Substituted D) (o : Outcome D) → Tells steps put o
      → Tells steps (λ ss. map_trees (leaf l) (put ss)) (followed_by (just outer (at_leaf l ∷ [])) o)
  tells_token outer l steps put o t = record {
    finds = t.finds;
    faults = t.faults;
    forest = leaf l t.forest;
    puts = λ more. ap (map_trees (leaf l)) (t.puts more);
    events = ap (λ es. at_leaf l ∷ es) t.events;
  }

  -- trees behind a group, and in it
  tells_group : (outer : Option Span) (d : Delimiter) (ins rest : List (Step D)) (put_in put : List (Step D) → Substituted D) (oi o : Outcome D) → Tells ins put_in oi → Tells rest put o
      → Tells (ins ++ rest) (λ ss. map_trees (group d (put_in ss).0) (put (put_in ss).1)) (followed_by (grouped outer d oi) o)
  tells_group outer d ins rest put_in put oi o t u = record {
    finds = map-append find_of ins rest ∙ (λ i. t.finds i ++ u.finds i);
    faults = flat_map-append (λ (s : Step D). faults_of s.attempt) ins rest ∙ (λ i. t.faults i ++ u.faults i) ∙ sym (map-append (λ (f : FaultKind × Span). f.0) oi.faults o.faults);
    forest = group d t.forest u.forest;
    puts = λ more.
        ap (λ ss. map_trees (group d (put_in ss).0) (put (put_in ss).1)) (append_assoc ins rest more)
        ∙ ap (λ (p : Substituted D). map_trees (group d p.0) (put p.1)) (t.puts (rest ++ more)) ∙ ap (map_trees (group d t.forest)) (u.puts more);
    events =
        ap (λ es. opens d.kind d.open_span ∷ es)
        ((λ i. t.events i ++ (closes d.kind d.close_span ∷ u.events i)) ∙ sym (append_assoc (events_of oi) (closes d.kind d.close_span ∷ []) (events_of o)))
        ∙ ap (λ es. es ++ events_of o) (sym (grouped_events outer d oi)) ∙ sym (followed_events (grouped outer d oi) o);
  }

  -- trees behind other trees
  tells_joined : (first rest : List (Step D)) (put_first put : List (Step D) → Substituted D) (a o : Outcome D) → Tells first put_first a → Tells rest put o
      → Tells (first ++ rest) (λ ss. map_trees (joined (put_first ss).0) (put (put_first ss).1)) (followed_by a o)
  tells_joined first rest put_first put a o t u = record {
    finds = map-append find_of first rest ∙ (λ i. t.finds i ++ u.finds i);
    faults = flat_map-append (λ (s : Step D). faults_of s.attempt) first rest ∙ (λ i. t.faults i ++ u.faults i) ∙ sym (map-append (λ (f : FaultKind × Span). f.0) a.faults o.faults);
    forest = joined t.forest u.forest;
    puts = λ more.
        ap (λ ss. map_trees (joined (put_first ss).0) (put (put_first ss).1)) (append_assoc first rest more)
        ∙ ap (λ (p : Substituted D). map_trees (joined p.0) (put p.1)) (t.puts (rest ++ more)) ∙ ap (map_trees (joined t.forest)) (u.puts more);
    events = walk-joined t.forest u.forest ∙ (λ i. t.events i ++ u.events i) ∙ sym (followed_events a o);
  }

  -- a call as it is, with the calls in its group
  tells_kept : (outer : Option Span) (path : Path) (name : Ident) (bang : Punct) (d : Delimiter) (ins : List (Step D)) (put_in : List (Step D) → Substituted D) (oi : Outcome D) → Tells ins put_in oi
      → Tells ins (λ ss. map_trees (whole_call path name bang d) (put_in ss)) (followed_by (just outer (walk (before_group path name bang))) (grouped outer d oi))
  tells_kept outer path name bang d ins put_in oi t = record {
    finds = t.finds;
    faults = t.faults;
    forest = whole_call path name bang d t.forest;
    puts = λ more. ap (map_trees (whole_call path name bang d)) (t.puts more);
    events =
        whole_walk path name bang d t.forest
        ∙ ap (λ es. walk (before_group path name bang) ++ (opens d.kind d.open_span ∷ (es ++ closes d.kind d.close_span ∷ []))) t.events
        ∙ (λ i. sym (just_is outer (walk (before_group path name bang))) i ++ sym (grouped_events outer d oi) i)
        ∙ sym (followed_events (just outer (walk (before_group path name bang))) (grouped outer d oi));
  }

-- ---- a call

module _ {D : Type 0} (by : Rewrites D) (world : World D) (does : DoAs by world) (scope : List ℕ → Option D) where
  -- what the levels below give
  pub data Below : ℕ → (Forest → List (Step D)) → Substitution D → Deeper D → Type 0 where
    nothing_below : (deeper : Forest → List (Step D)) (put : Substitution D) → Below 0 deeper put None
    level_below : (n : ℕ) (deeper : Forest → List (Step D)) (put : Substitution D) (further : Option Span → Forest → Outcome D)
        → ((outer : Option Span) (g : Forest) → Tells (deeper g) (put g) (further outer g)) → Below (suc n) deeper put (Some further)

  -- what is said of a call of a definition, by what that gives
  pub record Gives (deeper : Forest → List (Step D)) (put : Substitution D) (whole : Forest) (given : Result (ℕ × Forest) FaultKind) (o : Outcome D) : Type 0 where
    pub finds : map find_of (steps_below deeper given) ≡ o.finds
    pub faults : given_faults given ++ flat_map (λ (s : Step D). faults_of s.attempt) (steps_below deeper given) ≡ map (λ (f : FaultKind × Span). f.0) o.faults
    pub forest : Forest
    pub puts : (more : List (Step D)) → substitute_given put whole given (steps_below deeper given ++ more) ≡ (forest, more)
    pub events : walk forest ≡ events_of o

  module _ (depth : ℕ) (deeper : Forest → List (Step D)) (put : Substitution D) (further : Deeper D) (outer : Option Span) where
    -- it stays
    stays_gives : (kind : FaultKind) (site : CallSite) → Gives deeper put site.whole (Err kind) (stays kind outer site)
    stays_gives kind site = record {
      finds = refl;
      faults = refl;
      forest = site.whole;
      puts = λ more. refl;
      events = sym (just_is outer (walk site.whole));
    }

    bursting_gives : (b : Bool) (whole : Forest) (given : Result (ℕ × Forest) FaultKind) (o : Outcome D) → Gives deeper put whole given o → Gives deeper put whole given (bursting b o)
    bursting_gives b whole given o g = record { finds = g.finds; faults = g.faults; forest = g.forest; puts = g.puts; events = g.events }

    -- a rule fits, or none
    fit_gives : (n : ℕ) (next : Option Span → Forest → Outcome D) → ((at : Option Span) (g : Forest) → Tells (deeper g) (put g) (next at g)) → (site : CallSite) (o : Option (ℕ × Forest))
        → Gives deeper put site.whole (spec.fitted (suc n) o) (fitted next outer site (option_map (λ g. g.1) o))
    fit_gives n next tells site None = stays_gives CannotExpand site
    fit_gives n next tells site (Some g) =
        let t = tells (Some (unwrap_or outer site.at)) g.1 in
        record { finds = t.finds; faults = t.faults; forest = t.forest; puts = t.puts; events = t.events }

  level_gives : (depth : ℕ) (deeper : Forest → List (Step D)) (put : Substitution D) (further : Deeper D) (outer : Option Span) (d : D) (site : CallSite) → Below depth deeper put further
      → Gives deeper put site.whole (spec.fitted depth (by.fit d site.argument)) (at_level world d further outer site)
  level_gives depth deeper put further outer d site (nothing_below _ _) = stays_gives depth deeper put further outer RecursionLimit site
  level_gives depth deeper put further outer d site (level_below n _ _ next tells) =
      bursting_gives depth deeper put further outer (world.bursts d site.argument) site.whole (spec.fitted (suc n) (by.fit d site.argument)) (fitted next outer site (world.fit d site.argument))
      (subst (λ o. Gives deeper put site.whole (spec.fitted (suc n) (by.fit d site.argument)) (fitted next outer site o)) (sym (does.fit d site.argument))
      (fit_gives depth deeper put further outer n next tells site (by.fit d site.argument)))

  module _ (depth : ℕ) (deeper : Forest → List (Step D)) (put : Substitution D) (further : Deeper D) (outer : Option Span) where
    known_gives : (d : D) (site : CallSite) → Below depth deeper put further → Gives deeper put site.whole (given_at by d depth site.argument) (unbroken world d (world.broken d) further outer site)
    known_gives d site below = subst (λ b. Gives deeper put site.whole (given_at by d depth site.argument) (unbroken world d b further outer site)) (sym (does.broken d)) (go (by.broken d))
      where
        go : (b : Bool) → Gives deeper put site.whole (if b then Err BrokenDefinition else spec.fitted depth (by.fit d site.argument)) (unbroken world d b further outer site)
        go true = stays_gives depth deeper put further outer BrokenDefinition site
        go false = level_gives depth deeper put further outer d site below

    module _ (level : ℕ) (below : Below depth deeper put further) where
      -- a call by what its name finds
      call_tells : (name : Span) (key : List ℕ) (site : CallSite) (kept : List (Step D)) (put_kept : List (Step D) → Substituted D) (ok : Outcome D) → Tells kept put_kept ok → (o : Option D)
          → Tells (call_steps by scope level depth deeper name key site.whole site.argument kept o) (substitute_call put site.whole put_kept) (found key o (looked_up world o further outer site ok))
      call_tells name key site kept put_kept ok t None = record {
        finds = ap (λ xs. (key, None) ∷ xs) t.finds;
        faults = t.faults;
        forest = t.forest;
        puts = t.puts;
        events = t.events;
      }
      call_tells name key site kept put_kept ok t (Some d) =
          let g = known_gives d site below in
          record {
            finds = ap (λ xs. (key, Some d) ∷ xs) g.finds;
            faults = g.faults;
            forest = g.forest;
            puts = g.puts;
            events = g.events;
          }

      -- a call, and what comes behind it
      open_tells : (path : Path) (name : Ident) (bang : Punct) (d : Delimiter) (a rest : Marked) (o : Option D)
          → Tells (marked_steps by scope level depth deeper None a) (substitute_marked put a) (search_calls world scope further outer a)
          → Tells (marked_steps by scope level depth deeper None rest) (substitute_marked put rest) (search_calls world scope further outer rest)
          → Tells
          (call_steps by scope level depth deeper name.span (key_of path name) (whole_call path name bang d (unmarked a)) (unmarked a) (marked_steps by scope level depth deeper None a) o
          ++ marked_steps by scope level depth deeper None rest)
          (λ ss. let here : Substituted D = substitute_call put (whole_call path name bang d (unmarked a)) (λ more. map_trees (whole_call path name bang d) (substitute_marked put a more)) ss in
          map_trees (joined here.0) (substitute_marked put rest here.1))
          (followed_by
          (found (key_of path name) o
          (looked_up world o further outer (record { at = name.span; whole = whole_call path name bang d (unmarked a); argument = unmarked a })
          (followed_by (just outer (walk (before_group path name bang))) (grouped outer d (search_calls world scope further outer a)))))
          (search_calls world scope further outer rest))
      open_tells path name bang d a rest o t u =
          tells_joined _ _ (substitute_call put (whole_call path name bang d (unmarked a)) (λ more. map_trees (whole_call path name bang d) (substitute_marked put a more))) (substitute_marked put rest) _ _
          (call_tells name.span (key_of path name) (record { at = name.span; whole = whole_call path name bang d (unmarked a); argument = unmarked a }) _
          (λ more. map_trees (whole_call path name bang d) (substitute_marked put a more)) _
          (tells_kept outer path name bang d _ (substitute_marked put a) _ t) o) u

      marked_tells : (m : Marked) → Tells (marked_steps by scope level depth deeper None m) (substitute_marked put m) (search_calls world scope further outer m)
      marked_tells none = tells_nothing outer (substitute_marked put none) (λ more. refl)
      marked_tells (token l rest) = tells_token outer l _ (substitute_marked put rest) _ (marked_tells rest)
      marked_tells (inside d a rest) = tells_group outer d _ _ (substitute_marked put a) (substitute_marked put rest) _ _ (marked_tells a) (marked_tells rest)
      marked_tells (call (other p q) name bang d a rest) =
          tells_joined _ _ (λ ss. map_trees (whole_call (other p q) name bang d) (substitute_marked put a ss)) (substitute_marked put rest) _ _
          (tells_kept outer (other p q) name bang d _ (substitute_marked put a) _ (marked_tells a)) (marked_tells rest)
      marked_tells (call bare name bang d a rest) = open_tells bare name bang d a rest (scope (key_of bare name)) (marked_tells a) (marked_tells rest)
      marked_tells (call (from_crate root p q) name bang d a rest) =
          open_tells (from_crate root p q) name bang d a rest (scope (key_of (from_crate root p q) name)) (marked_tells a) (marked_tells rest)

  -- with so many levels left
  pub steps_tell : (n level : ℕ) (outer : Option Span) (f : Forest) → Tells (steps_of by scope n level None f) (substitute_steps n f) (expansion world scope n outer f)
  steps_tell zero level outer f = marked_tells 0 (λ g. []) (λ g more. (g, more)) None outer level (nothing_below (λ g. []) (λ g more. (g, more))) (marked f)
  steps_tell (suc n) level outer f =
      marked_tells (suc n) (steps_of by scope n (level + 1) None) (substitute_steps n) (Some (expansion world scope n)) outer level
      (level_below n (steps_of by scope n (level + 1) None) (substitute_steps n) (expansion world scope n) (steps_tell n (level + 1))) (marked f)
