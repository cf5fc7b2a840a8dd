-- Trees without calls and definition keywords stay as they are.
use Rattle.std.proofs.Common.{◌≡◌, ℕ, zero, suc, subst, List, [], ◌∷◌, refl, sym, ap, ◌∙◌, Bool, true, false}
use Rattle.std.specs.Prelude.{Option, Some, None, not, ◌&&◌, All}
use Rattle.std.proofs.lemmas.List.Elements.{All-nil}
use Rattle.std.specs.List.{list_all}
use Rattle.tt_data.specs.Forest.{Forest}
use Rattle.tt_data.specs.Walk.{Step, walk}
use Rattle.tt_data.specs.declared.span.Span.{Span}
use Rattle.bridge.specs.TokenEvents.{step_of}
use Rattle.bridge.specs.declared.printing.event.TokenEvent.{TokenEvent}
use Rattle.expander_model.specs.CallSteps.{call_at, call_behind_colons}
use Rattle.expander_model.specs.Calls.{marked}
use Rattle.expander_model.specs.Expansion.{World, Outcome, Deeper, PlacedStep, expansion, just, followed_by, search_calls, placed}
use Rattle.expander_model.specs.Faults.{is_definition_word}
use Rattle.expander_model.specs.Held.{Numbered, unnumbered}
use Rattle.expander_model.specs.Scoping.{Around, Scoped, only, without_locals}
use Rattle.expander_model.specs.Limits.{outermost}
use Rattle.expander_model.specs.declared.dialect.Dialect.{Dialect}
use Rattle.expander_model.specs.declared.scope_rules.ScopeRules.TheVariants.{Rust}
use Rattle.expander_model.specs.declared.scope_rules.Standing.TheVariants.{Top}
use Rattle.expander_model.specs.WalkSteps.{groups_of, GoesOn}
use Rattle.expander_model.specs.declared.tree_walk.TreeWalk.{TreeWalk}
use Rattle.textual_scope.specs.Keywords.{HasNoKeyword}
use Rattle.textual_scope.proofs.BoundedLemmas.{agree_outermost}
use Rattle.textual_scope.proofs.RuleLemmas.{unfound_outermost}
use Rattle.expander_scope.proofs.OutcomeLemmas.{followed_nil, left, step_left, nothing_left, walk_search}
use Rattle.expander_scope.proofs.TurnLemmas.{is_search, leaf_search}

-- ---- without calls

-- where what a walk has left has no call, neither have the trees
abbrev pub QuietSoFar : Forest → TreeWalk → Type 0
QuietSoFar trees w =
    (world : World Numbered) (scope : List ℕ → Option Numbered) (deeper : Deeper Numbered) (outer : Option Span)
    → left outer (λ f. search_calls world scope deeper outer (marked f)) w.here (groups_of w) ≡ left outer (λ f. just outer (walk f)) w.here (groups_of w)
    → search_calls world scope deeper outer (marked trees) ≡ just outer (walk trees)

pub quiet_first : (trees : Forest) (w : TreeWalk) → w.here ≡ trees → groups_of w ≡ [] → QuietSoFar trees w
quiet_first trees w here groups world scope deeper outer same =
    let search : Forest → Outcome Numbered = λ f. search_calls world scope deeper outer (marked f) in
    sym (followed_nil outer (search trees))
    ∙ ap (λ f. left outer search f []) (sym here) ∙ ap (left outer search w.here) (sym groups)
    ∙ same
    ∙ ap (left outer (λ f. just outer (walk f)) w.here) groups ∙ ap (λ f. left outer (λ g. just outer (walk g)) f []) here
    ∙ followed_nil outer (just outer (walk trees))

pub quiet_more : (trees : Forest) (before after : TreeWalk) (s : TokenEvent) → QuietSoFar trees before → call_at before.here ≡ None → call_behind_colons before.here ≡ None
    → GoesOn before (Some s) after → QuietSoFar trees after
quiet_more trees before after s quiet no_call no_colons goes world scope deeper outer same =
    let search : Forest → Outcome Numbered = λ f. search_calls world scope deeper outer (marked f) in
    quiet world scope deeper outer (
    step_left outer search (is_search world scope deeper outer) before after s goes
    (λ l is. leaf_search world scope deeper outer before.here after.here l no_call no_colons is)
    ∙ ap (followed_by (just outer (step_of s ∷ []))) same
    ∙ sym (step_left outer (λ f. just outer (walk f)) (walk_search outer) before after s goes (λ l first. ap (λ f. just outer (walk f)) first)))

pub quiet_done : (trees : Forest) (before after : TreeWalk) → QuietSoFar trees before → GoesOn before None after
    → (world : World Numbered) (scope : List ℕ → Option Numbered) (deeper : Deeper Numbered) (outer : Option Span) → search_calls world scope deeper outer (marked trees) ≡ just outer (walk trees)
quiet_done trees before after quiet ends world scope deeper outer =
    quiet world scope deeper outer (
    nothing_left outer (λ f. search_calls world scope deeper outer (marked f)) (is_search world scope deeper outer) before after ends
    ∙ sym (nothing_left outer (λ f. just outer (walk f)) (walk_search outer) before after ends))

-- ---- without definition keywords

abbrev pub no_word : PlacedStep → Bool
no_word s = not (is_definition_word s.step)

-- where what a walk has left has no definition keyword, neither have the trees
abbrev pub WordlessSoFar : Forest → TreeWalk → Type 0
WordlessSoFar trees w =
    list_all no_word (left {D = Numbered} None (λ f. just None (walk f)) w.here (groups_of w)).steps ≡ true → HasNoKeyword trees

placed_words : (steps : List Step) → list_all no_word (placed None steps) ≡ list_all (λ s. not (is_definition_word s)) steps
placed_words [] = refl
placed_words (s ∷ steps) = ap (λ b. not (is_definition_word s) && b) (placed_words steps)

pub wordless_first : (trees : Forest) (w : TreeWalk) → w.here ≡ trees → groups_of w ≡ [] → WordlessSoFar trees w
wordless_first trees w here groups all =
    let walked : Forest → Outcome Numbered = λ f. just None (walk f) in
    sym (placed_words (walk trees))
    ∙ ap (λ (o : Outcome Numbered). list_all no_word o.steps)
    (sym (ap (left None walked w.here) groups ∙ ap (λ f. left None walked f []) here ∙ followed_nil None (walked trees)))
    ∙ all

pub wordless_more : (trees : Forest) (before after : TreeWalk) (s : TokenEvent) → WordlessSoFar trees before → is_definition_word (step_of s) ≡ false
    → GoesOn before (Some s) after → WordlessSoFar trees after
wordless_more trees before after s wordless none goes all =
    wordless (
    ap (λ (o : Outcome Numbered). list_all no_word o.steps)
    (step_left None (λ f. just None (walk f)) (walk_search None) before after s goes (λ l first. ap (λ f. just None (walk f)) first))
    ∙ ap (λ b. not b && list_all no_word (left {D = Numbered} None (λ f. just None (walk f)) after.here (groups_of after)).steps) none ∙ all)

pub wordless_done : (trees : Forest) (before after : TreeWalk) → WordlessSoFar trees before → GoesOn before None after → HasNoKeyword trees
wordless_done trees before after wordless ends =
    wordless (ap (λ (o : Outcome Numbered). list_all no_word o.steps) (nothing_left {D = Numbered} None (λ f. just None (walk f)) (walk_search None) before after ends))

-- ---- a whole tree

module _ (dialect : Dialect) (world : World Numbered) (depth : ℕ) (f : Forest) where
  abbrev nothing : List ℕ → Option Numbered
  nothing key = None

  -- where nothing is found, a tree without calls is expanded to itself
  in_nothing : ((deeper : Deeper Numbered) → search_calls world nothing deeper None (marked f) ≡ just None (walk f)) → (n : ℕ) → expansion world nothing n None f ≡ just None (walk f)
  in_nothing quiet zero = quiet None
  in_nothing quiet (suc n) = quiet (Some (expansion world nothing n))

  -- so is it in every scope, if where lists have definitions it has no keyword of one
  pub quiet_scoped : (scope : List ℕ → Option Numbered) → dialect.cfg ≡ None → (dialect.scope ≡ Rust → HasNoKeyword f)
      → ((world : World Numbered) (scope : List ℕ → Option Numbered) (deeper : Deeper Numbered) (outer : Option Span) → search_calls world scope deeper outer (marked f) ≡ just outer (walk f))
      → outermost dialect world unnumbered scope dialect.limits depth (without_locals Top None) f ≡ only (just None (walk f))
  quiet_scoped scope whole wordless quiet =
      let around : Around = without_locals Top None in
      let is : outermost dialect world unnumbered nothing dialect.limits depth around f ≡ only (just None (walk f)) =
      unfound_outermost world unnumbered dialect.limits depth f dialect whole wordless ∙ ap only (in_nothing (λ deeper. quiet world nothing deeper None) depth) in
      agree_outermost dialect world unnumbered dialect.limits nothing scope depth around f
      (subst (λ (a : Scoped Numbered). All (λ find. scope find.0 ≡ find.1) a.outcome.finds) (sym is) (All-nil (λ find. scope find.0 ≡ find.1)))
      ∙ is
