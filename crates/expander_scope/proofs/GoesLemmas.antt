-- How a search of lists goes on, event by event and turn by turn.
use Rattle.std.proofs.Common.{◌≡◌, ℕ, suc, ◌<◌, ◌+◌, ◌*◌, List, [], ◌∷◌, ◌++◌, refl, sym, ap, subst, ◌∙◌, append_assoc, append-nil, arith, Bool, true, false, if◌then◌else◌}
use Rattle.std.specs.Prelude.{map, length, reverse, Option, Some, None, Ok, Err, OnOk, Result, is_some, option_map, unwrap_or}
use Rattle.std.proofs.lemmas.List.{reverse-append}
use Rattle.tt_data.specs.Forest.{Forest, empty, leaf, group, joined, size}
use Rattle.tt_data.proofs.ForestLemmas.{size-joined}
use Rattle.tt_data.specs.Walk.{at_leaf, closes, opens, walk}
use Rattle.tt_data.specs.declared.delimiter.Delimiter.{Delimiter}
use Rattle.tt_data.specs.declared.delimiter.DelimiterKind.{DelimiterKind}
use Rattle.tt_data.specs.declared.edition.Edition.{Edition}
use Rattle.tt_data.specs.declared.leaf.Leaf.{Leaf}
use Rattle.tt_data.specs.declared.span.Span.{Span}
use Rattle.bridge.specs.Text.{is_visible}
use Rattle.expander_model.specs.CallSteps.{bare_call, call_at, call_behind_colons, crate_call}
use Rattle.expander_model.specs.Definitions.{Definition, definition_of}
use Rattle.expander_model.specs.Expansion.{World, Outcome, CallSite, PlacedStep, before_group, bursting, faulted, just, followed_by, stays}
use Rattle.expander_model.specs.Held.{Numbered, unnumbered}
use Rattle.expander_model.specs.PieceStates.{after_leaf, after_group, after_name, is_dropped}
use Rattle.expander_model.specs.Scoping.{Around as Surroundings, Scoped, out_piece, definition_piece, kind_of, kind_in, and_next, defined, definition_in, in_brackets, in_group, is_excused, is_left_out, only, stays_in, unless_excused}
use Rattle.expander_model.specs.cfg_options.declared.options.CfgOptions.{CfgOptions}
use Rattle.expander_model.specs.declared.dialect.Dialect.{Dialect}
use Rattle.expander_model.specs.Pieces.{cut}
use Rattle.expander_model.specs.WalkSteps.{Enters, GoesOn, groups_of}
use Rattle.expander_model.specs.declared.tree_walk.TreeWalk.{TreeWalk}
use Rattle.bridge.specs.TokenEvents.{step_of}
use Rattle.bridge.specs.declared.printing.event.TokenEvent.TheVariants as as_step
use Rattle.tt_data.specs.Lent.{leaf_lent}
use Rattle.tt_data.specs.declared.leaf.lent.LeafRef.{LeafRef}
use Rattle.expander_model.specs.declared.begun.Begun.{Begun}
use Rattle.expander_model.specs.declared.call.Call.{Call}
use Rattle.expander_model.specs.declared.fault.FaultKind.{FaultKind}
use Rattle.expander_model.specs.declared.fault.FaultKind.TheVariants.{BrokenDefinition, TooLarge}
use Rattle.expander_scope.specs.Outcomes.{find_of}
use Rattle.expander_scope.specs.Sinks.{TakesMore}
use Rattle.expander_model.specs.declared.begun.Begun.TheVariants.{Nothing}
use Rattle.expander_model.specs.declared.scope_rules.ScopeRules.{ScopeRules}
use Rattle.expander_model.specs.declared.scope_rules.ScopeRules.TheVariants.{TopLevel, Rust}
use Rattle.expander_model.specs.declared.scope_rules.Standing.{Standing}
use Rattle.expander_model.specs.declared.scope_rules.Standing.TheVariants.{Argument}
use Rattle.expander_model.specs.declared.tree_walk.Around.{Around}
use Rattle.expander_model.specs.Limits.{Noted, Notes, calls_of, looked_in, note_of, noted_world, passed_at_once, sized}
use Rattle.expander_model.specs.declared.limits.Limits.{Limits}
use Rattle.expander_scope.specs.Expanding.{Adds, Levels, among_notes, answer, deeper_at, levels_in, makes_too_many, noted_local, noted_scope, searched, stays_for, told_once, trial}
use Rattle.expander_scope.specs.Spending.{BurstsFirst, BurstsIn, Searched, Spends, Stops, TakesBack, left_behind, notes_with, passing}
use Rattle.expander_scope.specs.ListsLeft.{IsAhead, IsOutAhead, Left, Open, Place, all_left, groups_left, in_list, let_out, list_left, then_left}
use Rattle.expander_scope.specs.Leaving.{Leaves}
use Rattle.expander_scope.specs.LocalTables.{AreReadIn, locals_of}
use Rattle.expander_scope.specs.Turns.{AreNested, BeginsWithGroup, Goes, GoesBehind, IsAfter, IsAt, IsNoCall, IsPassable, IsPlainAhead, begun_behind, is_alone_at, lookups_of, resolved, around_of, level_of, left_ahead, argument_left, kept_left, steps_in, turns_left}
use Rattle.expander_scope.specs.declared.expand.search.Search.{Search}
use Rattle.expander_scope.specs.declared.list_walk.Level.{Level}
use Rattle.expander_scope.specs.declared.list_walk.ListWalk.{ListWalk}
use Rattle.expander_scope.specs.declared.locals.Locals.{Locals}
use Rattle.expander_scope.proofs.CallLemmas.{no_call}
use Rattle.expander_scope.proofs.CallResultLemmas.{IsTried, behind_here, tried_note, tried_ok, tried_over, lookups_among, no_lookups, takes, colons_left, adds_just, adds_looks, adds_more, adds_notes, answer_bursts, answer_first, behind_call, comes_left, finds_left, given_of, large_here, large_left, looked_among, looks, made_of, outcome_here, result_bursts, result_finds, site_of, stands_alone, stays_here, stays_left, unknown_left}
use Rattle.expander_scope.proofs.ListLemmas.{entered_in, here_in, left_at_beginning, left_at_end, left_group, left_leaf, opened, passed_in, then_assoc}
use Rattle.expander_scope.proofs.OutcomeLemmas.{or_later}
use Rattle.expander_scope.proofs.ReplaceLemmas.{stops_at_once}
use Rattle.expander_scope.proofs.SinkLemmas.{takes_none, takes_both}
use Rattle.expander_scope.proofs.SpendingLemmas.{Charged, IsApart, behind_notes, bursts_before, bursts_more, bursts_none, bursts_note, limited_by, passed_here, passing_before, passing_more, passing_note, spends_looks, spends_more, spends_note, spends_nothing, spends_same}
use Rattle.expander_scope.proofs.TurnLemmas.{IsCall, call_is_call, colons_is_call, neither, rest_smaller}
use Rattle.textual_scope.proofs.LeftLemmas.{at_definition, at_out}
use Rattle.textual_scope.proofs.ResultLemmas.{followed_by_nothing, nothing_and}

pub entered : (b : Bool) → (b ≡ false → ⊥) → b ≡ true
entered true never = refl
entered false never = absurd (never refl)

pub never_at_end : (f : Forest) → BeginsWithGroup f → f ≡ empty → ⊥
never_at_end f begins is = let both : empty ≡ group begins.0 begins.1 begins.2 = sym is ∙ begins.3 in cc both

pub kept_less : (w : ListWalk) (before from_group here : Forest) → w.trees.here ≡ joined before from_group → here ≡ from_group
    → 2 * size here + steps_in (groups_of w.trees) < suc (turns_left w)
kept_less w before from_group here is there = omega (arith, ap size is, ap size there, size-joined before from_group)

-- what is around more is around what was
after_more : (front back locals : List Definition) → IsAfter back locals → IsAfter back (front ++ locals)
after_more front back locals h = (front ++ h.0, ap (λ ls. front ++ ls) h.1 ∙ sym (append_assoc front h.0 back))

nested_more : (outside front locals : List Definition) (gs : List Open) → AreNested outside locals gs → AreNested outside (front ++ locals) gs
nested_more outside front locals [] h = after_more front outside locals h
nested_more outside front locals (g ∷ gs) h = (after_more front g.locals locals h.0, h.1)

nested_out : (outside : List Definition) (k : DelimiterKind) (locals : List Definition) (g : Open) (gs : List Open) → AreNested outside locals (g ∷ gs) → AreNested outside (let_out k g.locals locals) gs
nested_out outside k locals g gs h = go (is_visible k)
  where
    go : (v : Bool) → AreNested outside (if v then g.locals else locals) gs
    go true = h.1
    go false = subst (λ ls. AreNested outside ls gs) (sym h.0.1) (nested_more outside h.0.0 g.locals gs h.1)

-- those around all groups are around
all_after : (outside locals : List Definition) (gs : List Open) → AreNested outside locals gs → IsAfter outside locals
all_after outside locals [] h = h
all_after outside locals (g ∷ gs) h =
    let more : IsAfter outside g.locals = all_after outside g.locals gs h.1 in
    subst (IsAfter outside) (sym h.0.1) (after_more h.0.0 outside g.locals more)

module _ (dialect : Dialect) (world : World Numbered) (scope : List ℕ → Option Numbered) (levels : Levels) (outer : Option Span) where
  abbrev whole_left : Place → Left
  whole_left p = all_left dialect world scope levels outer p

  -- the place behind a leaf
  abbrev behind_leaf : Place → Leaf → Forest → Place
  behind_leaf p l rest = record p { here = rest; begun = after_leaf p.begun l }

  -- what it prints
  abbrev leaf_of : Place → Leaf → Outcome (Noted Numbered)
  leaf_of p l = just outer (if is_dropped p.begun l then [] else at_leaf l ∷ [])

  leaf_left : (p : Place) (l : Leaf) (rest : Forest) → IsPlainAhead dialect p → IsNoCall p → p.here ≡ leaf l rest
      → whole_left p ≡ then_left (leaf_of p l) (whole_left (behind_leaf p l rest))
  leaf_left p l rest plain none is =
      let both = neither (crate_call (leaf l rest)) (bare_call (leaf l rest)) (ap call_at (sym is) ∙ none.0) in
      let at : Surroundings = here_in dialect world scope levels outer p.standing p.locals in
      passed_in dialect world scope levels outer p.begun (after_leaf p.begun l) p.standing p.locals p.here rest (only (leaf_of p l)) (groups_left dialect world scope levels outer p.groups)
      (ap (list_left dialect world scope levels p.begun at) is
      ∙ left_leaf dialect world scope levels p.begun at l rest ((λ v. subst (λ f. IsOutAhead dialect.cfg p.standing f None) is (plain.0 v)), (λ u v. subst (λ f. IsAhead f None) is (plain.1 u v)))
      (no_call l rest both.0 both.1 (ap call_behind_colons (sym is) ∙ none.1)))

  -- the place in a group
  abbrev in_it : Place → Standing → Delimiter → Forest → Forest → Place
  in_it p inside d inner rest = record {
    here = inner;
    begun = Nothing;
    standing = inside;
    locals = p.locals;
    groups = opened dialect world scope levels outer d rest (after_group p.begun d.kind) p.standing p.locals ∷ p.groups;
    outside = p.outside;
  }

  group_left : (p : Place) (d : Delimiter) (inner rest : Forest) → IsPlainAhead dialect p → p.here ≡ group d inner rest
      → whole_left p ≡ then_left (just outer (opens d.kind d.open_span ∷ [])) (whole_left (in_it p (in_group p.begun d.kind p.standing) d inner rest))
  group_left p d inner rest plain is =
      let at : Surroundings = here_in dialect world scope levels outer p.standing p.locals in
      let inside : Standing = in_group p.begun d.kind p.standing in
      let a : Scoped (Noted Numbered) = in_brackets outer d (searched dialect world scope levels (here_in dialect world scope levels outer inside p.locals) inner) in
      passed_in dialect world scope levels outer p.begun (after_group p.begun d.kind) p.standing p.locals p.here rest a (groups_left dialect world scope levels outer p.groups)
      (ap (list_left dialect world scope levels p.begun at) is
      ∙ left_group dialect world scope levels p.begun at d inner rest ((λ v. subst (λ f. IsOutAhead dialect.cfg p.standing f None) is (plain.0 v)), (λ u v. subst (λ f. IsAhead f None) is (plain.1 u v))))
      ∙ entered_in dialect world scope levels outer (after_group p.begun d.kind) p.standing inside p.locals d inner rest p.groups

  argument_is : (p : Place) (d : Delimiter) (inner rest : Forest)
      → argument_left dialect world scope levels outer p (group d inner rest) ≡ then_left (just outer (opens d.kind d.open_span ∷ [])) (whole_left (in_it p Argument d inner rest))
  argument_is p d inner rest = entered_in dialect world scope levels outer (after_group p.begun d.kind) p.standing Argument p.locals d inner rest p.groups

  -- the place behind the innermost group
  abbrev out_of_it : Place → Open → List Open → Place
  out_of_it p g gs = record { here = g.behind; begun = g.begun; standing = g.standing; locals = let_out g.kind g.locals p.locals; groups = gs; outside = p.outside }

  end_left : (p : Place) (g : Open) (gs : List Open) → p.here ≡ empty → p.groups ≡ g ∷ gs
      → whole_left p ≡ then_left (just outer (closes g.kind g.close_span ∷ [])) (whole_left (out_of_it p g gs))
  end_left p g gs at_end groups =
      ap (λ f. in_list dialect world scope levels outer p.begun p.standing p.locals f (groups_left dialect world scope levels outer p.groups)) at_end
      ∙ left_at_end dialect world scope levels outer p.begun p.standing p.locals p.groups
      ∙ ap (λ l. groups_left dialect world scope levels outer l p.locals) groups

  nothing_left : (p : Place) → p.here ≡ empty → p.groups ≡ [] → whole_left p ≡ (just outer [], p.locals)
  nothing_left p at_end groups =
      ap (λ f. in_list dialect world scope levels outer p.begun p.standing p.locals f (groups_left dialect world scope levels outer p.groups)) at_end
      ∙ left_at_end dialect world scope levels outer p.begun p.standing p.locals p.groups
      ∙ ap (λ l. groups_left dialect world scope levels outer l p.locals) groups

  module _ (edition : Edition) {S : Type 0} (Has : S → List PlacedStep → Type 0) (old new : Search S) (before after : ListWalk) (p : Place) (at : IsAt before old.locals p) where
    -- a leaf was passed
    pub goes_leaf : (l : Leaf) → IsPlainAhead dialect p → IsNoCall p → p.here ≡ leaf l after.trees.here → groups_of after.trees ≡ groups_of before.trees
        → after.begun ≡ after_leaf before.begun l → after.standing ≡ before.standing → after.levels ≡ before.levels → new.locals ≡ old.locals
        → new.left ≡ old.left → Adds Has old.out new.out (just outer (if is_dropped before.begun l then [] else at_leaf l ∷ [])) → Goes dialect world scope levels outer p.outside edition Has (whole_left p) old new before after
    goes_leaf l plain none is groups begun standing stack locals left adds = record {
      next = behind_leaf p l after.trees.here;
      at = record {
        here = refl;
        begun = begun ∙ ap (λ s. after_leaf s l) at.begun;
        standing = standing ∙ at.standing;
        locals = ap locals_of locals ∙ at.locals;
        groups = groups ∙ at.groups;
        levels = ap (λ (v : _). reverse v.items) stack ∙ at.levels;
        nested = at.nested;
      };
      outcome = leaf_of p l;
      is = leaf_left p l after.trees.here plain none is;
      adds = subst (λ s. Adds Has old.out new.out (just outer (if is_dropped s l then [] else at_leaf l ∷ []))) at.begun adds;
      spends = spends_same old.left new.left left;
      read = subst (AreReadIn edition) (sym locals);
      outside_is = refl;
      less = omega (arith, ap size (at.here ∙ is), ap steps_in groups);
    }

    -- a group was entered
    pub goes_in : (from : Left) (inside : Standing) (d : Delimiter) (rest : Forest) → p.here ≡ group d after.trees.here rest
        → from ≡ then_left (just outer (opens d.kind d.open_span ∷ [])) (whole_left (in_it p inside d after.trees.here rest))
        → groups_of after.trees ≡ record { kind = d.kind; close_span = d.close_span; behind = rest } ∷ groups_of before.trees
        → after.levels.items ≡ before.levels.items ++ record { begun = after_group before.begun d.kind; standing = before.standing; locals = length (locals_of old.locals) } ∷ []
        → after.begun ≡ Nothing → after.standing ≡ inside → new.locals ≡ old.locals → new.left ≡ old.left
        → Adds Has old.out new.out (just outer (opens d.kind d.open_span ∷ [])) → Goes dialect world scope levels outer p.outside edition Has from old new before after
    goes_in from inside d rest is from_is groups stack begun standing locals left adds = record {
      next = in_it p inside d after.trees.here rest;
      at = record {
        here = refl;
        begun = begun;
        standing = standing;
        locals = ap locals_of locals ∙ at.locals;
        groups = groups ∙ ap (λ gs. record { kind = d.kind; close_span = d.close_span; behind = rest } ∷ gs) at.groups;
        levels = ap reverse stack ∙ reverse-append before.levels.items _
            ∙ (λ i. record { begun = after_group (at.begun i) d.kind; standing = at.standing i; locals = length (at.locals i) } ∷ at.levels i);
        nested = (([], refl), at.nested);
      };
      outcome = just outer (opens d.kind d.open_span ∷ []);
      is = from_is;
      adds = adds;
      spends = spends_same old.left new.left left;
      read = subst (AreReadIn edition) (sym locals);
      outside_is = refl;
      less = omega (arith, ap size (at.here ∙ is), ap steps_in groups);
    }

    -- the innermost group was left
    pub goes_out : (g : Open) (gs : List Open) → p.here ≡ empty → p.groups ≡ g ∷ gs → after.trees.here ≡ g.behind → groups_of after.trees ≡ map around_of gs
        → reverse after.levels.items ≡ map level_of gs → after.begun ≡ g.begun → after.standing ≡ g.standing
        → locals_of new.locals ≡ let_out g.kind g.locals p.locals → (AreReadIn edition old.locals → AreReadIn edition new.locals) → new.left ≡ old.left
        → Adds Has old.out new.out (just outer (closes g.kind g.close_span ∷ [])) → Goes dialect world scope levels outer p.outside edition Has (whole_left p) old new before after
    goes_out g gs at_end is here groups stack begun standing locals read left adds = record {
      next = out_of_it p g gs;
      at = record {
        here = here;
        begun = begun;
        standing = standing;
        locals = locals;
        groups = groups;
        levels = stack;
        nested = nested_out p.outside g.kind p.locals g gs (subst (AreNested p.outside p.locals) is at.nested);
      };
      outcome = just outer (closes g.kind g.close_span ∷ []);
      is = end_left p g gs at_end is;
      adds = adds;
      spends = spends_same old.left new.left left;
      read = read;
      outside_is = refl;
      less = omega (arith, ap size (at.here ∙ at_end), ap size here, ap steps_in groups, ap steps_in (at.groups ∙ ap (map around_of) is));
    }

    -- a piece that is left out was passed
    pub goes_past : (rest : Forest) → p.begun ≡ Nothing → IsOutAhead dialect.cfg p.standing p.here (Some rest)
        → after.trees.here ≡ rest → groups_of after.trees ≡ groups_of before.trees → after.begun ≡ before.begun → after.standing ≡ before.standing
        → after.levels ≡ before.levels → new ≡ old → Goes dialect world scope levels outer p.outside edition Has (whole_left p) old new before after
    goes_past rest nothing out here groups begun standing stack same = record {
      next = record p { here = rest };
      at = record {
        here = here;
        begun = begun ∙ at.begun;
        standing = standing ∙ at.standing;
        locals = ap (λ (s : Search S). locals_of s.locals) same ∙ at.locals;
        groups = groups ∙ at.groups;
        levels = ap (λ (v : _). reverse v.items) stack ∙ at.levels;
        nested = at.nested;
      };
      outcome = just outer [];
      is = out_left;
      adds = subst (λ (s : Search S). Adds Has old.out s.out (just outer [])) (sym same) (adds_just Has old.out old.out outer [] (takes_none Has old.out.output) refl refl);
      spends = spends_same old.left new.left (ap (λ (s : Search S). s.left) same);
      read = subst (λ (s : Search S). AreReadIn edition old.locals → AreReadIn edition s.locals) (sym same) (λ r. r);
      outside_is = refl;
      less = omega (arith, ap size at.here, ap size here, ap steps_in groups, out.1.1.1);
    }
      where
        surroundings : Surroundings
        surroundings = here_in dialect world scope levels outer p.standing p.locals

        nothing_of : Scoped (Noted Numbered)
        nothing_of = only (just outer [])

        kind_is : kind_in dialect p.standing out.0 ≡ out_piece
        kind_is = ap (λ b. if b then out_piece else kind_of (definition_in dialect.scope out.0)) out.1.1.0

        list_is : (s : Begun) → s ≡ Nothing
            → list_left dialect world scope levels s surroundings p.here ≡ and_next nothing_of (λ here. list_left dialect world scope levels s here rest) surroundings
        list_is Nothing v =
            at_out dialect (noted_world world) noted_local (noted_scope scope) (searched dialect world scope levels) (deeper_at dialect world scope levels) surroundings p.here out.0 rest out.1.0 kind_is
            ∙ sym (nothing_and outer (λ here. list_left dialect world scope levels Nothing here rest) surroundings)
        list_is s v = absurd (cc v)

        out_left : whole_left p ≡ then_left (just outer []) (whole_left (record p { here = rest }))
        out_left =
            passed_in dialect world scope levels outer p.begun p.begun p.standing p.locals p.here rest nothing_of (groups_left dialect world scope levels outer p.groups) (list_is p.begun nothing)

    -- a definition was passed
    pub goes_on_behind : (d : Definition) (piece rest : Forest) → IsOutAhead dialect.cfg p.standing p.here None
        → dialect.scope ≡ Rust → p.begun ≡ Nothing → IsAhead p.here (Some (piece, rest)) → definition_of piece ≡ Some d
        → after.trees.here ≡ rest → groups_of after.trees ≡ groups_of before.trees → after.begun ≡ before.begun → after.standing ≡ before.standing
        → after.levels ≡ before.levels → locals_of new.locals ≡ d ∷ locals_of old.locals → (AreReadIn edition old.locals → AreReadIn edition new.locals) → new.left ≡ old.left
        → Adds Has old.out new.out (defined dialect (noted_world world) noted_local (noted_scope scope) (here_in dialect world scope levels outer p.standing p.locals) d).outcome
        → Goes dialect world scope levels outer p.outside edition Has (whole_left p) old new before after
    goes_on_behind d piece rest inside rust nothing ahead is here groups begun standing stack locals read left adds = record {
      next = record p { here = rest; locals = d ∷ p.locals };
      at = record {
        here = here;
        begun = begun ∙ at.begun;
        standing = standing ∙ at.standing;
        locals = locals ∙ ap (λ ls. d ∷ ls) at.locals;
        groups = groups ∙ at.groups;
        levels = ap (λ (v : _). reverse v.items) stack ∙ at.levels;
        nested = nested_more p.outside (d ∷ []) p.locals p.groups at.nested;
      };
      outcome = (defined dialect (noted_world world) noted_local (noted_scope scope) (here_in dialect world scope levels outer p.standing p.locals) d).outcome;
      is = defined_left;
      adds = adds;
      spends = subst (Spends old.left new.left) (sym (defined_finds (world.broken (unnumbered d)))) (spends_same old.left new.left left);
      read = read;
      outside_is = refl;
      less = omega (arith, ap size at.here, ap size here, ap steps_in groups, ahead.1.1);
    }
      where
        surroundings : Surroundings
        surroundings = here_in dialect world scope levels outer p.standing p.locals

        a : Scoped (Noted Numbered)
        a = defined dialect (noted_world world) noted_local (noted_scope scope) surroundings d

        shown : Outcome (Noted Numbered)
        shown = just outer (if is_left_out p.standing then [] else walk d.piece)

        defined_finds : (b : Bool) → (if b then faulted BrokenDefinition (unwrap_or outer d.name.span) shown else shown).finds ≡ []
        defined_finds true = refl
        defined_finds false = refl

        found_in : (r : ScopeRules) → r ≡ Rust → definition_in r piece ≡ Some d
        found_in Rust u = is
        found_in TopLevel u = absurd (cc u)

        kind_is : kind_in dialect p.standing piece ≡ definition_piece d
        kind_is =
            ap (λ b. if b then out_piece else kind_of (definition_in dialect.scope piece)) (inside piece (cut rest) ahead.0)
            ∙ ap kind_of (found_in dialect.scope rust)

        list_is : (s : Begun) → s ≡ Nothing
            → list_left dialect world scope levels s surroundings p.here ≡ and_next (defined dialect (noted_world world) noted_local (noted_scope scope) surroundings d) (λ here. list_left dialect world scope levels s here rest) surroundings
        list_is Nothing v =
            at_definition dialect (noted_world world) noted_local (noted_scope scope) (searched dialect world scope levels) (deeper_at dialect world scope levels) surroundings p.here piece rest d ahead.0 kind_is
        list_is s v = absurd (cc v)

        defined_left : whole_left p ≡ then_left a.outcome (whole_left (record p { here = rest; locals = d ∷ p.locals }))
        defined_left =
            passed_in dialect world scope levels outer p.begun p.begun p.standing p.locals p.here rest a (groups_left dialect world scope levels outer p.groups) (list_is p.begun nothing)

    -- ---- by the events of a traversal

    no_group : (f : Forest) (l : Leaf) (rest : Forest) → BeginsWithGroup f → f ≡ leaf l rest → ⊥
    no_group f l rest begins is = let both : leaf l rest ≡ group begins.0 begins.1 begins.2 = sym is ∙ begins.3 in cc both

    not_at_end : (f : Forest) → BeginsWithGroup f → f ≡ empty → ⊥
    not_at_end f begins is = let both : empty ≡ group begins.0 begins.1 begins.2 = sym is ∙ begins.3 in cc both

    pub passes_leaf : (b : Bool) → IsPassable dialect b p → (l : LeafRef) → GoesOn before.trees (Some (as_step.Leaf l)) after.trees
        → after.begun ≡ after_leaf before.begun (leaf_lent l) → after.standing ≡ before.standing → after.levels ≡ before.levels → new.locals ≡ old.locals
        → new.left ≡ old.left → Adds Has old.out new.out (just outer (if is_dropped before.begun (leaf_lent l) then [] else step_of (as_step.Leaf l) ∷ []))
        → Goes dialect world scope levels outer p.outside edition Has (left_ahead dialect world scope levels outer b p) old new before after
    passes_leaf true begins l e begun standing stack locals left adds = absurd (no_group p.here (leaf_lent l) after.trees.here begins (sym at.here ∙ e.0))
    passes_leaf false pass l e begun standing stack locals left adds =
        goes_leaf (leaf_lent l) pass.0 pass.1 (sym at.here ∙ e.0) e.1 begun standing stack locals left adds

    entered_from : (b : Bool) → IsPassable dialect b p → (d : Delimiter) (inner rest : Forest) → p.here ≡ group d inner rest
        → left_ahead dialect world scope levels outer b p ≡ then_left (just outer (opens d.kind d.open_span ∷ [])) (whole_left (in_it p (if b then Argument else in_group p.begun d.kind p.standing) d inner rest))
    entered_from true begins d inner rest is = ap (argument_left dialect world scope levels outer p) is ∙ argument_is p d inner rest
    entered_from false pass d inner rest is = group_left p d inner rest pass.0 is

    pub passes_in : (b : Bool) → IsPassable dialect b p → (kind : DelimiterKind) (span : Span) (mid : TreeWalk) → Enters kind span before.trees mid → after.trees ≡ mid → (n : ℕ) → n ≡ length (locals_of old.locals)
        → after.levels.items ≡ before.levels.items ++ record { begun = after_group before.begun kind; standing = before.standing; locals = n } ∷ []
        → after.begun ≡ Nothing → after.standing ≡ (if b then Argument else in_group before.begun kind before.standing) → new.locals ≡ old.locals → new.left ≡ old.left
        → Adds Has old.out new.out (just outer (opens kind span ∷ [])) → Goes dialect world scope levels outer p.outside edition Has (left_ahead dialect world scope levels outer b p) old new before after
    passes_in b pass kind span mid e trees n counted stack begun standing locals left adds =
        let d : Delimiter = e.brackets in
        let here : after.trees.here ≡ mid.here = ap (λ (t : TreeWalk). t.here) trees in
        let is : p.here ≡ group d after.trees.here e.behind = sym at.here ∙ e.first ∙ ap (λ f. group d f e.behind) (sym here) in
        goes_in (left_ahead dialect world scope levels outer b p) (if b then Argument else in_group p.begun d.kind p.standing) d e.behind is
        (entered_from b pass d after.trees.here e.behind is)
        (ap groups_of trees ∙ e.groups ∙ ap (λ k. record { kind = k; close_span = d.close_span; behind = e.behind } ∷ groups_of before.trees) (sym e.kind_is))
        (stack ∙ (λ i. before.levels.items ++ record { begun = after_group before.begun (sym e.kind_is i); standing = before.standing; locals = counted i } ∷ []))
        begun
        (standing ∙ (λ i. if b then Argument else in_group (at.begun i) (sym e.kind_is i) (at.standing i)))
        locals left
        (subst (λ k. Adds Has old.out new.out (just outer (opens k d.open_span ∷ []))) (sym e.kind_is)
        (subst (λ x. Adds Has old.out new.out (just outer (opens kind x ∷ []))) (sym e.span_is) adds))

    split_open : (gs : List Open) (a : Around) (rest : List Around) → map around_of gs ≡ a ∷ rest
        → (g : Open) × (more : List Open) × (gs ≡ g ∷ more) × (around_of g ≡ a) × (map around_of more ≡ rest)
    split_open [] a rest is = absurd (cc is)
    split_open (g ∷ more) a rest is =
        (g, more, refl, (let one : around_of g ≡ a = cc is in one), (let others : map around_of more ≡ rest = cc is in others))

    pub passes_out : (b : Bool) → IsPassable dialect b p → (kind : DelimiterKind) (span : Span) (mid : TreeWalk) → before.trees.here ≡ empty
        → groups_of before.trees ≡ record { kind = kind; close_span = span; behind = mid.here } ∷ groups_of mid → after.trees ≡ mid
        → ((level : Level) (rest : List Level) → reverse before.levels.items ≡ level ∷ rest → Leaves kind level rest old.locals after new.locals)
        → (AreReadIn edition old.locals → AreReadIn edition new.locals) → new.left ≡ old.left
        → Adds Has old.out new.out (just outer (closes kind span ∷ [])) → Goes dialect world scope levels outer p.outside edition Has (left_ahead dialect world scope levels outer b p) old new before after
    passes_out true begins kind span mid at_end groups trees leaves read left adds = absurd (not_at_end p.here begins (sym at.here ∙ at_end))
    passes_out false pass kind span mid at_end groups trees leaves read left adds =
        let (g, gs, is, first, others) = split_open p.groups (record { kind = kind; close_span = span; behind = mid.here }) (groups_of mid) (sym at.groups ∙ groups) in
        let l : Leaves kind (level_of g) (map level_of gs) old.locals after new.locals =
        leaves (level_of g) (map level_of gs) (at.levels ∙ ap (map level_of) is) in
        let kind_is : g.kind ≡ kind = ap (λ (a : Around). a.kind) first in
        goes_out g gs (sym at.here ∙ at_end) is
        (ap (λ (t : TreeWalk). t.here) trees ∙ sym (ap (λ (a : Around). a.behind) first))
        (ap groups_of trees ∙ sym others) l.levels l.begun l.standing
        (subst (λ k. locals_of new.locals ≡ let_out k g.locals p.locals) (sym kind_is) (out_by g (subst (AreNested p.outside p.locals) is at.nested).0 kind l))
        read left
        (subst (λ k. Adds Has old.out new.out (just outer (closes k g.close_span ∷ []))) (sym kind_is)
        (subst (λ x. Adds Has old.out new.out (just outer (closes kind x ∷ []))) (sym (ap (λ (a : Around). a.close_span) first)) adds))
      where
        out_by : (g : Open) → (front : List Definition) × (p.locals ≡ front ++ g.locals) → (k : DelimiterKind) → {rest : List Level} → Leaves k (level_of g) rest old.locals after new.locals
            → locals_of new.locals ≡ let_out k g.locals p.locals
        out_by g nested k l = go (is_visible k) refl
          where
            go : (v : Bool) → is_visible k ≡ v → locals_of new.locals ≡ (if v then g.locals else p.locals)
            go true e = l.cut_back e nested.0 g.locals (at.locals ∙ nested.1) refl
            go false e = ap locals_of (l.let_out e) ∙ at.locals

    -- the tokens before the group of a call that stays were emitted, and then the group was entered
    pub goes_kept : (beginning from_group : Forest) (mid : Search S) (there : ListWalk) → mid.locals ≡ old.locals → mid.left ≡ old.left
        → turns_left there < suc (turns_left before)
        → Adds Has old.out mid.out (just outer (walk beginning))
        → Goes dialect world scope levels outer p.outside edition Has (argument_left dialect world scope levels outer (record p { here = from_group; begun = after_name p.begun }) from_group) mid new there after
        → Goes dialect world scope levels outer p.outside edition Has (kept_left dialect world scope levels outer beginning from_group p) old new before after
    goes_kept beginning from_group mid there locals left less adds g = record {
      next = g.next;
      at = g.at;
      outcome = followed_by (just outer (walk beginning)) g.outcome;
      is = ap (then_left (just outer (walk beginning))) g.is ∙ sym (then_assoc (just outer (walk beginning)) g.outcome (whole_left g.next));
      adds = adds_more Has old.out mid.out new.out (just outer (walk beginning)) g.outcome adds g.adds;
      spends = subst (λ l. Spends l new.left g.outcome.finds) left g.spends;
      read = λ r. g.read (subst (AreReadIn edition) (sym locals) r);
      outside_is = g.outside_is;
      less = omega (arith, less, g.less);
    }

  module _ (edition : Edition) {S : Type 0} (Has : S → List PlacedStep → Type 0) where
    -- names were looked up before a turn
    pub goes_looked : (xs : Notes Numbered) (outside : List Definition) (from now : Left) (old mid new : Search S) (before after : ListWalk) → from ≡ then_left (looks xs) now
        → ((o : Outcome (Noted Numbered)) → Adds Has mid.out new.out o → Adds Has old.out new.out (followed_by (looks xs) o)) → mid.locals ≡ old.locals → Spends old.left mid.left xs
        → Goes dialect world scope levels outer outside edition Has now mid new before after → Goes dialect world scope levels outer outside edition Has from old new before after
    goes_looked xs outside from now old mid new before after is more locals spends g = record {
      next = g.next;
      at = g.at;
      outcome = followed_by (looks xs) g.outcome;
      is = is ∙ ap (then_left (looks xs)) g.is ∙ sym (then_assoc (looks xs) g.outcome (whole_left g.next));
      adds = more g.outcome g.adds;
      spends = spends_more old.left mid.left new.left xs g.outcome.finds spends g.spends;
      read = λ r. g.read (subst (AreReadIn edition) (sym locals) r);
      outside_is = g.outside_is;
      less = g.less;
    }

    -- ---- a call

    module _ (old mid : Search S) (w : ListWalk) (p : Place) (at : IsAt w old.locals p) (plain : IsPlainAhead dialect p) (c : Call) (e : call_at w.trees.here ≡ Some c)
        (same_locals : mid.locals ≡ old.locals) (same_left : mid.left ≡ old.left) (same_output : mid.out.output ≡ old.out.output) (same_faults : mid.out.faults ≡ old.out.faults)
        (finds : map find_of mid.out.finds.items ≡ map find_of old.out.finds.items ++ lookups_of scope (locals_of old.locals) w.trees.here c) where
      abbrev pub call_is : IsCall p.here c true
      call_is = call_is_call p.here c (ap call_at (sym at.here) ∙ e)

      abbrev pub xs : Notes Numbered
      xs = among_notes (lookups_of scope p.locals p.here c)

      looked_spends : Spends old.left mid.left xs
      looked_spends = subst (λ l. Spends old.left l xs) (sym same_left) (spends_looks old.left (lookups_of scope p.locals p.here c))

      resolved_is : (x : Option Numbered) → x ≡ resolved scope (locals_of old.locals) w.trees.here c → resolved scope p.locals p.here c ≡ x
      resolved_is x is = (λ i. resolved scope (sym at.locals i) (sym at.here i) c) ∙ sym is

      looked_first : (new : Search S) (o : Outcome (Noted Numbered)) → Adds Has mid.out new.out o → Adds Has old.out new.out (followed_by (looks xs) o)
      looked_first new o adds =
          adds_looks Has old.out mid.out new.out (lookups_of scope p.locals p.here c) o same_output same_faults
          (finds ∙ (λ i. map find_of old.out.finds.items ++ lookups_of scope (at.locals i) (at.here i) c)) adds

      pub at_mid : IsAt w mid.locals p
      at_mid = subst (λ l. IsAt w l p) (sym same_locals) at

      -- what is passed before its group
      abbrev pub opens_before : Forest
      opens_before = before_group call_is.path c.name call_is.bang

      pub opened_so : p.here ≡ joined opens_before c.from_group
      opened_so = call_is.opening

      pub group_begins : BeginsWithGroup c.from_group
      group_begins = (call_is.brackets, c.argument, c.rest, call_is.group_is)

      -- it finds nothing
      pub goes_unknown : (new : Search S) (after : ListWalk) → None ≡ resolved scope (locals_of old.locals) w.trees.here c
          → Goes dialect world scope levels outer p.outside edition Has (kept_left dialect world scope levels outer opens_before c.from_group p) mid new w after
          → Goes dialect world scope levels outer p.outside edition Has (whole_left p) old new w after
      goes_unknown new after nothing g =
          goes_looked xs p.outside (whole_left p) (kept_left dialect world scope levels outer opens_before c.from_group p) old mid new w after
          (unknown_left dialect world scope levels outer p plain c call_is (resolved_is None nothing)) (looked_first new) same_locals looked_spends g

      -- the place behind it
      abbrev behind_it : Bool → List Definition → Place
      behind_it gone ds = behind_call dialect world scope levels outer p plain gone c ds

      -- it stands alone in a list of items
      abbrev pub alone : Bool
      alone = is_alone_at dialect w.begun w.standing c.from_group

      alone_is : alone ≡ stands_alone dialect world scope levels outer p plain c true call_is
      alone_is = (λ i. is_alone_at dialect (at.begun i) (at.standing i) (call_is.group_is i))

      smaller : size c.rest < size w.trees.here
      smaller = rest_smaller w.trees.here c e

      stands_behind : (gone : Bool) (new : Search S) (after : ListWalk) (ds : List Definition) → GoesBehind gone c w after → locals_of new.locals ≡ ds ++ locals_of mid.locals
          → IsAt after new.locals (behind_it gone ds)
      stands_behind gone new after ds b locals = record {
        here = b.here;
        begun = b.begun ∙ ap (λ s. begun_behind gone s c.from_group) at.begun;
        standing = b.standing ∙ at.standing;
        locals = locals ∙ ap (λ l. ds ++ locals_of l) same_locals ∙ ap (λ ls. ds ++ ls) at.locals;
        groups = b.groups ∙ at.groups;
        levels = ap (λ (v : _). reverse v.items) b.levels ∙ at.levels;
        nested = nested_more p.outside ds p.locals p.groups at.nested;
      }

      behind_less : (gone : Bool) (after : ListWalk) → GoesBehind gone c w after → turns_left after < turns_left w
      behind_less gone after b = omega (arith, ap size b.here, ap steps_in b.groups, smaller)

      abbrev pub site : CallSite
      site = site_of dialect world scope levels p.here c true call_is

      -- what is around the call
      abbrev here : Surroundings
      here = here_in dialect world scope levels outer p.standing p.locals

      -- a call that stays is what was emitted of it
      kept_whole : (told new : Search S) (kind : FaultKind) → ((passed : Forest) → w.trees.here ≡ joined passed c.rest → Adds Has told.out new.out (faulted kind (unwrap_or outer c.name.span) (just outer (walk passed))))
          → Adds Has told.out new.out (stays kind outer site)
      kept_whole told new kind adds = adds site.whole (at.here ∙ call_is.whole)

      -- the same where the fault may be excused
      kept_in : (told new : Search S) (kind : FaultKind) (t : Option (FaultKind × Span)) → told_once t ≡ unless_excused (is_excused dialect kind w.standing) kind (unwrap_or outer c.name.span)
          → ((passed : Forest) → w.trees.here ≡ joined passed c.rest → Adds Has told.out new.out (stays_for t outer passed))
          → Adds Has told.out new.out (stays_in dialect kind here site)
      kept_in told new kind t is adds =
          let a = adds site.whole (at.here ∙ call_is.whole) in record {
            steps = a.steps;
            faults = a.faults ∙ ap (λ fs. told.out.faults.items ++ fs) (is ∙ ap (λ s. unless_excused (is_excused dialect kind s) kind (unwrap_or outer c.name.span)) at.standing);
            finds = a.finds;
          }

      bursts_too : (o : Outcome (Noted Numbered)) (t : Bool) (one two : Search S) → Adds Has one.out two.out o → Adds Has one.out two.out (bursting t o)
      bursts_too o t one two a = record { steps = a.steps; faults = a.faults; finds = a.finds }

      -- it stays for a fault
      pub goes_stays : (new : Search S) (after : ListWalk) (d : Numbered) → Some d ≡ resolved scope (locals_of old.locals) w.trees.here c
          → (kind : FaultKind) → answer world d levels.depth c.argument ≡ Err kind
          → Charged levels.limits mid.left new.left (trial world d levels.depth c.argument)
          → (t : Option (FaultKind × Span)) → told_once t ≡ unless_excused (is_excused dialect kind w.standing) kind (unwrap_or outer c.name.span)
          → ((passed : Forest) → w.trees.here ≡ joined passed c.rest → Adds Has mid.out new.out (stays_for t outer passed))
          → new.locals ≡ mid.locals → GoesBehind false c w after → Goes dialect world scope levels outer p.outside edition Has (whole_left p) old new w after
      goes_stays new after d found kind says counted t told adds locals b =
          let is = stays_here dialect world scope levels outer p plain c call_is d kind mid.left new.left counted says in
          let o : Outcome (Noted Numbered) = bursting is.much (stays_in dialect kind here site) in record {
            next = behind_it false [];
            at = stands_behind false new after [] b (ap locals_of locals);
            outcome = followed_by (looks xs) (followed_by (looks is.notes) o);
            is = stays_left dialect world scope levels outer p plain c call_is d (resolved_is (Some d) found) kind mid.left new.left counted says;
            adds = looked_first new (followed_by (looks is.notes) o)
                (adds_notes Has mid.out new.out is.notes o is.unlooked (bursts_too (stays_in dialect kind here site) is.much mid new (kept_in mid new kind t told adds)));
            spends = spends_more old.left mid.left new.left xs (is.notes ++ []) looked_spends
                (spends_more mid.left new.left new.left is.notes [] is.spent (spends_nothing new.left));
            read = subst (AreReadIn edition) (sym (locals ∙ same_locals));
            outside_is = refl;
            less = behind_less false after b;
          }

      -- its result is searched, in the surroundings of the call
      abbrev pub result_of : Forest → Scoped (Noted Numbered)
      result_of g = searched dialect world scope (levels_in levels) (record { standing = w.standing; outer = Some (unwrap_or outer c.name.span); locals = locals_of mid.locals }) g

      abbrev result_here : Numbered → Forest → Scoped (Noted Numbered)
      result_here d g = given_of dialect world scope levels outer p plain c call_is d g

      result_is : (d : Numbered) (g : Forest) → result_of g ≡ result_here d g
      result_is d g = λ i. searched dialect world scope (levels_in levels)
          (record { standing = at.standing i; outer = Some (unwrap_or outer c.name.span); locals = (ap locals_of same_locals ∙ at.locals) i }) g

      -- what its rules put out
      abbrev pub put_for : Numbered → ℕ
      put_for d = world.put_out d c.argument

      -- the notes of what it gives, behind its own
      abbrev pub behind_call_of : Option Forest → Notes Numbered
      behind_call_of None = []
      behind_call_of (Some g) = (result_of g).outcome.finds

      behind_is : (d : Numbered) (o : Option Forest) → behind_call_of o ≡ behind_here dialect world scope levels outer p plain c call_is d o
      behind_is d None = refl
      behind_is d (Some g) = ap (λ (a : Scoped (Noted Numbered)). a.outcome.finds) (result_is d g)

      notes_is : (d : Numbered) (g : Forest) → notes_with (put_for d) (result_of g).outcome.finds ≡ notes_with (put_for d) (result_here d g).outcome.finds
      notes_is d g = ap (λ (a : Scoped (Noted Numbered)). notes_with (put_for d) a.outcome.finds) (result_is d g)

      abbrev made_with : Option Limits → Numbered → Forest → Scoped (Noted Numbered) → Scoped (Noted Numbered)
      made_with l d g a = made_of dialect world scope d (here_in dialect world scope levels outer p.standing p.locals) site l g a

      adds_made : (l : Option Limits) (d : Numbered) (g : Forest) (new : Search S) (a : Scoped (Noted Numbered)) → Adds Has mid.out new.out a.outcome → Adds Has mid.out new.out (made_with l d g a).outcome
      adds_made None d g new a adds =
          let t : Bool = world.bursts d c.argument in
          adds_notes Has mid.out new.out (note_of t (Some g) (put_for d)) (bursting t a.outcome) (no_lookups t (Some g) (put_for d)) (record { steps = adds.steps; faults = adds.faults; finds = adds.finds })
      adds_made (Some l) d g new a adds =
          record { steps = adds.steps; faults = adds.faults; finds = adds.finds ∙ ap (λ fs. map find_of mid.out.finds.items ++ fs) (sym (looked_among (looked_in a.outcome.finds))) }

      made_defines : (l : Option Limits) (d : Numbered) (g : Forest) (a : Scoped (Noted Numbered)) → (made_with l d g a).defines ≡ a.defines
      made_defines None d g a = refl
      made_defines (Some l) d g a = refl

      spends_made : (l : Option Limits) (d : Numbered) (g : Forest) (new : Search S) (a : Scoped (Noted Numbered)) → IsApart l mid.left
          → Spends mid.left new.left (notes_with (put_for d) a.outcome.finds) → Spends mid.left new.left (made_with l d g a).outcome.finds
      spends_made None d g new a apart h = spends_note mid.left new.left (world.bursts d c.argument) (Some g) (put_for d) a.outcome.finds h
      spends_made (Some l) d g new a apart h =
          subst (λ x. Spends x new.left (made_with (Some l) d g a).outcome.finds) (sym apart) (subst (λ x. Spends x new.left (notes_with (put_for d) a.outcome.finds)) apart h)

      apart_mid : (l : Option Limits) → IsApart l old.left → IsApart l mid.left
      apart_mid None h = tt
      apart_mid (Some l) h = same_left ∙ h

      pub goes_comes : (new : Search S) (after : ListWalk) (d : Numbered) → Some d ≡ resolved scope (locals_of old.locals) w.trees.here c
          → (g : Forest) → answer world d levels.depth c.argument ≡ Ok g → IsApart levels.limits old.left
          → Searched Has mid new (result_of g) (notes_with (put_for d) (result_of g).outcome.finds)
          → passing levels.limits (notes_with (put_for d) (result_of g).outcome.finds) ≡ None
          → AreReadIn edition new.locals → GoesBehind alone c w after
          → Goes dialect world scope levels outer p.outside edition Has (whole_left p) old new w after
      goes_comes new after d found g says apart all free read b =
          let a : Scoped (Noted Numbered) = result_of g in
          let m : Scoped (Noted Numbered) = made_with levels.limits d g a in
          let fits = ap (passing levels.limits) (sym (notes_is d g)) ∙ free in
          let is = comes_left dialect world scope levels outer p plain c call_is d (resolved_is (Some d) found) g says fits in record {
            next = behind_it alone m.defines;
            at = stands_behind alone new after m.defines b (all.locals ∙ ap (λ ds. ds ++ locals_of mid.locals) (sym (made_defines levels.limits d g a)));
            outcome = followed_by (looks xs) m.outcome;
            is = is ∙ (λ i. then_left (followed_by (looks xs) (made_with levels.limits d g (sym (result_is d g) i)).outcome)
                (whole_left (behind_it (sym alone_is i) (made_with levels.limits d g (sym (result_is d g) i)).defines)));
            adds = looked_first new m.outcome (adds_made levels.limits d g new a all.adds);
            spends = spends_more old.left mid.left new.left xs m.outcome.finds looked_spends (spends_made levels.limits d g new a (apart_mid levels.limits apart) all.spends);
            read = λ old_read. read;
            outside_is = refl;
            less = behind_less alone after b;
          }

      -- it makes too much, what was added is taken back, and it stays
      pub goes_large : (back new : Search S) (after : ListWalk) (d : Numbered) → Some d ≡ resolved scope (locals_of old.locals) w.trees.here c
          → (o : Option Forest) → IsTried world d levels.depth c.argument o
          → TakesBack Has levels.limits mid back (sized (calls_of o) (put_for d) ++ behind_call_of o)
          → ((passed : Forest) → w.trees.here ≡ joined passed c.rest → Adds Has back.out new.out (faulted TooLarge (unwrap_or outer c.name.span) (just outer (walk passed))))
          → new.locals ≡ back.locals → new.left ≡ back.left → AreReadIn edition back.locals → GoesBehind false c w after
          → IsApart levels.limits old.left → is_some levels.limits ≡ true
          → Goes dialect world scope levels outer p.outside edition Has (whole_left p) old new w after
      goes_large back new after d found q says taken adds locals left read b apart by_limits =
          let over = ap (λ ys. passing levels.limits (sized (calls_of q) (put_for d) ++ ys)) (sym (behind_is d q)) ∙ taken.is in
          let is = large_here dialect world scope levels outer p plain c call_is d q says taken.passed over in
          let o : Outcome (Noted Numbered) = bursting is.much (stays TooLarge outer site) in
          let more : Notes Numbered = among_notes taken.passed.finds in record {
            next = behind_it false [];
            at = stands_behind false new after [] b (ap locals_of locals ∙ taken.locals);
            outcome = followed_by (looks xs) (followed_by (looks more) o);
            is = large_left dialect world scope levels outer p plain c call_is d (resolved_is (Some d) found) q says taken.passed over;
            adds = looked_first new (followed_by (looks more) o) (kept_large is.much);
            spends = spends_large levels.limits (xs ++ (more ++ [])) apart by_limits;
            read = λ old_read. subst (AreReadIn edition) (sym locals) read;
            outside_is = refl;
            less = behind_less false after b;
          }
        where
          told : Adds Has back.out new.out (stays TooLarge outer site)
          told = kept_whole back new TooLarge adds

          ys : List (List ℕ × Option Numbered)
          ys = taken.passed.finds

          kept_large : (t : Bool) → Adds Has mid.out new.out (followed_by (looks (among_notes ys)) (bursting t (stays TooLarge outer site)))
          kept_large t = record {
            steps = takes_both Has mid.out.output back.out.output new.out.output [] (stays {D = Noted Numbered} TooLarge outer site).steps taken.takes told.steps;
            faults = told.faults ∙ ap (λ fs. fs ++ (stays {D = Noted Numbered} TooLarge outer site).faults) taken.faults;
            finds = told.finds ∙ append-nil (map find_of back.out.finds.items) ∙ taken.finds
                ∙ ap (λ fs. map find_of mid.out.finds.items ++ fs) (sym (lookups_among ys [] ∙ append-nil ys));
          }

          spends_large : (l : Option Limits) (ys : Notes Numbered) → IsApart l old.left → is_some l ≡ true → Spends old.left new.left ys
          spends_large None ys apart e = absurd (cc e)
          spends_large (Some l) ys apart e =
              let same : new.left ≡ None = left ∙ taken.left ∙ same_left ∙ apart in
              subst (λ x. Spends x new.left ys) (sym apart) (subst (λ x. Spends None x ys) (sym same) refl)

      -- it passes a limit at once, and stays
      pub goes_over : (new : Search S) (after : ListWalk) (d : Numbered) → Some d ≡ resolved scope (locals_of old.locals) w.trees.here c
          → left_behind levels.limits (trial world d levels.depth c.argument) ≡ None
          → ((passed : Forest) → w.trees.here ≡ joined passed c.rest → Adds Has mid.out new.out (faulted TooLarge (unwrap_or outer c.name.span) (just outer (walk passed))))
          → new.locals ≡ mid.locals → new.left ≡ mid.left → AreReadIn edition mid.locals → GoesBehind false c w after
          → IsApart levels.limits old.left
          → Goes dialect world scope levels outer p.outside edition Has (whole_left p) old new w after
      goes_over new after d found over adds locals left read b apart =
          let q : Option Forest = world.fit d c.argument in
          let says : IsTried world d levels.depth c.argument q = tried_over d world levels.depth c.argument levels.limits over in
          let here_is = passed_here levels.limits (calls_of q) (put_for d) (behind_call_of q) (ap (left_behind levels.limits) (sym (tried_note d world levels.depth c.argument q says)) ∙ over) in
          goes_large mid new after d found q says
          (record {
            passed = passed_at_once;
            is = here_is;
            finds = sym (append-nil (map find_of mid.out.finds.items));
            takes = takes_none Has mid.out.output;
            faults = refl;
            locals = refl;
            left = refl;
          })
          adds locals left read b apart (limited_by levels.limits _ passed_at_once here_is)

      -- ---- where the search stops

      -- all that is left but what comes of the call
      abbrev rest_here : Numbered → Notes Numbered
      rest_here d = (whole_left (behind_it (takes dialect world scope levels outer p plain c true call_is) (outcome_here dialect world scope levels outer p plain c call_is d).defines)).0.finds

      abbrev finds_here : Numbered → Notes Numbered
      finds_here d = (outcome_here dialect world scope levels outer p plain c call_is d).outcome.finds

      all_finds : (d : Numbered) → Some d ≡ resolved scope (locals_of old.locals) w.trees.here c → (whole_left p).0.finds ≡ (xs ++ finds_here d) ++ rest_here d
      all_finds d found = finds_left dialect world scope levels outer p plain c call_is d (resolved_is (Some d) found)

      -- in a result: the notes of the call
      result_notes : (d : Numbered) (o : Option Forest) → IsTried world d levels.depth c.argument o → levels.limits ≡ None
          → finds_here d ≡ note_of (world.bursts d c.argument) o (put_for d) ++ behind_call_of o
      result_notes d o says inside =
          result_finds dialect world scope levels outer p plain c call_is d o says inside
          ∙ ap (λ ys. note_of (world.bursts d c.argument) o (put_for d) ++ ys) (sym (behind_is d o))

      mid_finds : map find_of mid.out.finds.items ≡ map find_of old.out.finds.items ++ looked_in xs
      mid_finds =
          finds ∙ (λ i. map find_of old.out.finds.items ++ lookups_of scope (at.locals i) (at.here i) c)
          ∙ ap (λ fs. map find_of old.out.finds.items ++ fs) (sym (looked_among (lookups_of scope p.locals p.here c)))

      -- a limit is passed at it, or in its result
      pub stops_comes : (new : Search S) (d : Numbered) → Some d ≡ resolved scope (locals_of old.locals) w.trees.here c
          → (o : Option Forest) → IsTried world d levels.depth c.argument o → levels.limits ≡ None
          → Stops Has mid new (sized (calls_of o) (put_for d) ++ behind_call_of o) → Stops Has old new (whole_left p).0.finds
      stops_comes new d found o says inside st =
          let t : Bool = world.bursts d c.argument in
          let ys : Notes Numbered = note_of t o (put_for d) ++ behind_call_of o in
          let q = passing_note mid.left t o (put_for d) (behind_call_of o) st.passed st.is in
          let all : (whole_left p).0.finds ≡ (xs ++ ys) ++ rest_here d = all_finds d found ∙ ap (λ fs. (xs ++ fs) ++ rest_here d) (result_notes d o says inside) in record {
            passed = behind_notes xs q.0;
            is = ap (passing old.left) all ∙ passing_before old.left (xs ++ ys) (rest_here d) (behind_notes xs q.0)
                (passing_more old.left mid.left xs ys looked_spends ∙ ap (option_map (behind_notes xs)) q.1.0);
            finds = st.finds ∙ ap (λ fs. fs ++ st.passed.finds) mid_finds ∙ append_assoc (map find_of old.out.finds.items) (looked_in xs) st.passed.finds
                ∙ ap (λ fs. map find_of old.out.finds.items ++ (looked_in xs ++ fs)) (sym q.1.1);
            steps = st.steps;
            takes = subst (λ o. TakesMore Has o new.out.output st.steps) same_output st.takes;
            told = st.told;
            faults = st.faults ∙ ap (λ (v : _). v.items ++ st.told) same_faults;
            front = st.front;
            locals = st.locals ∙ ap (λ l. st.front ++ locals_of l) same_locals;
          }

      -- a limit is passed at it
      pub stops_over : (new : Search S) (d : Numbered) → Some d ≡ resolved scope (locals_of old.locals) w.trees.here c
          → left_behind mid.left (trial world d levels.depth c.argument) ≡ None → levels.limits ≡ None
          → new ≡ mid → Stops Has old new (whole_left p).0.finds
      stops_over new d found over inside same =
          let o : Option Forest = world.fit d c.argument in
          let says : IsTried world d levels.depth c.argument o = tried_over d world levels.depth c.argument mid.left over in
          stops_comes new d found o says inside
          (stops_at_once Has mid new (calls_of o) (put_for d) (behind_call_of o)
          (ap (left_behind mid.left) (sym (tried_note d world levels.depth c.argument o says)) ∙ over)
          (ap (λ (s : Search S). s.out) same) (ap (λ (s : Search S). s.locals) same))

      -- ---- too many tokens

      first_by : (fs : Notes Numbered) (l : Option Limits) → levels.limits ≡ l → IsApart l old.left → (levels.limits ≡ None → BurstsFirst old.left fs) → BurstsFirst old.left fs
      first_by fs None is apart inside = inside is
      first_by fs (Some l) is apart inside = subst (λ x. BurstsFirst x fs) (sym apart) (bursts_none fs)

      first_in : (d : Numbered) → Some d ≡ resolved scope (locals_of old.locals) w.trees.here c → BurstsFirst mid.left (finds_here d) → BurstsFirst old.left (whole_left p).0.finds
      first_in d found first =
          subst (BurstsFirst old.left) (sym (all_finds d found))
          (bursts_before old.left (xs ++ finds_here d) (rest_here d) (bursts_more old.left mid.left xs (finds_here d) looked_spends first))

      -- where it makes too many tokens, the whole does
      pub answer_too_many : (d : Numbered) → Some d ≡ resolved scope (locals_of old.locals) w.trees.here c → makes_too_many world d levels.depth c.argument ≡ true
          → IsApart levels.limits old.left → BurstsIn old.left (whole_left p).0
      answer_too_many d found much apart = (
        answer_bursts dialect world scope levels outer p plain c call_is d (resolved_is (Some d) found) much,
        first_by (whole_left p).0.finds levels.limits refl apart (λ inside. first_in d found (answer_first dialect world scope levels outer p plain c call_is d inside much mid.left)),
      )

      pub result_too_many : (d : Numbered) → Some d ≡ resolved scope (locals_of old.locals) w.trees.here c → (g : Forest) → answer world d levels.depth c.argument ≡ Ok g
          → IsApart levels.limits old.left → (result_of g).outcome.bursts ≡ true → BurstsFirst mid.left (notes_with (put_for d) (result_of g).outcome.finds)
          → BurstsFirst levels.limits (notes_with (put_for d) (result_of g).outcome.finds) → BurstsIn old.left (whole_left p).0
      result_too_many d found g says apart much first own = (
        result_bursts dialect world scope levels outer p plain c call_is d (resolved_is (Some d) found) g says
            (ap (λ (x : Scoped (Noted Numbered)). x.outcome.bursts) (sym (result_is d g)) ∙ much)
            (subst (BurstsFirst levels.limits) (notes_is d g) own),
        first_by (whole_left p).0.finds levels.limits refl apart
            (λ inside. first_in d found (subst (BurstsFirst mid.left) (sym (result_notes d (Some g) (tried_ok d world levels.depth c.argument g says) inside)) (bursts_note mid.left (world.bursts d c.argument) (Some g) (put_for d) (result_of g).outcome.finds first))),
      )

    -- ---- what would be a call but for the `::` before it

    module _ (old new : Search S) (w after : ListWalk) (p : Place) (at : IsAt w old.locals p) (plain : IsPlainAhead dialect p) (c : Call) (e : call_behind_colons w.trees.here ≡ Some c) where
      abbrev colons_is : IsCall p.here c false
      colons_is = colons_is_call p.here c (ap call_behind_colons (sym at.here) ∙ e)

      abbrev pub colons_before : Forest
      colons_before = before_group colons_is.path c.name colons_is.bang

      pub colons_open : p.here ≡ joined colons_before c.from_group
      colons_open = colons_is.opening

      pub colons_group : BeginsWithGroup c.from_group
      colons_group = (colons_is.brackets, c.argument, c.rest, colons_is.group_is)

      pub goes_colons : Goes dialect world scope levels outer p.outside edition Has (kept_left dialect world scope levels outer colons_before c.from_group p) old new w after
          → Goes dialect world scope levels outer p.outside edition Has (whole_left p) old new w after
      goes_colons t = record {
        next = t.next;
        at = t.at;
        outcome = t.outcome;
        is = colons_left dialect world scope levels outer p plain c colons_is ∙ t.is;
        adds = t.adds;
        spends = t.spends;
        read = t.read;
        outside_is = t.outside_is;
        less = t.less;
      }

    -- ---- turn by turn

    -- what was added so far, and what is left where the search stands, make the whole
    pub record Going (whole : Left) (first now : Search S) (w : ListWalk) : Type 0 where
      pub place : Place
      pub at : IsAt w now.locals place
      pub done : Outcome (Noted Numbered)
      pub is : whole ≡ then_left done (whole_left place)
      pub adds : Adds Has first.out now.out done
      pub spends : Spends first.left now.left done.finds
      pub outside : place.outside ≡ locals_of first.locals
      pub read : AreReadIn edition now.locals

    pub going_first : (standing : Standing) (trees : Forest) (search : Search S) (w : ListWalk) → w.trees.here ≡ trees → groups_of w.trees ≡ []
        → w.begun ≡ Nothing → w.standing ≡ standing → reverse w.levels.items ≡ [] → AreReadIn edition search.locals
        → (let a : Scoped (Noted Numbered) = searched dialect world scope levels (here_in dialect world scope levels outer standing (locals_of search.locals)) trees in
        Going (a.outcome, a.defines ++ locals_of search.locals) search search w)
    going_first standing trees search w here groups begun standing_is levels_are read = record {
      place = record { here = trees; begun = Nothing; standing = standing; locals = locals_of search.locals; groups = []; outside = locals_of search.locals };
      at = record { here = here; begun = begun; standing = standing_is; locals = refl; groups = groups; levels = levels_are; nested = ([], refl) };
      done = just outer [];
      is = left_at_beginning dialect world scope levels outer standing (locals_of search.locals) trees;
      adds = adds_just Has search.out search.out outer [] (takes_none Has search.out.output) refl refl;
      spends = spends_nothing search.left;
      outside = refl;
      read = read;
    }

    pub going_on : (whole : Left) (first old new : Search S) (before after : ListWalk) (g : Going whole first old before)
        → Goes dialect world scope levels outer g.place.outside edition Has (whole_left g.place) old new before after → Going whole first new after
    going_on whole first old new before after g t = record {
      place = t.next;
      at = t.at;
      done = followed_by g.done t.outcome;
      is = g.is ∙ ap (then_left g.done) t.is ∙ sym (then_assoc g.done t.outcome (whole_left t.next));
      adds = adds_more Has first.out old.out new.out g.done t.outcome g.adds t.adds;
      spends = spends_more first.left old.left new.left g.done.finds t.outcome.finds g.spends t.spends;
      outside = t.outside_is ∙ g.outside;
      read = t.read g.read;
    }

    -- nothing is left
    pub going_done : (a : Scoped (Noted Numbered)) (first now : Search S) (w : ListWalk) (g : Going (a.outcome, a.defines ++ locals_of first.locals) first now w)
        → g.place.here ≡ empty → g.place.groups ≡ [] → Searched Has first now a a.outcome.finds
    going_done a first now w g at_end groups =
        let all : (a.outcome, a.defines ++ locals_of first.locals) ≡ (g.done, g.place.locals) =
        g.is ∙ ap (then_left g.done) (nothing_left g.place at_end groups) ∙ ap (λ (o : Outcome (Noted Numbered)). (o, g.place.locals)) (followed_by_nothing g.done outer) in
        let same : g.done ≡ a.outcome = sym (ap (λ (l : Left). l.0) all) in record {
          adds = subst (λ (o : Outcome (Noted Numbered)). Adds Has first.out now.out o) same g.adds;
          locals = g.at.locals ∙ sym (ap (λ (l : Left). l.1) all);
          spends = subst (λ (o : Outcome (Noted Numbered)). Spends first.left now.left o.finds) same g.spends;
        }

    -- what is noted of the whole
    going_finds : (whole : Left) (first now : Search S) (w : ListWalk) (g : Going whole first now w) → whole.0.finds ≡ g.done.finds ++ (whole_left g.place).0.finds
    going_finds whole first now w g = ap (λ (l : Left). l.0.finds) g.is

    -- where the search stops in what is left, that of the whole does
    pub going_stops : (whole : Left) (first now new : Search S) (w : ListWalk) (g : Going whole first now w) → Stops Has now new (whole_left g.place).0.finds → Stops Has first new whole.0.finds
    going_stops whole first now new w g st =
        let around : IsAfter g.place.outside g.place.locals = all_after g.place.outside g.place.locals g.place.groups g.at.nested in record {
          passed = behind_notes g.done.finds st.passed;
          is = ap (passing first.left) (going_finds whole first now w g) ∙ passing_more first.left now.left g.done.finds (whole_left g.place).0.finds g.spends
              ∙ ap (option_map (behind_notes g.done.finds)) st.is;
          finds = st.finds ∙ ap (λ fs. fs ++ st.passed.finds) g.adds.finds ∙ append_assoc (map find_of first.out.finds.items) (looked_in g.done.finds) st.passed.finds;
          steps = g.done.steps ++ st.steps;
          takes = takes_both Has first.out.output now.out.output new.out.output g.done.steps st.steps g.adds.steps st.takes;
          told = g.done.faults ++ st.told;
          faults = st.faults ∙ ap (λ fs. fs ++ st.told) g.adds.faults ∙ append_assoc first.out.faults.items g.done.faults st.told;
          front = st.front ++ around.0;
          locals = st.locals ∙ ap (λ ls. st.front ++ ls) (g.at.locals ∙ around.1 ∙ ap (λ ls. around.0 ++ ls) g.outside)
              ∙ sym (append_assoc st.front around.0 (locals_of first.locals));
        }

    -- what makes too many tokens in what is left does so in the whole
    pub going_bursts : (whole : Left) (first now : Search S) (w : ListWalk) (g : Going whole first now w) → BurstsIn now.left (whole_left g.place).0 → BurstsIn first.left whole.0
    going_bursts whole first now w g much = (
      ap (λ (l : Left). l.0.bursts) g.is ∙ or_later g.done.bursts _ much.0,
      subst (BurstsFirst first.left) (sym (going_finds whole first now w g)) (bursts_more first.left now.left g.done.finds (whole_left g.place).0.finds g.spends much.1),
    )

-- three facts of one good result
pub ok_three : {T E A B C D : Type 0} (r : Result T E) → (A → B → C → D) → OnOk r A → OnOk r B → OnOk r C → OnOk r D
ok_three (Ok x) f a b c = f a b c
ok_three (Err e) f a b c = tt

pub some_from : {X : Type 0} (o : Option X) → is_some o ≡ true → (x : X) × (o ≡ Some x)
some_from None e = absurd (cc e)
some_from (Some x) e = (x, refl)

-- what is left out where the traversal stands is left out at its place
pub out_at : (w : ListWalk) (l : Locals) (p : Place) → IsAt w l p → (cfg : Option CfgOptions) (o : Option Forest)
    → IsOutAhead cfg w.standing w.trees.here o → IsOutAhead cfg p.standing p.here o
out_at w l p at cfg o h = subst (λ s. IsOutAhead cfg s p.here o) at.standing (subst (λ f. IsOutAhead cfg w.standing f o) at.here h)

-- no piece that is left out or a definition begins where none begins in the traversal
pub plain_at : (w : ListWalk) (l : Locals) (p : Place) → IsAt w l p → (dialect : Dialect)
    → (w.begun ≡ Nothing → IsOutAhead dialect.cfg w.standing w.trees.here None)
    → (dialect.scope ≡ Rust → w.begun ≡ Nothing → IsAhead w.trees.here None) → IsPlainAhead dialect p
plain_at w l p at dialect inside nowhere =
    ((λ v. out_at w l p at dialect.cfg None (inside (at.begun ∙ v))), (λ u v. subst (λ f. IsAhead f None) at.here (nowhere u (at.begun ∙ v))))

pub no_call_at : (w : ListWalk) (l : Locals) (p : Place) → IsAt w l p → call_at w.trees.here ≡ None → call_behind_colons w.trees.here ≡ None → IsNoCall p
no_call_at w l p at a b = (ap call_at (sym at.here) ∙ a, ap call_behind_colons (sym at.here) ∙ b)
