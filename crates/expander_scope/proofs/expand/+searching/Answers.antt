use Rattle.std.proofs.Common.{◌≡◌, ◌-◌, ◌∙◌, ℕ, ap, refl, rules, subst, sym, true, false}
use Rattle.tt_data.specs.Forest.{Forest, leaf}
use Rattle.tt_data.specs.Lent.{leaf_lent}
use Rattle.expander_model.specs.Definitions.{definition_of}
use Rattle.std.specs.Prelude.{Option, None, Some, Ok, Err, IfOk, OnOk, is_some, not}
use Rattle.expander_model.specs.Expansion.{World}
use Rattle.expander_model.specs.Held.{Numbered}
use Rattle.expander_model.specs.Limits.{sized}
use Rattle.expander_model.specs.declared.limits.Limits.{Limits}
use Rattle.expander_scope.specs.Expanding.{Adds, answer, defined_under, left_within, levels_at, limits_at, limits_for, list_under, result_under, trial, world_under}
use Rattle.expander_scope.specs.ListsLeft.{IsAhead}
use Rattle.expander_scope.specs.LocalTables.{AreReadIn}
use Rattle.expander_scope.specs.Spending.{BurstsFirst, BurstsIn, Searched, Spends, Stops, left_behind, notes_with, with_left}
use Rattle.expander_scope.specs.Turns.{left_under, shown_of}
use Rattle.expander_scope.specs.declared.expand.search.Search.{Search}
use Rattle.expander_scope.specs.Outcomes.{numbered_of_known}
use Rattle.expander_scope.specs.ScopeTable.{scope_in}
use Rattle.expander_scope.proofs.CallResultLemmas.{IsTried, adds_just, tried_note, tried_ok}
use Rattle.expander_scope.proofs.GoesLemmas.{at_mid, goes_past, out_at, goes_comes, goes_large, goes_leaf, goes_on_behind, goes_over, goes_stays, goes_unknown, going_bursts, going_done, going_first, going_on, going_stops, group_begins, goes_colons, colons_before, colons_open, colons_group, no_call_at, plain_at, opened_so, opens_before, answer_too_many, result_too_many, some_from, stops_comes, stops_over}
use Rattle.expander_scope.proofs.HandedLemmas.{handed}
use Rattle.expander_scope.proofs.ReplaceLemmas.{bursts_in_more, fits_own}
use Rattle.expander_scope.proofs.SpendingLemmas.{Charged, apart_at, bursts_more, bursts_none, charged_at, left_inside, left_outside, limited_by, limits_outside, no_limits, none_inside}
use Rattle.expander_scope.proofs.TurnLemmas.{call_opened, colons_opened}
use Rattle.expander_scope.proofs.expand.+searching.Goals as goal

-- what the rules of a call put out
abbrev put_by : World Numbered → Numbered → Forest → ℕ
put_by world d argument = world.put_out d argument

-- what a call costs that is replaced
spent_at : (world : World Numbered) (d : Numbered) (depth : ℕ) (argument g : Forest) (own left : Option Limits) → answer world d depth argument ≡ Ok g
    → Some left ≡ left_behind own (trial world d depth argument) → Spends own left (sized 1 (put_by world d argument))
spent_at world d depth argument g own left says e =
    ap (left_behind own) (sym (tried_note d world depth argument (Some g) (tried_ok d world depth argument g says))) ∙ sym e

pub expand_call-keep_call-requires : goal.expand_call-keep_call-requires
expand_call-keep_call-requires g t c = call_opened c.args.walk.now.trees.here c.args.call c.requires.call

pub expand_call-returns-in_default-clause-turn : goal.expand_call-returns-in_default-clause-turn
expand_call-returns-in_default-clause-turn g t c = λ so p at plain.
    goes_unknown c.args.env.now.dialect.now (world_under (g.G.FragmentGrammar.answer c.args.env.now.grammar.now) c.args.env.now.scope.now c.args.env.now.dialect.now) (scope_in c.args.env.now.scope.now) (levels_at c.args.env.now.dialect.now c.args.env.now.depth c.args.outer) c.args.outer c.args.env.now.scope.now.edition g.S.EventSink.has_taken
    c.args.search.now c.resolve.new.search c.args.walk.now p at plain c.args.call c.requires.call c.resolve.ensures.locals c.resolve.ensures.left c.resolve.ensures.output c.resolve.ensures.faults c.in_ok-known.ensures.finds
    c.keep_call.new.search c.keep_call.new.walk (rw c.in_default.is at c.in_ok-known.ensures.found)
    (c.in_ok-keep_call.ensures.turn c.args.env.now.dialect.now (world_under (g.G.FragmentGrammar.answer c.args.env.now.grammar.now) c.args.env.now.scope.now c.args.env.now.dialect.now) (scope_in c.args.env.now.scope.now) (levels_at c.args.env.now.dialect.now c.args.env.now.depth c.args.outer) c.args.env.now.scope.now.edition p
    (opens_before c.args.env.now.dialect.now (world_under (g.G.FragmentGrammar.answer c.args.env.now.grammar.now) c.args.env.now.scope.now c.args.env.now.dialect.now) (scope_in c.args.env.now.scope.now) (levels_at c.args.env.now.dialect.now c.args.env.now.depth c.args.outer) c.args.outer c.args.env.now.scope.now.edition g.S.EventSink.has_taken
    c.args.search.now c.resolve.new.search c.args.walk.now p at plain c.args.call c.requires.call c.resolve.ensures.locals c.resolve.ensures.left c.resolve.ensures.output c.resolve.ensures.faults c.in_ok-known.ensures.finds)
    (at_mid c.args.env.now.dialect.now (world_under (g.G.FragmentGrammar.answer c.args.env.now.grammar.now) c.args.env.now.scope.now c.args.env.now.dialect.now) (scope_in c.args.env.now.scope.now) (levels_at c.args.env.now.dialect.now c.args.env.now.depth c.args.outer) c.args.outer c.args.env.now.scope.now.edition g.S.EventSink.has_taken
    c.args.search.now c.resolve.new.search c.args.walk.now p at plain c.args.call c.requires.call c.resolve.ensures.locals c.resolve.ensures.left c.resolve.ensures.output c.resolve.ensures.faults c.in_ok-known.ensures.finds)
    (opened_so c.args.env.now.dialect.now (world_under (g.G.FragmentGrammar.answer c.args.env.now.grammar.now) c.args.env.now.scope.now c.args.env.now.dialect.now) (scope_in c.args.env.now.scope.now) (levels_at c.args.env.now.dialect.now c.args.env.now.depth c.args.outer) c.args.outer c.args.env.now.scope.now.edition g.S.EventSink.has_taken
    c.args.search.now c.resolve.new.search c.args.walk.now p at plain c.args.call c.requires.call c.resolve.ensures.locals c.resolve.ensures.left c.resolve.ensures.output c.resolve.ensures.faults c.in_ok-known.ensures.finds)
    (group_begins c.args.env.now.dialect.now (world_under (g.G.FragmentGrammar.answer c.args.env.now.grammar.now) c.args.env.now.scope.now c.args.env.now.dialect.now) (scope_in c.args.env.now.scope.now) (levels_at c.args.env.now.dialect.now c.args.env.now.depth c.args.outer) c.args.outer c.args.env.now.scope.now.edition g.S.EventSink.has_taken
    c.args.search.now c.resolve.new.search c.args.walk.now p at plain c.args.call c.requires.call c.resolve.ensures.locals c.resolve.ensures.left c.resolve.ensures.output c.resolve.ensures.faults c.in_ok-known.ensures.finds))

pub search_list-turns-init : goal.search_list-turns-init
search_list-turns-init g t c =
    going_first c.args.env.now.dialect.now (world_under (g.G.FragmentGrammar.answer c.args.env.now.grammar.now) c.args.env.now.scope.now c.args.env.now.dialect.now) (scope_in c.args.env.now.scope.now) (levels_at c.args.env.now.dialect.now c.args.env.now.depth c.args.outer) c.args.outer c.args.env.now.scope.now.edition g.S.EventSink.has_taken
    c.args.standing c.args.trees.now c.args.search.now c.new-walk.result c.new-walk.ensures.here c.new-walk.ensures.groups c.new-walk.ensures.begun c.new-walk.ensures.standing c.new-walk.ensures.levels c.requires.locals

pub search_list-turns-preserved-in-Some : goal.search_list-turns-preserved-in-Some
search_list-turns-preserved-in-Some g t c =
    let G = c.turns.invariant in
    let some = rw c.in-Some.is at c.in_ok-rest.ensures.some in
    going_on c.args.env.now.dialect.now (world_under (g.G.FragmentGrammar.answer c.args.env.now.grammar.now) c.args.env.now.scope.now c.args.env.now.dialect.now) (scope_in c.args.env.now.scope.now) (levels_at c.args.env.now.dialect.now c.args.env.now.depth c.args.outer) c.args.outer c.args.env.now.scope.now.edition g.S.EventSink.has_taken
    _ c.args.search.now c.turns.search _ c.turns.walk _ G
    (goes_past c.args.env.now.dialect.now (world_under (g.G.FragmentGrammar.answer c.args.env.now.grammar.now) c.args.env.now.scope.now c.args.env.now.dialect.now) (scope_in c.args.env.now.scope.now) (levels_at c.args.env.now.dialect.now c.args.env.now.depth c.args.outer) c.args.outer c.args.env.now.scope.now.edition g.S.EventSink.has_taken
    c.turns.search _ c.turns.walk _ G.place G.at c.in-Some.rest (sym G.at.begun ∙ some.0)
    (out_at c.turns.walk c.turns.search.locals G.place G.at c.args.env.now.dialect.now.cfg (Some c.in-Some.rest) some.1)
    c.go_on.ensures.here c.go_on.ensures.groups refl refl refl refl)

pub search_list-turns-preserved-in-Some-piece_ahead : goal.search_list-turns-preserved-in-Some-piece_ahead
search_list-turns-preserved-in-Some-piece_ahead g t c =
    let G = c.turns.invariant in
    let some = c.in-Some-piece_ahead.ensures.some in
    let (d, is) = some_from (definition_of c.in-Some-piece_ahead.piece) some.2.1.0 in
    going_on c.args.env.now.dialect.now (world_under (g.G.FragmentGrammar.answer c.args.env.now.grammar.now) c.args.env.now.scope.now c.args.env.now.dialect.now) (scope_in c.args.env.now.scope.now) (levels_at c.args.env.now.dialect.now c.args.env.now.depth c.args.outer) c.args.outer c.args.env.now.scope.now.edition g.S.EventSink.has_taken
    _ c.args.search.now c.turns.search c.define.new.search c.turns.walk _ G
    (goes_on_behind c.args.env.now.dialect.now (world_under (g.G.FragmentGrammar.answer c.args.env.now.grammar.now) c.args.env.now.scope.now c.args.env.now.dialect.now) (scope_in c.args.env.now.scope.now) (levels_at c.args.env.now.dialect.now c.args.env.now.depth c.args.outer) c.args.outer c.args.env.now.scope.now.edition g.S.EventSink.has_taken
    c.turns.search c.define.new.search c.turns.walk _ G.place G.at d c.in-Some-piece_ahead.piece c.in-Some-piece_ahead.rest
    (out_at c.turns.walk c.turns.search.locals G.place G.at c.args.env.now.dialect.now.cfg None (c.in_ok-rest.ensures.none c.in_default.is some.0)) some.1 (sym G.at.begun ∙ some.0) (subst (λ f. IsAhead f (Some (c.in-Some-piece_ahead.piece, c.in-Some-piece_ahead.rest))) G.at.here some.2) is
    c.go_on-in-Some-piece_ahead.ensures.here c.go_on-in-Some-piece_ahead.ensures.groups refl refl refl
    (c.in_ok-define.ensures.locals d is) c.in_ok-define.ensures.read c.define.ensures.left
    (subst (λ s. Adds g.S.EventSink.has_taken c.turns.search.out c.define.new.search.out
    (defined_under (g.G.FragmentGrammar.answer c.args.env.now.grammar.now) c.args.env.now.scope.now c.args.env.now.dialect.now (record { standing = s; outer = c.args.outer; locals = G.place.locals }) d).outcome) G.at.standing
    (c.in_ok-define.ensures.adds d G.place.locals is)))

pub search_list-returns-in_err-expand_call-in-Call-clause-tokens : goal.search_list-returns-in_err-expand_call-in-Call-clause-tokens
search_list-returns-in_err-expand_call-in-Call-clause-tokens g t c = λ e.
    let G = c.turns.invariant in
    going_bursts c.args.env.now.dialect.now (world_under (g.G.FragmentGrammar.answer c.args.env.now.grammar.now) c.args.env.now.scope.now c.args.env.now.dialect.now) (scope_in c.args.env.now.scope.now) (levels_at c.args.env.now.dialect.now c.args.env.now.depth c.args.outer) c.args.outer c.args.env.now.scope.now.edition g.S.EventSink.has_taken _ c.args.search.now c.turns.search c.turns.walk G
    (c.in_err-expand_call-in-Call.ensures.tokens (handed c.from_residual-in_err-expand_call-in-Call.result _ c.from_residual-in_err-expand_call-in-Call.ensures.1 e) G.place G.at (plain_at c.turns.walk c.turns.search.locals G.place G.at c.args.env.now.dialect.now (c.in_ok-rest.ensures.none c.in_default.is) c.in_default-piece_ahead.ensures.none))

pub search_list-returns-then-not-branch-clause-stops : goal.search_list-returns-then-not-branch-clause-stops
search_list-returns-then-not-branch-clause-stops g t c = λ so.
    let G = c.turns.invariant in
    let over : c.in_ok-expand_call-in-Call.field-0 ≡ false = search rules in
    going_stops c.args.env.now.dialect.now (world_under (g.G.FragmentGrammar.answer c.args.env.now.grammar.now) c.args.env.now.scope.now c.args.env.now.dialect.now) (scope_in c.args.env.now.scope.now) (levels_at c.args.env.now.dialect.now c.args.env.now.depth c.args.outer) c.args.outer c.args.env.now.scope.now.edition g.S.EventSink.has_taken _ c.args.search.now c.turns.search c.expand_call.new.search c.turns.walk G
    (c.in_ok-expand_call-in-Call.ensures.stops over G.place G.at (plain_at c.turns.walk c.turns.search.locals G.place G.at c.args.env.now.dialect.now (c.in_ok-rest.ensures.none c.in_default.is) c.in_default-piece_ahead.ensures.none))

pub search_list-turns-smaller-else-not-branch : goal.search_list-turns-smaller-else-not-branch
search_list-turns-smaller-else-not-branch g t c =
    let G = c.turns.invariant in
    let over : c.in_ok-expand_call-in-Call.field-0 ≡ true = search rules in
    (c.in_ok-expand_call-in-Call.ensures.turn over G.place G.at (plain_at c.turns.walk c.turns.search.locals G.place G.at c.args.env.now.dialect.now (c.in_ok-rest.ensures.none c.in_default.is) c.in_default-piece_ahead.ensures.none)).less

pub search_list-turns-preserved-else-not-branch : goal.search_list-turns-preserved-else-not-branch
search_list-turns-preserved-else-not-branch g t c =
    let G = c.turns.invariant in
    let over : c.in_ok-expand_call-in-Call.field-0 ≡ true = search rules in
    going_on c.args.env.now.dialect.now (world_under (g.G.FragmentGrammar.answer c.args.env.now.grammar.now) c.args.env.now.scope.now c.args.env.now.dialect.now) (scope_in c.args.env.now.scope.now) (levels_at c.args.env.now.dialect.now c.args.env.now.depth c.args.outer) c.args.outer c.args.env.now.scope.now.edition g.S.EventSink.has_taken
    _ c.args.search.now c.turns.search c.expand_call.new.search c.turns.walk c.expand_call.new.walk G
    (c.in_ok-expand_call-in-Call.ensures.turn over G.place G.at (plain_at c.turns.walk c.turns.search.locals G.place G.at c.args.env.now.dialect.now (c.in_ok-rest.ensures.none c.in_default.is) c.in_default-piece_ahead.ensures.none))

pub search_list-keep_call-requires : goal.search_list-keep_call-requires
search_list-keep_call-requires g t c = colons_opened c.turns.walk.trees.here c.in-BehindColons.call ((rw c.in-BehindColons.is at c.beginning_of.ensures).1)

pub search_list-turns-smaller-in-BehindColons : goal.search_list-turns-smaller-in-BehindColons
search_list-turns-smaller-in-BehindColons g t c =
    let G = c.turns.invariant in
    let plain = (plain_at c.turns.walk c.turns.search.locals G.place G.at c.args.env.now.dialect.now (c.in_ok-rest.ensures.none c.in_default.is) c.in_default-piece_ahead.ensures.none) in
    let e = (rw c.in-BehindColons.is at c.beginning_of.ensures).1 in
    (goes_colons c.args.env.now.dialect.now (world_under (g.G.FragmentGrammar.answer c.args.env.now.grammar.now) c.args.env.now.scope.now c.args.env.now.dialect.now) (scope_in c.args.env.now.scope.now) (levels_at c.args.env.now.dialect.now c.args.env.now.depth c.args.outer) c.args.outer c.args.env.now.scope.now.edition g.S.EventSink.has_taken
    c.turns.search c.keep_call.new.search c.turns.walk c.keep_call.new.walk G.place G.at plain c.in-BehindColons.call e
    (c.in_ok-keep_call-in-BehindColons.ensures.turn c.args.env.now.dialect.now (world_under (g.G.FragmentGrammar.answer c.args.env.now.grammar.now) c.args.env.now.scope.now c.args.env.now.dialect.now) (scope_in c.args.env.now.scope.now) (levels_at c.args.env.now.dialect.now c.args.env.now.depth c.args.outer) c.args.env.now.scope.now.edition G.place (colons_before c.args.env.now.dialect.now (world_under (g.G.FragmentGrammar.answer c.args.env.now.grammar.now) c.args.env.now.scope.now c.args.env.now.dialect.now) (scope_in c.args.env.now.scope.now) (levels_at c.args.env.now.dialect.now c.args.env.now.depth c.args.outer) c.args.outer c.args.env.now.scope.now.edition g.S.EventSink.has_taken
    c.turns.search c.keep_call.new.search c.turns.walk c.keep_call.new.walk G.place G.at plain c.in-BehindColons.call e) G.at (colons_open c.args.env.now.dialect.now (world_under (g.G.FragmentGrammar.answer c.args.env.now.grammar.now) c.args.env.now.scope.now c.args.env.now.dialect.now) (scope_in c.args.env.now.scope.now) (levels_at c.args.env.now.dialect.now c.args.env.now.depth c.args.outer) c.args.outer c.args.env.now.scope.now.edition g.S.EventSink.has_taken
    c.turns.search c.keep_call.new.search c.turns.walk c.keep_call.new.walk G.place G.at plain c.in-BehindColons.call e) (colons_group c.args.env.now.dialect.now (world_under (g.G.FragmentGrammar.answer c.args.env.now.grammar.now) c.args.env.now.scope.now c.args.env.now.dialect.now) (scope_in c.args.env.now.scope.now) (levels_at c.args.env.now.dialect.now c.args.env.now.depth c.args.outer) c.args.outer c.args.env.now.scope.now.edition g.S.EventSink.has_taken
    c.turns.search c.keep_call.new.search c.turns.walk c.keep_call.new.walk G.place G.at plain c.in-BehindColons.call e))).less

pub search_list-turns-preserved-in-BehindColons : goal.search_list-turns-preserved-in-BehindColons
search_list-turns-preserved-in-BehindColons g t c =
    let G = c.turns.invariant in
    let plain = (plain_at c.turns.walk c.turns.search.locals G.place G.at c.args.env.now.dialect.now (c.in_ok-rest.ensures.none c.in_default.is) c.in_default-piece_ahead.ensures.none) in
    let e = (rw c.in-BehindColons.is at c.beginning_of.ensures).1 in
    going_on c.args.env.now.dialect.now (world_under (g.G.FragmentGrammar.answer c.args.env.now.grammar.now) c.args.env.now.scope.now c.args.env.now.dialect.now) (scope_in c.args.env.now.scope.now) (levels_at c.args.env.now.dialect.now c.args.env.now.depth c.args.outer) c.args.outer c.args.env.now.scope.now.edition g.S.EventSink.has_taken
    _ c.args.search.now c.turns.search c.keep_call.new.search c.turns.walk c.keep_call.new.walk G
    (goes_colons c.args.env.now.dialect.now (world_under (g.G.FragmentGrammar.answer c.args.env.now.grammar.now) c.args.env.now.scope.now c.args.env.now.dialect.now) (scope_in c.args.env.now.scope.now) (levels_at c.args.env.now.dialect.now c.args.env.now.depth c.args.outer) c.args.outer c.args.env.now.scope.now.edition g.S.EventSink.has_taken
    c.turns.search c.keep_call.new.search c.turns.walk c.keep_call.new.walk G.place G.at plain c.in-BehindColons.call e
    (c.in_ok-keep_call-in-BehindColons.ensures.turn c.args.env.now.dialect.now (world_under (g.G.FragmentGrammar.answer c.args.env.now.grammar.now) c.args.env.now.scope.now c.args.env.now.dialect.now) (scope_in c.args.env.now.scope.now) (levels_at c.args.env.now.dialect.now c.args.env.now.depth c.args.outer) c.args.env.now.scope.now.edition G.place (colons_before c.args.env.now.dialect.now (world_under (g.G.FragmentGrammar.answer c.args.env.now.grammar.now) c.args.env.now.scope.now c.args.env.now.dialect.now) (scope_in c.args.env.now.scope.now) (levels_at c.args.env.now.dialect.now c.args.env.now.depth c.args.outer) c.args.outer c.args.env.now.scope.now.edition g.S.EventSink.has_taken
    c.turns.search c.keep_call.new.search c.turns.walk c.keep_call.new.walk G.place G.at plain c.in-BehindColons.call e) G.at (colons_open c.args.env.now.dialect.now (world_under (g.G.FragmentGrammar.answer c.args.env.now.grammar.now) c.args.env.now.scope.now c.args.env.now.dialect.now) (scope_in c.args.env.now.scope.now) (levels_at c.args.env.now.dialect.now c.args.env.now.depth c.args.outer) c.args.outer c.args.env.now.scope.now.edition g.S.EventSink.has_taken
    c.turns.search c.keep_call.new.search c.turns.walk c.keep_call.new.walk G.place G.at plain c.in-BehindColons.call e) (colons_group c.args.env.now.dialect.now (world_under (g.G.FragmentGrammar.answer c.args.env.now.grammar.now) c.args.env.now.scope.now c.args.env.now.dialect.now) (scope_in c.args.env.now.scope.now) (levels_at c.args.env.now.dialect.now c.args.env.now.depth c.args.outer) c.args.outer c.args.env.now.scope.now.edition g.S.EventSink.has_taken
    c.turns.search c.keep_call.new.search c.turns.walk c.keep_call.new.walk G.place G.at plain c.in-BehindColons.call e)))

pub search_list-turns-preserved-in-Leaf : goal.search_list-turns-preserved-in-Leaf
search_list-turns-preserved-in-Leaf g t c =
    let G = c.turns.invariant in
    let plain = (plain_at c.turns.walk c.turns.search.locals G.place G.at c.args.env.now.dialect.now (c.in_ok-rest.ensures.none c.in_default.is) c.in_default-piece_ahead.ensures.none) in
    let begins = rw c.in-Leaf.is at c.beginning_of.ensures in
    going_on c.args.env.now.dialect.now (world_under (g.G.FragmentGrammar.answer c.args.env.now.grammar.now) c.args.env.now.scope.now c.args.env.now.dialect.now) (scope_in c.args.env.now.scope.now) (levels_at c.args.env.now.dialect.now c.args.env.now.depth c.args.outer) c.args.outer c.args.env.now.scope.now.edition g.S.EventSink.has_taken
    _ c.args.search.now c.turns.search _ c.turns.walk _ G
    (goes_leaf c.args.env.now.dialect.now (world_under (g.G.FragmentGrammar.answer c.args.env.now.grammar.now) c.args.env.now.scope.now c.args.env.now.dialect.now) (scope_in c.args.env.now.scope.now) (levels_at c.args.env.now.dialect.now c.args.env.now.depth c.args.outer) c.args.outer c.args.env.now.scope.now.edition g.S.EventSink.has_taken
    c.turns.search _ c.turns.walk _ G.place G.at (leaf_lent c.in-Leaf.leaf) plain
    (no_call_at c.turns.walk c.turns.search.locals G.place G.at begins.0 begins.1)
    (sym G.at.here ∙ begins.2 ∙ ap (leaf (leaf_lent c.in-Leaf.leaf)) (sym c.go_on-in-Leaf.ensures.here)) c.go_on-in-Leaf.ensures.groups c.with_leaf-walk.ensures refl refl refl refl
    (adds_just g.S.EventSink.has_taken c.turns.search.out _ c.args.outer (shown_of c.turns.walk.begun (leaf_lent c.in-Leaf.leaf)) c.in_ok-show_leaf-in-Leaf.ensures refl refl))

pub search_list-returns-then-not-branch-2-clause-done : goal.search_list-returns-then-not-branch-2-clause-done
search_list-returns-then-not-branch-2-clause-done g t c = λ so.
    let over : c.in_ok-pass_event-in-Other.field-0 ≡ false = search rules in
    let ended = c.in_ok-pass_event-in-Other.ensures.end over in
    let G = c.turns.invariant in
    let at_end = ended.1 G.place G.at in
    let a = list_under (g.G.FragmentGrammar.answer c.args.env.now.grammar.now) c.args.env.now.scope.now c.args.env.now.dialect.now c.args.env.now.depth c.args.standing c.args.outer c.args.search.now.locals c.args.trees.now in
    subst (λ (s : Search _). Searched g.S.EventSink.has_taken c.args.search.now s a a.outcome.finds) (sym ended.0)
    (going_done c.args.env.now.dialect.now (world_under (g.G.FragmentGrammar.answer c.args.env.now.grammar.now) c.args.env.now.scope.now c.args.env.now.dialect.now) (scope_in c.args.env.now.scope.now) (levels_at c.args.env.now.dialect.now c.args.env.now.depth c.args.outer) c.args.outer c.args.env.now.scope.now.edition g.S.EventSink.has_taken a c.args.search.now c.turns.search c.turns.walk G at_end.0 at_end.1)

pub search_list-returns-then-not-branch-2-clause-read : goal.search_list-returns-then-not-branch-2-clause-read
search_list-returns-then-not-branch-2-clause-read g t c =
    let over : c.in_ok-pass_event-in-Other.field-0 ≡ false = search rules in
    subst (λ (s : Search _). AreReadIn c.args.env.now.scope.now.edition s.locals) (sym (c.in_ok-pass_event-in-Other.ensures.end over).0) c.turns.invariant.read

pub search_list-turns-smaller : goal.search_list-turns-smaller
search_list-turns-smaller g t c =
    let G = c.turns.invariant in
    let more : c.in_ok-pass_event-in-Other.field-0 ≡ true = search rules in
    let begins = rw c.in-Other.is at c.beginning_of.ensures in
    (c.in_ok-pass_event-in-Other.ensures.turn more c.args.env.now.dialect.now (world_under (g.G.FragmentGrammar.answer c.args.env.now.grammar.now) c.args.env.now.scope.now c.args.env.now.dialect.now) (scope_in c.args.env.now.scope.now) (levels_at c.args.env.now.dialect.now c.args.env.now.depth c.args.outer) c.args.env.now.scope.now.edition G.place G.at
    ((plain_at c.turns.walk c.turns.search.locals G.place G.at c.args.env.now.dialect.now (c.in_ok-rest.ensures.none c.in_default.is) c.in_default-piece_ahead.ensures.none), no_call_at c.turns.walk c.turns.search.locals G.place G.at begins.0 begins.1)).less

pub search_list-turns-preserved : goal.search_list-turns-preserved
search_list-turns-preserved g t c =
    let G = c.turns.invariant in
    let more : c.in_ok-pass_event-in-Other.field-0 ≡ true = search rules in
    let begins = rw c.in-Other.is at c.beginning_of.ensures in
    going_on c.args.env.now.dialect.now (world_under (g.G.FragmentGrammar.answer c.args.env.now.grammar.now) c.args.env.now.scope.now c.args.env.now.dialect.now) (scope_in c.args.env.now.scope.now) (levels_at c.args.env.now.dialect.now c.args.env.now.depth c.args.outer) c.args.outer c.args.env.now.scope.now.edition g.S.EventSink.has_taken
    _ c.args.search.now c.turns.search c.pass_event.new.search c.turns.walk c.pass_event.new.walk G
    (c.in_ok-pass_event-in-Other.ensures.turn more c.args.env.now.dialect.now (world_under (g.G.FragmentGrammar.answer c.args.env.now.grammar.now) c.args.env.now.scope.now c.args.env.now.dialect.now) (scope_in c.args.env.now.scope.now) (levels_at c.args.env.now.dialect.now c.args.env.now.depth c.args.outer) c.args.env.now.scope.now.edition G.place G.at
    ((plain_at c.turns.walk c.turns.search.locals G.place G.at c.args.env.now.dialect.now (c.in_ok-rest.ensures.none c.in_default.is) c.in_default-piece_ahead.ensures.none), no_call_at c.turns.walk c.turns.search.locals G.place G.at begins.0 begins.1))

pub expand_call-returns-in_err-tried-clause-tokens : goal.expand_call-returns-in_err-tried-clause-tokens
expand_call-returns-in_err-tried-clause-tokens g t c = λ e p at plain.
    answer_too_many c.args.env.now.dialect.now (world_under (g.G.FragmentGrammar.answer c.args.env.now.grammar.now) c.args.env.now.scope.now c.args.env.now.dialect.now) (scope_in c.args.env.now.scope.now) (levels_at c.args.env.now.dialect.now c.args.env.now.depth c.args.outer) c.args.outer c.args.env.now.scope.now.edition g.S.EventSink.has_taken
    c.args.search.now c.resolve.new.search c.args.walk.now p at plain c.args.call c.requires.call c.resolve.ensures.locals c.resolve.ensures.left c.resolve.ensures.output c.resolve.ensures.faults c.in_ok-known.ensures.finds
    (numbered_of_known c.in-Some.known.value) (rw c.in-Some.is at c.in_ok-known.ensures.found)
    ((rw c.as_ref.ensures at c.in_err-tried.ensures.tokens) c.args.env.now.scope.now.edition (rw c.in-Some.is at c.in_ok-known.ensures.known) (handed c.from_residual-in_err-tried.result _ c.from_residual-in_err-tried.ensures.1 e))
    (apart_at c.args.env.now.dialect.now c.args.outer c.args.search.now.left c.requires.left)

pub expand_call-returns-in_default-tried-clause-turn : goal.expand_call-returns-in_default-tried-clause-turn
expand_call-returns-in_default-tried-clause-turn g t c = λ so p at plain.
    let passed_is : left_behind (limits_for c.args.env.now.dialect.now c.args.outer c.resolve.new.search.left) (trial (world_under (g.G.FragmentGrammar.answer c.args.env.now.grammar.now) c.args.env.now.scope.now c.args.env.now.dialect.now) (numbered_of_known c.in-Some.known.value) c.args.env.now.depth c.args.call.argument) ≡ None = sym ((rw (c.as_ref.ensures, c.in_default-tried.is, c.limits_for-limits.ensures) at c.in_ok-tried.ensures.left) c.args.env.now.scope.now.edition (rw c.in-Some.is at c.in_ok-known.ensures.known)) in
    let outside : is_some c.args.outer ≡ false = c.in_ok-stop_at.ensures.outside so in
    goes_over c.args.env.now.dialect.now (world_under (g.G.FragmentGrammar.answer c.args.env.now.grammar.now) c.args.env.now.scope.now c.args.env.now.dialect.now) (scope_in c.args.env.now.scope.now) (levels_at c.args.env.now.dialect.now c.args.env.now.depth c.args.outer) c.args.outer c.args.env.now.scope.now.edition g.S.EventSink.has_taken
    c.args.search.now c.resolve.new.search c.args.walk.now p at plain c.args.call c.requires.call c.resolve.ensures.locals c.resolve.ensures.left c.resolve.ensures.output c.resolve.ensures.faults c.in_ok-known.ensures.finds
    c.stop_at.new.search c.stop_at.new.walk (numbered_of_known c.in-Some.known.value) (rw c.in-Some.is at c.in_ok-known.ensures.found)
    (ap (λ l. left_behind l (trial (world_under (g.G.FragmentGrammar.answer c.args.env.now.grammar.now) c.args.env.now.scope.now c.args.env.now.dialect.now) (numbered_of_known c.in-Some.known.value) c.args.env.now.depth c.args.call.argument)) (sym (left_outside c.args.env.now.dialect.now c.args.outer c.resolve.new.search.left outside)) ∙ passed_is)
    (λ passed is. (rw c.unwrap_or-at.ensures at c.in_ok-stop_at.ensures.adds) passed is so)
    c.stop_at.ensures.locals c.stop_at.ensures.left c.resolve.ensures.read (c.in_ok-stop_at.ensures.behind so) (apart_at c.args.env.now.dialect.now c.args.outer c.args.search.now.left c.requires.left)

pub expand_call-returns-in_default-tried-clause-stops : goal.expand_call-returns-in_default-tried-clause-stops
expand_call-returns-in_default-tried-clause-stops g t c = λ so p at plain.
    let passed_is : left_behind (limits_for c.args.env.now.dialect.now c.args.outer c.resolve.new.search.left) (trial (world_under (g.G.FragmentGrammar.answer c.args.env.now.grammar.now) c.args.env.now.scope.now c.args.env.now.dialect.now) (numbered_of_known c.in-Some.known.value) c.args.env.now.depth c.args.call.argument) ≡ None = sym ((rw (c.as_ref.ensures, c.in_default-tried.is, c.limits_for-limits.ensures) at c.in_ok-tried.ensures.left) c.args.env.now.scope.now.edition (rw c.in-Some.is at c.in_ok-known.ensures.known)) in
    let inside = c.in_ok-stop_at.ensures.inside so in
    let own : limits_at c.args.env.now.dialect.now c.args.outer ≡ None = none_inside c.args.env.now.dialect.now c.args.outer inside.0 in
    stops_over c.args.env.now.dialect.now (world_under (g.G.FragmentGrammar.answer c.args.env.now.grammar.now) c.args.env.now.scope.now c.args.env.now.dialect.now) (scope_in c.args.env.now.scope.now) (levels_at c.args.env.now.dialect.now c.args.env.now.depth c.args.outer) c.args.outer c.args.env.now.scope.now.edition g.S.EventSink.has_taken
    c.args.search.now c.resolve.new.search c.args.walk.now p at plain c.args.call c.requires.call c.resolve.ensures.locals c.resolve.ensures.left c.resolve.ensures.output c.resolve.ensures.faults c.in_ok-known.ensures.finds
    c.stop_at.new.search (numbered_of_known c.in-Some.known.value) (rw c.in-Some.is at c.in_ok-known.ensures.found)
    (ap (λ l. left_behind l (trial (world_under (g.G.FragmentGrammar.answer c.args.env.now.grammar.now) c.args.env.now.scope.now c.args.env.now.dialect.now) (numbered_of_known c.in-Some.known.value) c.args.env.now.depth c.args.call.argument)) (sym (left_inside c.args.env.now.dialect.now c.args.outer c.resolve.new.search.left (λ e. c.resolve.ensures.left ∙ c.requires.left e) own)) ∙ passed_is) own inside.1

pub expand_call-returns-in_default-tried-clause-read : goal.expand_call-returns-in_default-tried-clause-read
expand_call-returns-in_default-tried-clause-read g t c = λ so.
    subst (AreReadIn c.args.env.now.scope.now.edition) (sym c.stop_at.ensures.locals) c.resolve.ensures.read

pub expand_call-returns-in_err-replace-in-Ok-clause-tokens : goal.expand_call-returns-in_err-replace-in-Ok-clause-tokens
expand_call-returns-in_err-replace-in-Ok-clause-tokens g t c = λ e p at plain.
    let says : answer (world_under (g.G.FragmentGrammar.answer c.args.env.now.grammar.now) c.args.env.now.scope.now c.args.env.now.dialect.now) (numbered_of_known c.in-Some.known.value) c.args.env.now.depth c.args.call.argument ≡ Ok c.in-Ok.given.inner = sym ((rw (c.as_ref.ensures, c.in-Some-tried.is, c.in-Ok.is) at c.in_ok-tried.ensures.given) c.args.env.now.scope.now.edition (rw c.in-Some.is at c.in_ok-known.ensures.known)) in
    let counted : Spends (limits_for c.args.env.now.dialect.now c.args.outer c.resolve.new.search.left) c.in-Some-tried.field-0.left (sized 1 (put_by (world_under (g.G.FragmentGrammar.answer c.args.env.now.grammar.now) c.args.env.now.scope.now c.args.env.now.dialect.now) (numbered_of_known c.in-Some.known.value) c.args.call.argument)) =
    spent_at (world_under (g.G.FragmentGrammar.answer c.args.env.now.grammar.now) c.args.env.now.scope.now c.args.env.now.dialect.now) (numbered_of_known c.in-Some.known.value) c.args.env.now.depth c.args.call.argument c.in-Ok.given.inner (limits_for c.args.env.now.dialect.now c.args.outer c.resolve.new.search.left) c.in-Some-tried.field-0.left says ((rw (c.as_ref.ensures, c.in-Some-tried.is, c.limits_for-limits.ensures) at c.in_ok-tried.ensures.left) c.args.env.now.scope.now.edition (rw c.in-Some.is at c.in_ok-known.ensures.known)) in
    let much = (rw c.unwrap_or-at.ensures at c.in_err-replace-in-Ok.ensures.tokens) (put_by (world_under (g.G.FragmentGrammar.answer c.args.env.now.grammar.now) c.args.env.now.scope.now c.args.env.now.dialect.now) (numbered_of_known c.in-Some.known.value) c.args.call.argument) counted (handed c.from_residual-in_err-replace-in-Ok.result _ c.from_residual-in_err-replace-in-Ok.ensures.1 e) in
    result_too_many c.args.env.now.dialect.now (world_under (g.G.FragmentGrammar.answer c.args.env.now.grammar.now) c.args.env.now.scope.now c.args.env.now.dialect.now) (scope_in c.args.env.now.scope.now) (levels_at c.args.env.now.dialect.now c.args.env.now.depth c.args.outer) c.args.outer c.args.env.now.scope.now.edition g.S.EventSink.has_taken
    c.args.search.now c.resolve.new.search c.args.walk.now p at plain c.args.call c.requires.call c.resolve.ensures.locals c.resolve.ensures.left c.resolve.ensures.output c.resolve.ensures.faults c.in_ok-known.ensures.finds
    (numbered_of_known c.in-Some.known.value) (rw c.in-Some.is at c.in_ok-known.ensures.found) c.in-Ok.given.inner says
    (apart_at c.args.env.now.dialect.now c.args.outer c.args.search.now.left c.requires.left) much.0 much.1.0 much.1.1

pub expand_call-returns-then-not-branch-clause-turn : goal.expand_call-returns-then-not-branch-clause-turn
expand_call-returns-then-not-branch-clause-turn g t c = λ so p at plain.
    let says : answer (world_under (g.G.FragmentGrammar.answer c.args.env.now.grammar.now) c.args.env.now.scope.now c.args.env.now.dialect.now) (numbered_of_known c.in-Some.known.value) c.args.env.now.depth c.args.call.argument ≡ Ok c.in-Ok.given.inner = sym ((rw (c.as_ref.ensures, c.in-Some-tried.is, c.in-Ok.is) at c.in_ok-tried.ensures.given) c.args.env.now.scope.now.edition (rw c.in-Some.is at c.in_ok-known.ensures.known)) in
    let counted : Spends (limits_for c.args.env.now.dialect.now c.args.outer c.resolve.new.search.left) c.in-Some-tried.field-0.left (sized 1 (put_by (world_under (g.G.FragmentGrammar.answer c.args.env.now.grammar.now) c.args.env.now.scope.now c.args.env.now.dialect.now) (numbered_of_known c.in-Some.known.value) c.args.call.argument)) =
    spent_at (world_under (g.G.FragmentGrammar.answer c.args.env.now.grammar.now) c.args.env.now.scope.now c.args.env.now.dialect.now) (numbered_of_known c.in-Some.known.value) c.args.env.now.depth c.args.call.argument c.in-Ok.given.inner (limits_for c.args.env.now.dialect.now c.args.outer c.resolve.new.search.left) c.in-Some-tried.field-0.left says ((rw (c.as_ref.ensures, c.in-Some-tried.is, c.limits_for-limits.ensures) at c.in_ok-tried.ensures.left) c.args.env.now.scope.now.edition (rw c.in-Some.is at c.in_ok-known.ensures.known)) in
    let over : c.in_ok-replace-in-Ok.field-0 ≡ false = search rules in
    let outside : is_some c.args.outer ≡ false = c.in_ok-stop_at-in-Ok.ensures.outside so in
    let taken = (rw c.unwrap_or-at.ensures at c.in_ok-replace-in-Ok.ensures.back) (put_by (world_under (g.G.FragmentGrammar.answer c.args.env.now.grammar.now) c.args.env.now.scope.now c.args.env.now.dialect.now) (numbered_of_known c.in-Some.known.value) c.args.call.argument) counted over outside in
    goes_large c.args.env.now.dialect.now (world_under (g.G.FragmentGrammar.answer c.args.env.now.grammar.now) c.args.env.now.scope.now c.args.env.now.dialect.now) (scope_in c.args.env.now.scope.now) (levels_at c.args.env.now.dialect.now c.args.env.now.depth c.args.outer) c.args.outer c.args.env.now.scope.now.edition g.S.EventSink.has_taken
    c.args.search.now c.resolve.new.search c.args.walk.now p at plain c.args.call c.requires.call c.resolve.ensures.locals c.resolve.ensures.left c.resolve.ensures.output c.resolve.ensures.faults c.in_ok-known.ensures.finds
    c.replace.new.search c.stop_at-then-not-branch.new.search c.stop_at-then-not-branch.new.walk (numbered_of_known c.in-Some.known.value) (rw c.in-Some.is at c.in_ok-known.ensures.found) (Some c.in-Ok.given.inner) (tried_ok (numbered_of_known c.in-Some.known.value) (world_under (g.G.FragmentGrammar.answer c.args.env.now.grammar.now) c.args.env.now.scope.now c.args.env.now.dialect.now) c.args.env.now.depth c.args.call.argument c.in-Ok.given.inner says) taken
    (λ passed is. (rw c.unwrap_or-at.ensures at c.in_ok-stop_at-in-Ok.ensures.adds) passed is so)
    c.stop_at-then-not-branch.ensures.locals c.stop_at-then-not-branch.ensures.left c.in_ok-replace-in-Ok.ensures.read (c.in_ok-stop_at-in-Ok.ensures.behind so)
    (apart_at c.args.env.now.dialect.now c.args.outer c.args.search.now.left c.requires.left) (limited_by (limits_at c.args.env.now.dialect.now c.args.outer) _ taken.passed taken.is)

pub expand_call-returns-then-not-branch-clause-stops : goal.expand_call-returns-then-not-branch-clause-stops
expand_call-returns-then-not-branch-clause-stops g t c = λ so p at plain.
    let says : answer (world_under (g.G.FragmentGrammar.answer c.args.env.now.grammar.now) c.args.env.now.scope.now c.args.env.now.dialect.now) (numbered_of_known c.in-Some.known.value) c.args.env.now.depth c.args.call.argument ≡ Ok c.in-Ok.given.inner = sym ((rw (c.as_ref.ensures, c.in-Some-tried.is, c.in-Ok.is) at c.in_ok-tried.ensures.given) c.args.env.now.scope.now.edition (rw c.in-Some.is at c.in_ok-known.ensures.known)) in
    let counted : Spends (limits_for c.args.env.now.dialect.now c.args.outer c.resolve.new.search.left) c.in-Some-tried.field-0.left (sized 1 (put_by (world_under (g.G.FragmentGrammar.answer c.args.env.now.grammar.now) c.args.env.now.scope.now c.args.env.now.dialect.now) (numbered_of_known c.in-Some.known.value) c.args.call.argument)) =
    spent_at (world_under (g.G.FragmentGrammar.answer c.args.env.now.grammar.now) c.args.env.now.scope.now c.args.env.now.dialect.now) (numbered_of_known c.in-Some.known.value) c.args.env.now.depth c.args.call.argument c.in-Ok.given.inner (limits_for c.args.env.now.dialect.now c.args.outer c.resolve.new.search.left) c.in-Some-tried.field-0.left says ((rw (c.as_ref.ensures, c.in-Some-tried.is, c.limits_for-limits.ensures) at c.in_ok-tried.ensures.left) c.args.env.now.scope.now.edition (rw c.in-Some.is at c.in_ok-known.ensures.known)) in
    let over : c.in_ok-replace-in-Ok.field-0 ≡ false = search rules in
    let inside = c.in_ok-stop_at-in-Ok.ensures.inside so in
    subst (λ (s : Search _). Stops g.S.EventSink.has_taken c.args.search.now s (left_under (g.G.FragmentGrammar.answer c.args.env.now.grammar.now) c.args.env.now.scope.now c.args.env.now.dialect.now c.args.env.now.depth c.args.outer p).0.finds) (sym inside.1)
    (stops_comes c.args.env.now.dialect.now (world_under (g.G.FragmentGrammar.answer c.args.env.now.grammar.now) c.args.env.now.scope.now c.args.env.now.dialect.now) (scope_in c.args.env.now.scope.now) (levels_at c.args.env.now.dialect.now c.args.env.now.depth c.args.outer) c.args.outer c.args.env.now.scope.now.edition g.S.EventSink.has_taken
    c.args.search.now c.resolve.new.search c.args.walk.now p at plain c.args.call c.requires.call c.resolve.ensures.locals c.resolve.ensures.left c.resolve.ensures.output c.resolve.ensures.faults c.in_ok-known.ensures.finds
    c.replace.new.search (numbered_of_known c.in-Some.known.value) (rw c.in-Some.is at c.in_ok-known.ensures.found) (Some c.in-Ok.given.inner) (tried_ok (numbered_of_known c.in-Some.known.value) (world_under (g.G.FragmentGrammar.answer c.args.env.now.grammar.now) c.args.env.now.scope.now c.args.env.now.dialect.now) c.args.env.now.depth c.args.call.argument c.in-Ok.given.inner says)
    (none_inside c.args.env.now.dialect.now c.args.outer inside.0)
    ((rw c.unwrap_or-at.ensures at c.in_ok-replace-in-Ok.ensures.stops) (put_by (world_under (g.G.FragmentGrammar.answer c.args.env.now.grammar.now) c.args.env.now.scope.now c.args.env.now.dialect.now) (numbered_of_known c.in-Some.known.value) c.args.call.argument) counted over inside.0))

pub expand_call-returns-then-not-branch-clause-read : goal.expand_call-returns-then-not-branch-clause-read
expand_call-returns-then-not-branch-clause-read g t c = λ so.
    subst (AreReadIn c.args.env.now.scope.now.edition) (sym c.stop_at-then-not-branch.ensures.locals) c.in_ok-replace-in-Ok.ensures.read

pub expand_call-returns-in-Ok-clause-turn : goal.expand_call-returns-in-Ok-clause-turn
expand_call-returns-in-Ok-clause-turn g t c = λ so p at plain.
    let says : answer (world_under (g.G.FragmentGrammar.answer c.args.env.now.grammar.now) c.args.env.now.scope.now c.args.env.now.dialect.now) (numbered_of_known c.in-Some.known.value) c.args.env.now.depth c.args.call.argument ≡ Ok c.in-Ok.given.inner = sym ((rw (c.as_ref.ensures, c.in-Some-tried.is, c.in-Ok.is) at c.in_ok-tried.ensures.given) c.args.env.now.scope.now.edition (rw c.in-Some.is at c.in_ok-known.ensures.known)) in
    let counted : Spends (limits_for c.args.env.now.dialect.now c.args.outer c.resolve.new.search.left) c.in-Some-tried.field-0.left (sized 1 (put_by (world_under (g.G.FragmentGrammar.answer c.args.env.now.grammar.now) c.args.env.now.scope.now c.args.env.now.dialect.now) (numbered_of_known c.in-Some.known.value) c.args.call.argument)) =
    spent_at (world_under (g.G.FragmentGrammar.answer c.args.env.now.grammar.now) c.args.env.now.scope.now c.args.env.now.dialect.now) (numbered_of_known c.in-Some.known.value) c.args.env.now.depth c.args.call.argument c.in-Ok.given.inner (limits_for c.args.env.now.dialect.now c.args.outer c.resolve.new.search.left) c.in-Some-tried.field-0.left says ((rw (c.as_ref.ensures, c.in-Some-tried.is, c.limits_for-limits.ensures) at c.in_ok-tried.ensures.left) c.args.env.now.scope.now.edition (rw c.in-Some.is at c.in_ok-known.ensures.known)) in
    let done : c.in_ok-replace-in-Ok.field-0 ≡ true = search rules in
    goes_comes c.args.env.now.dialect.now (world_under (g.G.FragmentGrammar.answer c.args.env.now.grammar.now) c.args.env.now.scope.now c.args.env.now.dialect.now) (scope_in c.args.env.now.scope.now) (levels_at c.args.env.now.dialect.now c.args.env.now.depth c.args.outer) c.args.outer c.args.env.now.scope.now.edition g.S.EventSink.has_taken
    c.args.search.now c.resolve.new.search c.args.walk.now p at plain c.args.call c.requires.call c.resolve.ensures.locals c.resolve.ensures.left c.resolve.ensures.output c.resolve.ensures.faults c.in_ok-known.ensures.finds
    c.replace.new.search c.pass_call.new.walk (numbered_of_known c.in-Some.known.value) (rw c.in-Some.is at c.in_ok-known.ensures.found) c.in-Ok.given.inner says
    (apart_at c.args.env.now.dialect.now c.args.outer c.args.search.now.left c.requires.left)
    ((rw c.unwrap_or-at.ensures at c.in_ok-replace-in-Ok.ensures.done) (put_by (world_under (g.G.FragmentGrammar.answer c.args.env.now.grammar.now) c.args.env.now.scope.now c.args.env.now.dialect.now) (numbered_of_known c.in-Some.known.value) c.args.call.argument) counted done)
    ((rw c.unwrap_or-at.ensures at c.in_ok-replace-in-Ok.ensures.fits) (put_by (world_under (g.G.FragmentGrammar.answer c.args.env.now.grammar.now) c.args.env.now.scope.now c.args.env.now.dialect.now) (numbered_of_known c.in-Some.known.value) c.args.call.argument) counted done)
    c.in_ok-replace-in-Ok.ensures.read c.pass_call.ensures

pub expand_call-returns-clause-turn : goal.expand_call-returns-clause-turn
expand_call-returns-clause-turn g t c = λ so p at plain.
    let says : answer (world_under (g.G.FragmentGrammar.answer c.args.env.now.grammar.now) c.args.env.now.scope.now c.args.env.now.dialect.now) (numbered_of_known c.in-Some.known.value) c.args.env.now.depth c.args.call.argument ≡ Err c.in-Err.kind = sym ((rw (c.as_ref.ensures, c.in-Some-tried.is, c.in-Err.is) at c.in_ok-tried.ensures.given) c.args.env.now.scope.now.edition (rw c.in-Some.is at c.in_ok-known.ensures.known)) in
    let left_is : Spends (limits_for c.args.env.now.dialect.now c.args.outer c.resolve.new.search.left) c.in-Some-tried.field-0.left (trial (world_under (g.G.FragmentGrammar.answer c.args.env.now.grammar.now) c.args.env.now.scope.now c.args.env.now.dialect.now) (numbered_of_known c.in-Some.known.value) c.args.env.now.depth c.args.call.argument) = sym ((rw (c.as_ref.ensures, c.in-Some-tried.is, c.limits_for-limits.ensures) at c.in_ok-tried.ensures.left) c.args.env.now.scope.now.edition (rw c.in-Some.is at c.in_ok-known.ensures.known)) in
    let charged : Charged (limits_at c.args.env.now.dialect.now c.args.outer) c.resolve.new.search.left (left_within c.args.outer c.in-Some-tried.field-0.left) (trial (world_under (g.G.FragmentGrammar.answer c.args.env.now.grammar.now) c.args.env.now.scope.now c.args.env.now.dialect.now) (numbered_of_known c.in-Some.known.value) c.args.env.now.depth c.args.call.argument) =
    charged_at c.args.env.now.dialect.now c.args.outer c.resolve.new.search.left c.in-Some-tried.field-0.left (trial (world_under (g.G.FragmentGrammar.answer c.args.env.now.grammar.now) c.args.env.now.scope.now c.args.env.now.dialect.now) (numbered_of_known c.in-Some.known.value) c.args.env.now.depth c.args.call.argument) (λ e. c.resolve.ensures.left ∙ c.requires.left e) left_is in
    goes_stays c.args.env.now.dialect.now (world_under (g.G.FragmentGrammar.answer c.args.env.now.grammar.now) c.args.env.now.scope.now c.args.env.now.dialect.now) (scope_in c.args.env.now.scope.now) (levels_at c.args.env.now.dialect.now c.args.env.now.depth c.args.outer) c.args.outer c.args.env.now.scope.now.edition g.S.EventSink.has_taken
    c.args.search.now c.resolve.new.search c.args.walk.now p at plain c.args.call c.requires.call c.resolve.ensures.locals c.resolve.ensures.left c.resolve.ensures.output c.resolve.ensures.faults c.in_ok-known.ensures.finds
    c.stay.new.search c.stay.new.walk (numbered_of_known c.in-Some.known.value) (rw c.in-Some.is at c.in_ok-known.ensures.found) c.in-Err.kind says
    (subst (λ l. Charged (limits_at c.args.env.now.dialect.now c.args.outer) c.resolve.new.search.left l (trial (world_under (g.G.FragmentGrammar.answer c.args.env.now.grammar.now) c.args.env.now.scope.now c.args.env.now.dialect.now) (numbered_of_known c.in-Some.known.value) c.args.env.now.depth c.args.call.argument)) (sym (c.stay.ensures.left ∙ c.left_within-search.ensures)) charged)
    c.told_of-told.result (rw c.unwrap_or-at.ensures at c.told_of-told.ensures)
    (λ passed is. c.in_ok-stay-in-Err.ensures.adds passed is)
    c.stay.ensures.locals c.in_ok-stay-in-Err.ensures.behind

pub replace-returns-then-is_none-clause-tokens : goal.replace-returns-then-is_none-clause-tokens
replace-returns-then-is_none-clause-tokens g t c = λ n counted e.
    let a = result_under (g.G.FragmentGrammar.answer c.args.env.now.grammar.now) c.args.env.now.scope.now c.args.env.now.dialect.now c.args.env.now.depth c.args.standing c.args.at c.args.search.now.locals c.args.made.now.given.inner in
    let none : c.limits_at-limits.result ≡ None = no_limits c.limits_at-limits.result (c.is_none.ensures ∙ ap not c.if-is_none.true) in
    let own : limits_at c.args.env.now.dialect.now c.args.outer ≡ None = sym c.limits_at-limits.ensures ∙ none in
    let spent : Spends c.args.search.now.left c.args.made.now.left (sized 1 n) =
    subst (λ l. Spends l c.args.made.now.left (sized 1 n)) (left_inside c.args.env.now.dialect.now c.args.outer c.args.search.now.left c.requires.left own) counted in
    let much = bursts_in_more g.S.EventSink.has_taken c.args.search.now (with_left c.args.search.now c.args.made.now.left) c.search_result.new.search 1 n spent refl refl a.outcome (c.search_result.ensures.tokens e) in
    (much.0, (much.1, subst (λ l. BurstsFirst l (notes_with n a.outcome.finds)) (sym own) (bursts_none (notes_with n a.outcome.finds))))

pub replace-returns-in_err-done-clause-tokens : goal.replace-returns-in_err-done-clause-tokens
replace-returns-in_err-done-clause-tokens g t c = λ n counted e.
    let a = result_under (g.G.FragmentGrammar.answer c.args.env.now.grammar.now) c.args.env.now.scope.now c.args.env.now.dialect.now c.args.env.now.depth c.args.standing c.args.at c.args.search.now.locals c.args.made.now.given.inner in
    let some : is_some c.limits_at-limits.result ≡ true = c.is_none.ensures ∙ ap not c.if-is_none.false in
    let outside : c.args.outer ≡ None = limits_outside c.args.env.now.dialect.now c.args.outer (ap is_some (sym c.limits_at-limits.ensures) ∙ some) in
    let spent : Spends (limits_at c.args.env.now.dialect.now c.args.outer) c.args.made.now.left (sized 1 n) =
    subst (λ l. Spends l c.args.made.now.left (sized 1 n)) (left_outside c.args.env.now.dialect.now c.args.outer c.args.search.now.left (ap is_some outside)) counted in
    let much = c.in_err-done.ensures.tokens (handed c.from_residual.result _ c.from_residual.ensures.1 e) in (
      much.0,
      (
        subst (λ l. BurstsFirst l (notes_with n a.outcome.finds)) (sym (c.requires.left outside)) (bursts_none (notes_with n a.outcome.finds)),
        bursts_more (limits_at c.args.env.now.dialect.now c.args.outer) c.args.made.now.left (sized 1 n) a.outcome.finds spent much.1,
      ),
    )

pub replace-returns-then-not-done-clause-read : goal.replace-returns-then-not-done-clause-read
replace-returns-then-not-done-clause-read g t c = c.take_back.ensures.read c.args.env.now.scope.now.edition c.in_ok-done.ensures.read

pub replace-returns-else-not-done-clause-fits : goal.replace-returns-else-not-done-clause-fits
replace-returns-else-not-done-clause-fits g t c = λ n counted so.
    let all = c.in_ok-done.ensures.done so in
    let a = result_under (g.G.FragmentGrammar.answer c.args.env.now.grammar.now) c.args.env.now.scope.now c.args.env.now.dialect.now c.args.env.now.depth c.args.standing c.args.at c.args.search.now.locals c.args.made.now.given.inner in
    let some : is_some c.limits_at-limits.result ≡ true = c.is_none.ensures ∙ ap not c.if-is_none.false in
    let outside : c.args.outer ≡ None = limits_outside c.args.env.now.dialect.now c.args.outer (ap is_some (sym c.limits_at-limits.ensures) ∙ some) in
    let spent : Spends (limits_at c.args.env.now.dialect.now c.args.outer) c.args.made.now.left (sized 1 n) =
    subst (λ l. Spends l c.args.made.now.left (sized 1 n)) (left_outside c.args.env.now.dialect.now c.args.outer c.args.search.now.left (ap is_some outside)) counted in
    fits_own (limits_at c.args.env.now.dialect.now c.args.outer) c.args.made.now.left _ 1 n a.outcome.finds spent all.spends

pub search_result-returns-clause-done : goal.search_result-returns-clause-done
search_result-returns-clause-done g t c =
    let trees : c.iter.result ≡ c.args.made.now.given.inner = c.iter.ensures ∙ c.token_trees-trees.ensures in
    let mid : Search _ = with_left c.args.search.now c.args.made.now.left in
    subst (λ f. IfOk c.search_list.result (λ done. done ≡ true → (let b = list_under (g.G.FragmentGrammar.answer c.args.env.now.grammar.now) c.args.env.now.scope.now c.args.env.now.dialect.now (c.args.env.now.depth - 1) c.args.standing (Some c.args.at) c.args.search.now.locals f in
    Searched g.S.EventSink.has_taken mid c.search_list.new.search b b.outcome.finds))) trees
    (subst (λ env. IfOk c.search_list.result (λ done. done ≡ true → (let b = list_under (g.G.FragmentGrammar.answer env.grammar.now) env.scope.now env.dialect.now env.depth c.args.standing (Some c.args.at) c.args.search.now.locals c.iter.result in
    Searched g.S.EventSink.has_taken mid c.search_list.new.search b b.outcome.finds))) c.deeper.ensures c.search_list.ensures.done)

pub search_result-returns-clause-stops : goal.search_result-returns-clause-stops
search_result-returns-clause-stops g t c =
    let trees : c.iter.result ≡ c.args.made.now.given.inner = c.iter.ensures ∙ c.token_trees-trees.ensures in
    let mid : Search _ = with_left c.args.search.now c.args.made.now.left in
    subst (λ f. IfOk c.search_list.result (λ done. done ≡ false → Stops g.S.EventSink.has_taken mid c.search_list.new.search
    (list_under (g.G.FragmentGrammar.answer c.args.env.now.grammar.now) c.args.env.now.scope.now c.args.env.now.dialect.now (c.args.env.now.depth - 1) c.args.standing (Some c.args.at) c.args.search.now.locals f).outcome.finds)) trees
    (subst (λ env. IfOk c.search_list.result (λ done. done ≡ false → Stops g.S.EventSink.has_taken mid c.search_list.new.search
    (list_under (g.G.FragmentGrammar.answer env.grammar.now) env.scope.now env.dialect.now env.depth c.args.standing (Some c.args.at) c.args.search.now.locals c.iter.result).outcome.finds)) c.deeper.ensures c.search_list.ensures.stops)

pub search_result-returns-clause-read : goal.search_result-returns-clause-read
search_result-returns-clause-read g t c =
    subst (λ env. OnOk c.search_list.result (AreReadIn env.scope.now.edition c.search_list.new.search.locals)) c.deeper.ensures c.search_list.ensures.read

pub search_result-returns-clause-tokens : goal.search_result-returns-clause-tokens
search_result-returns-clause-tokens g t c = λ e.
    let trees : c.iter.result ≡ c.args.made.now.given.inner = c.iter.ensures ∙ c.token_trees-trees.ensures in
    subst (λ f. BurstsIn c.args.made.now.left
    (list_under (g.G.FragmentGrammar.answer c.args.env.now.grammar.now) c.args.env.now.scope.now c.args.env.now.dialect.now (c.args.env.now.depth - 1) c.args.standing (Some c.args.at) c.args.search.now.locals f).outcome) trees
    (subst (λ env. BurstsIn c.args.made.now.left
    (list_under (g.G.FragmentGrammar.answer env.grammar.now) env.scope.now env.dialect.now env.depth c.args.standing (Some c.args.at) c.args.search.now.locals c.iter.result).outcome) c.deeper.ensures (c.search_list.ensures.tokens e))
