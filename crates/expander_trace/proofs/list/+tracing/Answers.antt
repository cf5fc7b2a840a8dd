use Rattle.std.proofs.Common.{if◌then◌else◌, ◌≡◌, ◌≤◌, ◌+◌, ◌-◌, ◌∙◌, false, refl, rules, subst, sym, true}
use Rattle.std.specs.Prelude.{None}
use Rattle.std.proofs.lemmas.Result.{IfOk-weaker}
use Rattle.tt.proofs.Steps.{joined-left}
use Rattle.tt_data.specs.Lent.{leaf_lent}
use Rattle.expander_scope.specs.Outcomes.{numbered_of_known}
use Rattle.expander_trace.specs.Parts.{cut_off, may_define, part_of}
use Rattle.expander_trace.specs.Passing.{IsAdded, by_table, steps_under}
use Rattle.expander_trace.specs.declared.limits.Cut.TheVariants as cuts
use Rattle.expander_trace.proofs.CallStepLemmas.{adds_gives, adds_large, adds_stays, are_steps, at_most, gives_from, is_less, not_less, passes_full, passes_known, passes_unasked, passes_unknown, stays_from}
use Rattle.expander_trace.proofs.WalkLemmas.{call_less, colons_less, goes_call, goes_colons, goes_cut, goes_done, goes_first, goes_leaf, goes_step, leaf_less, step_less}
use Rattle.expander_trace.proofs.list.+tracing.Goals as goal

pub trace_call-returns-then-not-is_asked-clause-passes : goal.trace_call-returns-then-not-is_asked-clause-passes
trace_call-returns-then-not-is_asked-clause-passes g t c =
    let says : c.is_asked.result ≡ false = search rules in
    passes_unasked (g.G.FragmentGrammar.answer c.args.by.now.grammar.now) c.args.by.now.scope.now c.args.by.now.depth c.args.by.now.level c.args.at c.args.by.now.rules
    c.args.trees.now c.args.call c.requires.call c.args.trace.now (λ place more e. sym says ∙ c.is_asked.ensures place more e)

pub trace_call-returns-then-trace-eq0-clause-passes : goal.trace_call-returns-then-trace-eq0-clause-passes
trace_call-returns-then-trace-eq0-clause-passes g t c =
    let says : c.is_asked.result ≡ true = search rules in
    passes_full (g.G.FragmentGrammar.answer c.args.by.now.grammar.now) c.args.by.now.scope.now c.args.by.now.depth c.args.by.now.level c.args.at c.args.by.now.rules
    c.args.trees.now c.args.call c.requires.call c.args.trace.now _ (λ place more e. sym says ∙ c.is_asked.ensures place more e) c.requires.going (search rules) refl refl refl

pub trace_call-returns-in_default-clause-passes : goal.trace_call-returns-in_default-clause-passes
trace_call-returns-in_default-clause-passes g t c =
    let says : c.is_asked.result ≡ true = search rules in
    passes_unknown (g.G.FragmentGrammar.answer c.args.by.now.grammar.now) c.args.by.now.scope.now c.args.by.now.depth c.args.by.now.level c.args.at c.args.by.now.rules
    c.args.trees.now c.args.call c.requires.call c.args.trace.now c.push.new.trace c.in_ok-key.key (λ place more e. sym says ∙ c.is_asked.ensures place more e) c.requires.going (search rules)
    c.in_ok-key.ensures.key (rw c.in_default.is at c.in_ok-known.ensures.found) c.in_ok-push.ensures.steps c.in_ok-push.ensures.left c.in_ok-push.ensures.cut

pub trace_known-returns-in_default-clause-adds : goal.trace_known-returns-in_default-clause-adds
trace_known-returns-in_default-clause-adds g t c = λ whole is.
    let fits = (rw (c.as_ref.ensures, c.in_default.is) at c.in_ok-tried.ensures.fits) c.args.by.now.scope.now.edition c.requires.rules in
    adds_large (g.G.FragmentGrammar.answer c.args.by.now.grammar.now) c.args.by.now.scope.now c.args.by.now.depth c.args.by.now.level c.args.by.now.rules c.args.call.now.name.span c.args.key
    whole c.args.call.now.argument (numbered_of_known c.args.known.value) c.args.trace.now c.requires.going c.requires.steps _ (is_less _ fits) refl refl refl

pub trace_known-push-requires-clause-spent : goal.trace_known-push-requires-clause-spent
trace_known-push-requires-clause-spent g t c =
    let d = numbered_of_known c.args.known.value in
    let fits = (rw (c.as_ref.ensures, c.in-Some.is) at c.in_ok-tried.ensures.fits) c.args.by.now.scope.now.edition c.requires.rules in
    let cost = (rw (c.as_ref.ensures, c.in-Some.is) at c.in_ok-tried.ensures.spent) c.args.by.now.scope.now.edition c.requires.rules in
    subst (λ n. n ≤ c.args.trace.now.room.left.tokens) (sym cost) (at_most c.args.trace.now.room.left.tokens _ (not_less _ fits))

pub trace_known-returns-in-None-clause-adds : goal.trace_known-returns-in-None-clause-adds
trace_known-returns-in-None-clause-adds g t c = λ whole is.
    let d = numbered_of_known c.args.known.value in
    let by = by_table (g.G.FragmentGrammar.answer c.args.by.now.grammar.now) c.args.by.now.scope.now in
    let fits = (rw (c.as_ref.ensures, c.in-Some.is) at c.in_ok-tried.ensures.fits) c.args.by.now.scope.now.edition c.requires.rules in
    let cost = (rw (c.as_ref.ensures, c.in-Some.is) at c.in_ok-tried.ensures.spent) c.args.by.now.scope.now.edition c.requires.rules in
    let gave = (rw (c.as_ref.ensures, c.in-Some.is) at c.in_ok-tried.ensures.given) c.args.by.now.scope.now.edition c.requires.rules in
    let same : c.in_ok-call_tree.field-0.inner ≡ whole = joined-left _ whole c.args.call.now.rest (sym c.in_ok-call_tree.ensures.tree ∙ is) in
    let stays = stays_from c.in-Some.field-0.given (rw c.in-None.is at c.in_ok-tree.ensures) in
    adds_stays (g.G.FragmentGrammar.answer c.args.by.now.grammar.now) c.args.by.now.scope.now c.args.by.now.depth c.args.by.now.level c.args.by.now.rules c.args.call.now.name.span c.args.key
    whole c.args.call.now.argument d c.args.trace.now c.requires.going c.requires.steps (not_less _ fits) c.push.new.trace _
    (λ i. record { definition = d; call = same i; tokens = cost i; given = gave i }) c.in_ok-push.ensures.steps
    (c.in_ok-push.ensures.left ∙ (λ i. record { steps = c.args.trace.now.room.left.steps - 1; tokens = c.args.trace.now.room.left.tokens - cost i })) c.in_ok-push.ensures.cut
    stays.0 (sym gave ∙ stays.1)

pub trace_known-returns-in-Some-tree-clause-adds : goal.trace_known-returns-in-Some-tree-clause-adds
trace_known-returns-in-Some-tree-clause-adds g t c = λ whole is.
    let d = numbered_of_known c.args.known.value in
    let by = by_table (g.G.FragmentGrammar.answer c.args.by.now.grammar.now) c.args.by.now.scope.now in
    let fits = (rw (c.as_ref.ensures, c.in-Some.is) at c.in_ok-tried.ensures.fits) c.args.by.now.scope.now.edition c.requires.rules in
    let cost = (rw (c.as_ref.ensures, c.in-Some.is) at c.in_ok-tried.ensures.spent) c.args.by.now.scope.now.edition c.requires.rules in
    let gave = (rw (c.as_ref.ensures, c.in-Some.is) at c.in_ok-tried.ensures.given) c.args.by.now.scope.now.edition c.requires.rules in
    let same : c.in_ok-call_tree.field-0.inner ≡ whole = joined-left _ whole c.args.call.now.rest (sym c.in_ok-call_tree.ensures.tree ∙ is) in
    let gives = gives_from c.in-Some.field-0.given _ (rw c.in-Some-tree.is at c.in_ok-tree.ensures) in
    IfOk-weaker c.trace_given.result _ _
    (λ u h. adds_gives (g.G.FragmentGrammar.answer c.args.by.now.grammar.now) c.args.by.now.scope.now c.args.by.now.depth c.args.by.now.level c.args.by.now.rules c.args.call.now.name.span c.args.key
    whole c.args.call.now.argument d c.args.trace.now c.requires.going c.requires.steps (not_less _ fits) c.push.new.trace _
    (λ i. record { definition = d; call = same i; tokens = cost i; given = gave i }) c.in_ok-push.ensures.steps
    (c.in_ok-push.ensures.left ∙ (λ i. record { steps = c.args.trace.now.room.left.steps - 1; tokens = c.args.trace.now.room.left.tokens - cost i })) c.in_ok-push.ensures.cut
    c.trace_given.new.trace gives.0 _ (sym gave ∙ gives.1) h) (rw c.as_ref-in-Some-tree.ensures at c.trace_given.ensures.adds)

pub trace_list-turns-init : goal.trace_list-turns-init
trace_list-turns-init g t c =
    goes_first (λ f. steps_under (g.G.FragmentGrammar.answer c.args.by.now.grammar.now) c.args.by.now.scope.now c.args.by.now.depth c.args.by.now.level c.args.at f)
    (are_steps (g.G.FragmentGrammar.answer c.args.by.now.grammar.now) c.args.by.now.scope.now c.args.by.now.depth c.args.by.now.level c.args.at) c.args.by.now.rules c.args.trace.now
    _ c.new-walk.result c.args.trees.now c.new-walk.ensures.here c.new-walk.ensures.groups refl

pub trace_list-returns-in-Some-clause-adds : goal.trace_list-returns-in-Some-clause-adds
trace_list-returns-in-Some-clause-adds g t c =
    goes_cut (λ f. steps_under (g.G.FragmentGrammar.answer c.args.by.now.grammar.now) c.args.by.now.scope.now c.args.by.now.depth c.args.by.now.level c.args.at f)
    (are_steps (g.G.FragmentGrammar.answer c.args.by.now.grammar.now) c.args.by.now.scope.now c.args.by.now.depth c.args.by.now.level c.args.at) c.args.by.now.rules c.args.trace.now
    _ c.turns.trace c.turns.walk _ c.turns.invariant c.in-Some.is

pub trace_list-turns-preserved-in-Call : goal.trace_list-turns-preserved-in-Call
trace_list-turns-preserved-in-Call g t c =
    goes_call (λ f. steps_under (g.G.FragmentGrammar.answer c.args.by.now.grammar.now) c.args.by.now.scope.now c.args.by.now.depth c.args.by.now.level c.args.at f)
    (are_steps (g.G.FragmentGrammar.answer c.args.by.now.grammar.now) c.args.by.now.scope.now c.args.by.now.depth c.args.by.now.level c.args.at) c.args.by.now.rules c.args.trace.now
    _ c.turns.trace c.trace_call.new.trace c.turns.walk c.go_on.new.self c.in_ok-rest-in-Call.rest c.turns.invariant c.in_ok-rest-in-Call.ensures.passes c.go_on.ensures.here c.go_on.ensures.groups

pub trace_list-turns-smaller-in-Call : goal.trace_list-turns-smaller-in-Call
trace_list-turns-smaller-in-Call g t c =
    call_less (λ f. steps_under (g.G.FragmentGrammar.answer c.args.by.now.grammar.now) c.args.by.now.scope.now c.args.by.now.depth c.args.by.now.level c.args.at f)
    c.args.by.now.rules c.turns.trace c.trace_call.new.trace c.turns.walk c.go_on.new.self c.in_ok-rest-in-Call.rest c.in_ok-rest-in-Call.ensures.passes c.go_on.ensures.here c.go_on.ensures.groups

pub trace_list-turns-preserved-in-BehindColons : goal.trace_list-turns-preserved-in-BehindColons
trace_list-turns-preserved-in-BehindColons g t c =
    goes_colons (λ f. steps_under (g.G.FragmentGrammar.answer c.args.by.now.grammar.now) c.args.by.now.scope.now c.args.by.now.depth c.args.by.now.level c.args.at f)
    (are_steps (g.G.FragmentGrammar.answer c.args.by.now.grammar.now) c.args.by.now.scope.now c.args.by.now.depth c.args.by.now.level c.args.at) c.args.by.now.rules c.args.trace.now
    _ c.turns.trace c.turns.walk c.go_on-in-BehindColons.new.self c.in-BehindColons.call c.turns.invariant (rw c.in-BehindColons.is at c.beginning_of.ensures).1
    c.go_on-in-BehindColons.ensures.here c.go_on-in-BehindColons.ensures.groups

pub trace_list-turns-smaller-in-BehindColons : goal.trace_list-turns-smaller-in-BehindColons
trace_list-turns-smaller-in-BehindColons g t c =
    colons_less c.turns.walk c.go_on-in-BehindColons.new.self c.in-BehindColons.call (rw c.in-BehindColons.is at c.beginning_of.ensures).1
    c.go_on-in-BehindColons.ensures.here c.go_on-in-BehindColons.ensures.groups

pub trace_list-turns-preserved-in-Leaf : goal.trace_list-turns-preserved-in-Leaf
trace_list-turns-preserved-in-Leaf g t c =
    let is = rw c.in-Leaf.is at c.beginning_of.ensures in
    goes_leaf (λ f. steps_under (g.G.FragmentGrammar.answer c.args.by.now.grammar.now) c.args.by.now.scope.now c.args.by.now.depth c.args.by.now.level c.args.at f)
    (are_steps (g.G.FragmentGrammar.answer c.args.by.now.grammar.now) c.args.by.now.scope.now c.args.by.now.depth c.args.by.now.level c.args.at) c.args.by.now.rules c.args.trace.now
    _ c.turns.trace c.turns.walk c.go_on-in-Leaf.new.self (leaf_lent c.in-Leaf.field-0) c.in-Leaf.rest c.turns.invariant is.0 is.1 is.2
    c.go_on-in-Leaf.ensures.here c.go_on-in-Leaf.ensures.groups

pub trace_list-turns-smaller-in-Leaf : goal.trace_list-turns-smaller-in-Leaf
trace_list-turns-smaller-in-Leaf g t c =
    let is = rw c.in-Leaf.is at c.beginning_of.ensures in
    leaf_less c.turns.walk c.go_on-in-Leaf.new.self (leaf_lent c.in-Leaf.field-0) c.in-Leaf.rest is.2 c.go_on-in-Leaf.ensures.here c.go_on-in-Leaf.ensures.groups

pub trace_list-turns-preserved : goal.trace_list-turns-preserved
trace_list-turns-preserved g t c =
    let is = rw c.in-Other.is at c.beginning_of.ensures in
    goes_step (λ f. steps_under (g.G.FragmentGrammar.answer c.args.by.now.grammar.now) c.args.by.now.scope.now c.args.by.now.depth c.args.by.now.level c.args.at f)
    (are_steps (g.G.FragmentGrammar.answer c.args.by.now.grammar.now) c.args.by.now.scope.now c.args.by.now.depth c.args.by.now.level c.args.at) c.args.by.now.rules c.args.trace.now
    _ c.turns.trace c.turns.walk c.next.new.self c.in-Some-2.field-0 c.turns.invariant is.0 is.1 (rw c.in-Some-2.is at c.in_ok-next-in-Other.ensures)

pub trace_list-turns-smaller : goal.trace_list-turns-smaller
trace_list-turns-smaller g t c = step_less c.turns.walk c.next.new.self c.in-Some-2.field-0 (rw c.in-Some-2.is at c.in_ok-next-in-Other.ensures)

pub trace_list-returns-in-None-clause-adds : goal.trace_list-returns-in-None-clause-adds
trace_list-returns-in-None-clause-adds g t c =
    goes_done (λ f. steps_under (g.G.FragmentGrammar.answer c.args.by.now.grammar.now) c.args.by.now.scope.now c.args.by.now.depth c.args.by.now.level c.args.at f)
    (are_steps (g.G.FragmentGrammar.answer c.args.by.now.grammar.now) c.args.by.now.scope.now c.args.by.now.depth c.args.by.now.level c.args.at) c.args.by.now.rules c.args.trace.now
    _ c.turns.trace c.turns.walk c.next.new.self c.turns.invariant (rw c.in-None.is at c.in_ok-next-in-Other.ensures)

pub trace_call-returns-clause-passes : goal.trace_call-returns-clause-passes
trace_call-returns-clause-passes g t c =
    let says : c.is_asked.result ≡ true = search rules in
    passes_known (g.G.FragmentGrammar.answer c.args.by.now.grammar.now) c.args.by.now.scope.now c.args.by.now.depth c.args.by.now.level c.args.at c.args.by.now.rules
    c.args.trees.now c.args.call c.requires.call c.args.trace.now c.trace_known.new.trace c.in_ok-key.key (numbered_of_known c.in-Some.known.value) (λ place more e. sym says ∙ c.is_asked.ensures place more e)
    c.in_ok-key.ensures.key (rw c.in-Some.is at c.in_ok-known.ensures.found) c.in_ok-trace_known.ensures.adds

pub trace_given-returns-clause-adds : goal.trace_given-returns-clause-adds
trace_given-returns-clause-adds g t c =
    let may : may_define c.args.by.now.rules c.args.tree.now.inner ≡ false = search rules in
    IfOk-weaker c.trace_list.result _ _
    (λ u h. subst (λ b. IsAdded c.args.trace.now c.trace_list.new.trace
    (if b then cut_off c.args.trace.now.room.left cuts.Definitions
    else part_of c.args.by.now.rules c.args.trace.now.room
    (steps_under (g.G.FragmentGrammar.answer c.args.by.now.grammar.now) c.args.by.now.scope.now (c.args.by.now.depth - 1) (c.args.by.now.level + 1) None c.args.tree.now.inner))) (sym may) h)
    (rw (c.deeper.ensures, c.iter-trees.ensures) at c.trace_list.ensures.adds)
