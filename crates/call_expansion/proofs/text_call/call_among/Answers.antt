use Rattle.std.proofs.Common.{◌≡◌, ◌∙◌, List, [], ap, map, subst}
use Rattle.std.specs.Prelude.{IfOk, option_map}
use Rattle.tt_data.specs.Forest.{Forest}
use Rattle.tt_data.specs.declared.span.Span.{Span}
use Rattle.expander_model.specs.Expansion.{Outcome, PlacedStep}
use Rattle.expander_model.specs.Held.{Numbered}
use Rattle.expander_model.specs.declared.fault.FaultKind.{FaultKind}
use Rattle.expander_scope.specs.Outcomes.{placed_of}
use Rattle.expander_scope.specs.ScopeTable.{expanded_under}
use Rattle.call_expansion.specs.Answers.{answer_among}
use Rattle.call_expansion.specs.Texts.{answer_in}
use Rattle.call_expansion.proofs.text_call.call_among.Goals as goal

pub returns-clause-answer : goal.returns-clause-answer
returns-clause-answer g c =
    let O : Forest → Outcome Numbered = λ f. expanded_under (g.G.FragmentGrammar.answer c.args.by.now.grammar.now) c.args.scope.now c.args.by.now.dialect.now c.args.by.now.depth f in
    let e = c.in_ok-given.ensures.expands in
    let steps : map placed_of c.as_slice.result.now ≡ (O c.args.piece.now).steps =
    ap (map placed_of) c.as_slice.ensures.value ∙ e.steps [] (ap (map placed_of) c.new-events.ensures.items) ∙ ap (λ f. (O f).steps) c.in_ok-tree.ensures.tree in
    let faults : c.as_slice-2.result.now ≡ (O c.args.piece.now).faults = c.as_slice-2.ensures.value ∙ e.faults ∙ ap (λ f. (O f).faults) c.in_ok-tree.ensures.tree in
    subst (λ (xs : List PlacedStep). IfOk c.answer_among.result (λ r. option_map answer_in r ≡ answer_among xs (O c.args.piece.now).faults c.args.calls.now)) steps
    (subst (λ (fs : List (FaultKind × Span)). IfOk c.answer_among.result (λ r. option_map answer_in r ≡ answer_among (map placed_of c.as_slice.result.now) fs c.args.calls.now)) faults
    c.answer_among.ensures.answer)
