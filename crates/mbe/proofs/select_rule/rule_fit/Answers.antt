-- A matcher whose first op cannot match gives nothing.
use Rattle.std.proofs.Common.{sym, ap, ◌∙◌, [], Some, option_map, option_and_then}
use Rattle.tt.specs.Views.{forest}
use Rattle.mbe_rules.specs.Ops.{items_of, rule_of}
use Rattle.mbe.specs.Answers.{within}
use Rattle.mbe_transcriber.specs.mbe_matcher.Bindings.{bindings}
use Rattle.mbe_transcriber.specs.mbe_matcher.Blocked.{is_blocked}
use Rattle.mbe_transcriber.specs.Filling.{filled}
use Rattle.mbe_transcriber.specs.Limits.{most_rounds}
use Rattle.mbe_transcriber.specs.Markers.{is_name}
use Rattle.mbe_transcriber.specs.mbe_matcher.Units.{place}
use Rattle.mbe_transcriber.proofs.BlockedLemmas.{none-read}
use Rattle.mbe.specs.PutOut.{left_of, template_output}
use Rattle.mbe.specs.declared.select_rule.Tried.{Tried}
use Rattle.mbe.proofs.LeftLemmas.{left_nothing}
use Rattle.mbe.proofs.select_rule.rule_fit.Goals as goal

pub returns-then-is_passed-clause-tree : goal.returns-then-is_passed-clause-tree
returns-then-is_passed-clause-tree g c = λ mark marked.
    ap (λ (t : Tried _). t.given) c.unfit.ensures
    ∙ sym (ap (λ o. option_map (within c.args.bounds.top) (option_and_then (λ ms. filled is_name most_rounds mark (bindings ms) (items_of c.args.rule.now.template.items)) o))
    (none-read (g.G.FragmentGrammar.answer c.args.grammar.now) (items_of c.args.rule.now.pattern.items) (forest c.args.argument) c.requires.pattern
    (sym (c.is_passed.ensures ∙ ap (λ ops. is_blocked (items_of ops) (place (forest c.args.argument) [])) c.deref.ensures.value) ∙ c.if-is_passed.true)))

pub returns-then-is_passed-clause-left : goal.returns-then-is_passed-clause-left
returns-then-is_passed-clause-left g c = λ mark marked.
    ap (λ (t : Tried _). Some t.left) c.unfit.ensures ∙ sym (left_nothing c.args.bounds.most)
    ∙ sym (ap (λ o. left_of c.args.bounds.most (template_output is_name (g.G.FragmentGrammar.answer c.args.grammar.now) mark (rule_of c.args.rule.now) o))
    (none-read (g.G.FragmentGrammar.answer c.args.grammar.now) (items_of c.args.rule.now.pattern.items) (forest c.args.argument) c.requires.pattern
    (sym (c.is_passed.ensures ∙ ap (λ ops. is_blocked (items_of ops) (place (forest c.args.argument) [])) c.deref.ensures.value) ∙ c.if-is_passed.true)))
