-- What a rule gives is what its template gives with its reading.
use Rattle.std.proofs.Common.{◌≡◌, rules, subst, IfOk, IfSome, option_map}
use Rattle.tt.specs.Views.{forest}
use Rattle.mbe_rules.specs.Ops.{items_of, rule_of}
use Rattle.mbe_transcriber.specs.mbe_matcher.Bound.{map_of}
use Rattle.mbe_transcriber.specs.Filling.{filled}
use Rattle.mbe_transcriber.specs.Limits.{most_rounds}
use Rattle.mbe_transcriber.specs.Markers.{is_name}
use Rattle.mbe.specs.Answers.{within}
use Rattle.mbe.specs.Fit.{rule_fit}
use Rattle.mbe.proofs.select_rule.rule_within.Goals as goal

pub returns-clause-tree : goal.returns-clause-tree
returns-clause-tree g c = λ mark marked.
    let so : filled is_name most_rounds mark (map_of c.in_ok-bindings.bindings) (items_of c.deref-2.result.now)
    ≡ rule_fit is_name (g.G.FragmentGrammar.answer c.args.grammar.now) mark (rule_of c.args.rule.now) (forest c.args.argument) = search rules in
    subst (λ f. IfOk c.filled.result (λ o. IfSome o (λ t. t.given ≡ option_map (within c.args.bounds.top) f))) so (c.filled.ensures.tree mark marked)
