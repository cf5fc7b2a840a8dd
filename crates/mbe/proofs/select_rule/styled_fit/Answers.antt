use Rattle.std.proofs.Common.{◌≡◌, sym, subst, rules, true, false, IfOk, IfSome, Err, option_map, None}
use Rattle.tt.specs.Views.{forest}
use Rattle.mbe_transcriber.specs.mbe_matcher.Readings.{the_reading}
use Rattle.mbe_rules.specs.Ops.{rule_of}
use Rattle.mbe.specs.Answers.{within}
use Rattle.mbe.specs.Bursts.{template_bursts}
use Rattle.mbe.specs.Fit.{same_style, rule_fit}
use Rattle.mbe.specs.PutOut.{left_of, template_output}
use Rattle.mbe_transcriber.specs.Markers.{is_name}
use Rattle.mbe.proofs.select_rule.styled_fit.Goals as goal

pub returns-clause-tree : goal.returns-clause-tree
returns-clause-tree g c = λ mark marked.
    let other = c.if-ne.false in
    let told = c.ne.ensures in
    let same : same_style c.args.style c.args.rule.now.style ≡ true = search rules in
    let fits = rule_fit is_name (g.G.FragmentGrammar.answer c.args.grammar.now) mark (rule_of c.args.rule.now) (forest c.args.argument) in
    subst (λ b. IfOk c.rule_fit.result (λ o. IfSome o (λ t. t.given ≡ option_map (within c.args.bounds.top) (elim b [ true ↦ fits | false ↦ None ])))) (sym same) (c.rule_fit.ensures.tree mark marked)

pub returns-clause-left : goal.returns-clause-left
returns-clause-left g c = λ mark marked.
    let other = c.if-ne.false in
    let told = c.ne.ensures in
    let same : same_style c.args.style c.args.rule.now.style ≡ true = search rules in
    let gr = g.G.FragmentGrammar.answer c.args.grammar.now in
    let r = rule_of c.args.rule.now in
    let n = template_output is_name gr mark r (the_reading gr r.pattern (forest c.args.argument)) in
    subst (λ b. IfOk c.rule_fit.result (λ o. option_map (λ t. t.left) o ≡ left_of c.args.bounds.most (elim b [ true ↦ n | false ↦ 0 ]))) (sym same) (c.rule_fit.ensures.left mark marked)

pub returns-clause-tokens : goal.returns-clause-tokens
returns-clause-tokens g c = λ mark marked e.
    let other = c.if-ne.false in
    let told = c.ne.ensures in
    let same : same_style c.args.style c.args.rule.now.style ≡ true = search rules in
    let gr = g.G.FragmentGrammar.answer c.args.grammar.now in
    let r = rule_of c.args.rule.now in
    let much = template_bursts is_name gr mark r (the_reading gr r.pattern (forest c.args.argument)) in
    subst (λ b. elim b [ true ↦ much | false ↦ false ] ≡ true) (sym same) (c.rule_fit.ensures.tokens mark marked e)
