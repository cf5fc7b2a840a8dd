use Rattle.std.proofs.Common.{◌≡◌, ◌∙◌, ◌<◌, ◌≤◌, arith, false, length, subst, sym}
use Rattle.std.proofs.lemmas.Result.{IfOk-weaker}
use Rattle.std.specs.List.{list_any}
use Rattle.tt.specs.Views.{forest}
use Rattle.mbe_rules.specs.Items.{has_empty_round}
use Rattle.mbe_rules.specs.Ops.{rule_of}
use Rattle.mbe.specs.Macros.{rules_of}
use Rattle.mbe.proofs.FirstFitLemmas.{none-at}
use Rattle.rule_bindings.proofs.RuleLemmas.{found-rule, no-rule, none-in-front}
use Rattle.rule_bindings.proofs.rule.bindings_by.Goals as goal

pub first_ambiguous-requires : goal.first_ambiguous-requires
first_ambiguous-requires g c =
    none-in-front (λ r. has_empty_round r.pattern) rule_of c.args.number c.rules-rules.result.now
    c.split_at.result.0.now c.split_at.ensures.front
    (subst (λ list. list_any (λ r. has_empty_round r.pattern) list ≡ false)
    (sym c.rules-rules.ensures.rules) (c.rules-rules.ensures.ends c.requires))

pub bound_rule-requires : goal.bound_rule-requires
bound_rule-requires g c =
    let rules = c.rules-rules.result.now in
    let inside : c.args.number < length rules = omega arith in
    none-at (λ r. has_empty_round r.pattern) rule_of rules c.args.number c.index-rules-number.result
    (subst (λ list. list_any (λ r. has_empty_round r.pattern) list ≡ false)
    (sym c.rules-rules.ensures.rules) (c.rules-rules.ensures.ends c.requires)) inside
    c.index-rules-number.is

pub returns-then-number-rules : goal.returns-then-number-rules
returns-then-number-rules g c =
    let rules = c.rules-rules.result.now in
    let past : length rules ≤ c.args.number = omega arith in
    no-rule (g.G.FragmentGrammar.answer c.args.grammar.now) (forest c.args.argument) rules
    (rules_of c.args.definition.now).list c.rules-rules.ensures.rules c.args.number past

pub returns : goal.returns
returns g c =
    let rules = c.rules-rules.result.now in
    let inside : c.args.number < length rules = omega arith in
    IfOk-weaker c.bound_rule.result _ _
    (λ o bound. bound ∙ found-rule (g.G.FragmentGrammar.answer c.args.grammar.now)
    (forest c.args.argument) rules (rules_of c.args.definition.now).list
    c.rules-rules.ensures.rules c.args.number c.index-rules-number.result inside
    c.index-rules-number.is c.split_at.result.0.now c.split_at.ensures.front
    c.in_ok-passed_over.passed_over c.in_ok-passed_over.ensures)
    c.bound_rule.ensures
