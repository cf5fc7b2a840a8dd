use Rattle.std.proofs.Common.{◌∙◌, ◌++◌, ℕ, List, None, Some, ap, append-nil, option_map}
use Rattle.std.proofs.Common.{string_bytes, subst, sym}
use Rattle.mbe.specs.Macros.{rules_of}
use Rattle.expander_scope.specs.declared.macro_def.MacroDef.{MacroDef}
use Rattle.expander_trace.specs.Given.{attempt_in}
use Rattle.rule_bindings.specs.Given.{rule_given}
use Rattle.step_report.specs.BoundLines.{bound_lines}
use Rattle.step_report.specs.Shown.{Adds}
use Rattle.step_report.specs.Texts.{texts_in}
use Rattle.step_report.proofs.BoundLemmas.{told-rule}
use Rattle.step_report.proofs.bound_lines.push_bound.Goals as goal

pub returns-in-Some : goal.returns-in-Some
returns-in-Some g c =
    let t = texts_in c.args.context.now.texts.now in
    let gr = g.G.FragmentGrammar.answer c.args.context.now.grammar.now in
    let a = attempt_in c.args.attempt.now in
    let all = told-rule t gr c.args.context.now.edition a (rules_of c.in_ok-known.known.rules)
    c.as_ref.result.now.tree.inner (Some (rule_given c.in-Some.bound))
    c.in_ok-known.ensures (ap (λ (k : MacroDef). k.tree.inner) c.as_ref.ensures)
    (sym (ap (option_map rule_given) c.in-Some.is) ∙ c.in_ok-bound.ensures) in
    subst (λ (bytes : List ℕ). Adds c.push_rule.result c.args.out.now c.push_rule.new.out bytes)
    (ap (bound_lines t c.args.level) all)
    c.push_rule.ensures

pub returns : goal.returns
returns g c =
    let t = texts_in c.args.context.now.texts.now in
    let gr = g.G.FragmentGrammar.answer c.args.context.now.grammar.now in
    let a = attempt_in c.args.attempt.now in
    let none = told-rule t gr c.args.context.now.edition a (rules_of c.in_ok-known.known.rules)
    c.as_ref.result.now.tree.inner None c.in_ok-known.ensures
    (ap (λ (k : MacroDef). k.tree.inner) c.as_ref.ensures)
    (sym (ap (option_map rule_given) c.in-None.is) ∙ c.in_ok-bound.ensures) in
    sym (append-nil (string_bytes c.args.out.now))
    ∙ ap (λ o. string_bytes c.args.out.now ++ bound_lines t c.args.level o) none
