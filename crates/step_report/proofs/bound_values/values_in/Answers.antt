use Rattle.std.proofs.Common.{◌≡◌, Option, ap, option_map, subst}
use Rattle.std.specs.Prelude.{IfOk}
use Rattle.serde_json.specs.View.{view}
use Rattle.mbe.specs.Macros.{rules_of}
use Rattle.expander_scope.specs.declared.macro_def.MacroDef.{MacroDef}
use Rattle.expander_trace.specs.Given.{attempt_in}
use Rattle.rule_bindings.specs.BoundRules.{BoundRule}
use Rattle.rule_bindings.specs.Given.{rule_given}
use Rattle.step_report.specs.BoundValues.{bindings}
use Rattle.step_report.specs.NoteValues.{notes}
use Rattle.step_report.specs.Texts.{texts_in}
use Rattle.step_report.proofs.BoundLemmas.{told-rule}
use Rattle.step_report.proofs.bound_values.values_in.Goals as goal

pub returns-clause-bindings : goal.returns-clause-bindings
returns-clause-bindings g c =
    subst (λ (o : Option BoundRule). IfOk c.values_of.result (λ v. view v.bindings ≡ bindings o))
    (told-rule (texts_in c.args.context.now.texts.now)
    (g.G.FragmentGrammar.answer c.args.context.now.grammar.now) c.args.context.now.edition
    (attempt_in c.args.attempt.now) (rules_of c.in_ok-known.known.rules)
    c.as_ref.result.now.tree.inner (option_map rule_given c.in_ok-bound.bound)
    c.in_ok-known.ensures (ap (λ (k : MacroDef). k.tree.inner) c.as_ref.ensures)
    c.in_ok-bound.ensures)
    c.values_of.ensures.bindings

pub returns-clause-notes : goal.returns-clause-notes
returns-clause-notes g c =
    subst (λ (o : Option BoundRule). IfOk c.values_of.result (λ v. view v.notes ≡ notes o))
    (told-rule (texts_in c.args.context.now.texts.now)
    (g.G.FragmentGrammar.answer c.args.context.now.grammar.now) c.args.context.now.edition
    (attempt_in c.args.attempt.now) (rules_of c.in_ok-known.known.rules)
    c.as_ref.result.now.tree.inner (option_map rule_given c.in_ok-bound.bound)
    c.in_ok-known.ensures (ap (λ (k : MacroDef). k.tree.inner) c.as_ref.ensures)
    c.in_ok-bound.ensures)
    c.values_of.ensures.notes
