use Rattle.std.proofs.Common.{rules, ◌≡◌, ◌∙◌, true}
use Rattle.std.specs.Prelude.{Option, Some}
use Rattle.std.proofs.lemmas.Result.{IfOk-weaker}
use Rattle.tt_data.specs.Forest.{Forest}
use Rattle.expander_scope.proofs.DefinitionLemmas.{rules_of_macro}
use Rattle.expander_scope.proofs.rules.rules_by.Goals as goal

pub returns-clause-rules : goal.returns-clause-rules
returns-clause-rules c =
    let d = c.args.definition.now in
    let is_so : d.is_macro ≡ true = search rules in
    let of_arguments : ◌≡◌ {A = Option Forest} (Some c.in_ok-arguments-in-Some.arguments.inner) d.arguments = search rules in
    let of_body : c.in_ok-body.body.inner ≡ d.body = search rules in
    IfOk-weaker c.parse_macro2-in-Some.result _ _ (λ m read. read ∙ rules_of_macro c.args.edition d _ _ is_so of_arguments of_body)
    (c.parse_macro2-in-Some.ensures.ok (λ context. c.args.edition) (λ context e asked. search rules))
