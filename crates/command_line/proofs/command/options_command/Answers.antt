use Rattle.std.proofs.Common.{ap, ◌∙◌}
use Rattle.std.specs.Prelude.{codes}
use Rattle.std.proofs.lemmas.Result.{IfOk-weaker}
use Rattle.clap.specs.Simple.{App, Shape, shape_of}
use Rattle.clap.specs.Walk.{Rule, rule_of}
use Rattle.command_line.specs.Commands.{option_rule, with_more}
use Rattle.command_line.proofs.command.options_command.Goals as goal

pub returns-clause-shape : goal.returns-clause-shape
returns-clause-shape c =
    let base : Shape = shape_of c.in_ok-language_command.field-0 in
    let is = c.in_ok-language_command.ensures.shape in
    let levels = c.depth.ensures.rule in
    let calls = c.most_calls.ensures.rule in
    let tokens = c.most_tokens.ensures.rule in
    let first = ap (λ (a : App). a.top) (c.in_ok-arg.ensures.shape c.depth.ensures.own) in
    let second = ap (λ (a : App). a.top) (c.in_ok-arg-2.ensures.shape c.most_calls.ensures.own) ∙ ap (with_more (rule_of c.most_calls.result)) first in
    IfOk-weaker c.arg-3.result _ _ (λ r h. record {
      grammar = is.grammar;
      edition = is.edition;
      scope = is.scope;
      depth = levels.0;
      calls = calls.0;
      tokens = tokens.0;
      shape_is = ap (λ (a : App). a.top) (h.shape c.most_tokens.ensures.own) ∙ ap (with_more (rule_of c.most_tokens.result)) second
          ∙ (λ i. with_more (tokens.1 i) (with_more (calls.1 i) (with_more (levels.1 i) (is.shape_is i))));
    }) c.arg-3.ensures
