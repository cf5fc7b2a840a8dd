use Rattle.std.proofs.Common.{ap, ◌∙◌}
use Rattle.std.proofs.lemmas.Result.{IfOk-weaker}
use Rattle.clap.specs.Simple.{App, Shape, shape_of}
use Rattle.clap.specs.Walk.{Rule}
use Rattle.command_line.specs.Commands.{with_more}
use Rattle.command_line.proofs.command.trace_subcommand.Goals as goal

pub returns-clause-shape : goal.returns-clause-shape
returns-clause-shape c =
    let base : Shape = shape_of c.in_ok-json_subcommand.field-0 in
    let rule = c.steps.ensures.rule in
    IfOk-weaker c.arg.result _ _ (λ r h. record {
      base = base;
      is_base = c.in_ok-json_subcommand.ensures.shape;
      steps = rule.0;
      shape_is = ap (λ (a : App). a.top) (h.shape c.steps.ensures.own)
          ∙ ap (λ (r : Rule). with_more r base) rule.1;
    }) c.arg.ensures
