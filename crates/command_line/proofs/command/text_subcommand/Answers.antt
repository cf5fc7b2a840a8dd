use Rattle.std.proofs.Common.{ap, ◌∙◌}
use Rattle.std.proofs.lemmas.Result.{IfOk-weaker}
use Rattle.clap.specs.Simple.{App, Shape, shape_of}
use Rattle.clap.specs.Walk.{Rule}
use Rattle.command_line.specs.Commands.{with_more}
use Rattle.command_line.proofs.command.text_subcommand.Goals as goal

pub returns-clause-shape : goal.returns-clause-shape
returns-clause-shape c =
    let base : Shape = shape_of c.in_ok-others_command.field-0 in
    IfOk-weaker c.arg.result _ _ (λ r h. record {
      base = base;
      is_base = c.in_ok-others_command.ensures.shape;
      shape_is = ap (λ (a : App). a.top) (h.shape c.file.ensures.own)
          ∙ ap (λ (r : Rule). with_more r base) c.file.ensures.rule;
    }) c.arg.ensures
