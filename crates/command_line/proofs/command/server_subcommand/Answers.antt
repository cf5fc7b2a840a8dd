use Rattle.std.proofs.Common.{ap, ◌∙◌}
use Rattle.std.proofs.lemmas.Result.{IfOk-weaker}
use Rattle.clap.specs.Simple.{App, Shape, shape_of}
use Rattle.clap.specs.Walk.{rule_of}
use Rattle.command_line.specs.Commands.{with_more}
use Rattle.command_line.proofs.command.server_subcommand.Goals as goal

pub returns-clause-shape : goal.returns-clause-shape
returns-clause-shape c =
    let base : Shape = shape_of c.in_ok-others_command.field-0 in
    let sent = c.diagnostics.ensures.rule in
    let first = ap (λ (a : App). a.top) (c.in_ok-arg.ensures.shape c.diagnostics.ensures.own) in
    let second = ap (λ (a : App). a.top) (c.in_ok-arg-2.ensures.shape c.other_crate.ensures.own)
    ∙ ap (with_more (rule_of c.other_crate.result)) first in
    IfOk-weaker c.arg-3.result _ _ (λ r h. record {
      base = base;
      is_base = c.in_ok-others_command.ensures.shape;
      diagnostics = sent.0;
      shape_is = ap (λ (a : App). a.top) (h.shape c.root.ensures.own)
          ∙ ap (with_more (rule_of c.root.result)) second
          ∙ (λ i. with_more (c.root.ensures.rule i)
          (with_more (c.other_crate.ensures.rule i) (with_more (sent.1 i) base)));
    }) c.arg-3.ensures
