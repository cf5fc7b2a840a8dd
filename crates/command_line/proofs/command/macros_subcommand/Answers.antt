use Rattle.std.proofs.Common.{ap, ◌∙◌}
use Rattle.std.proofs.lemmas.Result.{IfOk-weaker}
use Rattle.clap.specs.Simple.{App, Shape, shape_of}
use Rattle.clap.specs.Walk.{Rule, rule_of}
use Rattle.command_line.specs.Commands.{crate_rule, with_more}
use Rattle.command_line.proofs.command.macros_subcommand.Goals as goal

pub returns-clause-shape : goal.returns-clause-shape
returns-clause-shape c =
    let base : Shape = shape_of c.in_ok-text_subcommand.field-0 in
    let first = ap (λ (a : App). a.top) (c.in_ok-arg.ensures.shape c.other_crate.ensures.own) in
    IfOk-weaker c.arg-2.result _ _ (λ r h. record {
      base = base;
      is_base = c.in_ok-text_subcommand.ensures.shape;
      shape_is = ap (λ (a : App). a.top) (h.shape c.root.ensures.own) ∙ ap (with_more (rule_of c.root.result)) first
          ∙ ap (λ (r : Rule). with_more r (with_more (rule_of c.other_crate.result) base)) c.root.ensures.rule
          ∙ ap (λ (r : Rule). with_more crate_rule (with_more r base)) c.other_crate.ensures.rule;
    }) c.arg-2.ensures
