use Rattle.std.proofs.Common.{ap, ◌∙◌}
use Rattle.std.proofs.lemmas.Result.{IfOk-weaker}
use Rattle.clap.specs.Simple.{App, Shape, shape_of}
use Rattle.clap.specs.Walk.{Rule, rule_of}
use Rattle.command_line.specs.Commands.{cfg_rule, with_more, with_rule}
use Rattle.command_line.proofs.command.others_command.Goals as goal

pub returns-clause-shape : goal.returns-clause-shape
returns-clause-shape c =
    let base : Shape = shape_of c.in_ok-options_command.field-0 in
    let first = ap (λ (a : App). a.top) (c.in_ok-arg.ensures.shape c.library.ensures.own) in
    let second = ap (λ (a : App). a.top) (c.in_ok-arg-2.ensures.shape c.with.ensures.own)
    ∙ ap (with_more (rule_of c.with.result)) first in
    IfOk-weaker c.arg-3.result _ _ (λ r h. record {
      base = base;
      is_base = c.in_ok-options_command.ensures.shape;
      shape_is = ap (λ (a : App). a.top) (h.shape c.cfg.ensures.own) ∙ ap (with_more (rule_of c.cfg.result)) second
          ∙ ap (λ (r : Rule). with_more r (with_more (rule_of c.with.result) (with_more (rule_of c.library.result) base))) c.cfg.ensures.rule
          ∙ ap (λ (r : Rule). with_more cfg_rule (with_more r (with_more (rule_of c.library.result) base))) c.with.ensures.rule
          ∙ ap (λ (r : Rule). with_more cfg_rule (with_more with_rule (with_more r base))) c.library.ensures.rule;
    }) c.arg-3.ensures
