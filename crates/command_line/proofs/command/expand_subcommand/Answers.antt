use Rattle.std.proofs.Common.{ap, ◌∙◌}
use Rattle.std.proofs.lemmas.Result.{IfOk-weaker}
use Rattle.clap.specs.Simple.{App, Shape, shape_of}
use Rattle.clap.specs.Walk.{Rule, rule_of}
use Rattle.command_line.specs.Commands.{apart_rule, crate_rule, extern_rule, json_rule, with_more}
use Rattle.command_line.proofs.CommandLemmas.{none_global}
use Rattle.command_line.proofs.command.expand_subcommand.Goals as goal

pub returns-clause-shape : goal.returns-clause-shape
returns-clause-shape c =
    let base : Shape = shape_of c.in_ok-text_subcommand.field-0 in
    let first = ap (λ (a : App). a.top) (c.in_ok-arg.ensures.shape c.layout.ensures.own) in
    let second = ap (λ (a : App). a.top) (c.in_ok-arg-2.ensures.shape c.json.ensures.own)
    ∙ ap (with_more (rule_of c.json.result)) first in
    let third = ap (λ (a : App). a.top) (c.in_ok-arg-3.ensures.shape c.apart.ensures.own)
    ∙ ap (with_more (rule_of c.apart.result)) second in
    let fourth = ap (λ (a : App). a.top) (c.in_ok-arg-4.ensures.shape c.other_crate.ensures.own)
    ∙ ap (with_more (rule_of c.other_crate.result)) third in
    IfOk-weaker c.arg-5.result _ _ (λ r h. record {
      base = base;
      is_base = c.in_ok-text_subcommand.ensures.shape;
      shape_is = ap (λ (a : App). a.top) (h.shape c.root.ensures.own) ∙ ap (with_more (rule_of c.root.result)) fourth
          ∙ ap (λ (r : Rule). with_more r (with_more (rule_of c.other_crate.result) (with_more (rule_of c.apart.result) (with_more (rule_of c.json.result) (with_more (rule_of c.layout.result) base))))) c.root.ensures.rule
          ∙ ap (λ (r : Rule). with_more crate_rule (with_more r (with_more (rule_of c.apart.result) (with_more (rule_of c.json.result) (with_more (rule_of c.layout.result) base))))) c.other_crate.ensures.rule
          ∙ ap (λ (r : Rule). with_more crate_rule (with_more extern_rule (with_more r (with_more (rule_of c.json.result) (with_more (rule_of c.layout.result) base))))) c.apart.ensures.rule
          ∙ ap (λ (r : Rule). with_more crate_rule (with_more extern_rule (with_more apart_rule (with_more r (with_more (rule_of c.layout.result) base))))) c.json.ensures.rule
          ∙ ap (λ (r : Rule). with_more crate_rule (with_more extern_rule (with_more apart_rule (with_more json_rule (with_more r base))))) c.layout.ensures.rule;
    }) c.arg-5.ensures

pub returns-clause-own : goal.returns-clause-own
returns-clause-own c =
    let first = none_global _ _ _ c.in_ok-arg.ensures.globals c.in_ok-text_subcommand.ensures.own c.layout.ensures.own in
    let second = none_global _ _ _ c.in_ok-arg-2.ensures.globals first c.json.ensures.own in
    let third = none_global _ _ _ c.in_ok-arg-3.ensures.globals second c.apart.ensures.own in
    let fourth = none_global _ _ _ c.in_ok-arg-4.ensures.globals third c.other_crate.ensures.own in
    IfOk-weaker c.arg-5.result _ _ (λ r h. none_global _ _ _ h.globals fourth c.root.ensures.own) c.arg-5.ensures
