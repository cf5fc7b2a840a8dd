use Rattle.std.proofs.Common.{ap, ◌∙◌}
use Rattle.std.proofs.lemmas.Result.{IfOk-weaker}
use Rattle.clap.specs.Simple.{App, shape_of, with_subcommand}
use Rattle.command_line.proofs.command.program.Goals as goal

pub returns : goal.returns
returns c =
    let first = c.in_ok-bare_program.ensures in
    let second = c.in_ok-subcommand.ensures.shape c.in_ok-expand_subcommand.ensures.own
    ∙ ap (λ (a : App). with_subcommand a (shape_of c.in_ok-expand_subcommand.field-0)) first in
    let third = c.in_ok-subcommand-2.ensures.shape c.in_ok-json_subcommand.ensures.own
    ∙ ap (λ (a : App). with_subcommand a (shape_of c.in_ok-json_subcommand.field-0)) second in
    let fourth = c.in_ok-subcommand-3.ensures.shape c.in_ok-server_subcommand.ensures.own
    ∙ ap (λ (a : App). with_subcommand a (shape_of c.in_ok-server_subcommand.field-0)) third in
    let fifth = c.in_ok-subcommand-4.ensures.shape c.in_ok-macros_subcommand.ensures.own
    ∙ ap (λ (a : App). with_subcommand a (shape_of c.in_ok-macros_subcommand.field-0)) fourth in
    let sixth = c.in_ok-subcommand-5.ensures.shape c.in_ok-json_subcommand-2.ensures.own
    ∙ ap (λ (a : App). with_subcommand a (shape_of c.in_ok-json_subcommand-2.field-0)) fifth in
    let seventh = c.in_ok-subcommand-6.ensures.shape c.in_ok-trace_subcommand.ensures.own
    ∙ ap (λ (a : App). with_subcommand a (shape_of c.in_ok-trace_subcommand.field-0)) sixth in
    IfOk-weaker c.subcommand-7.result _ _ (λ r h. record {
      expand = shape_of c.in_ok-expand_subcommand.field-0;
      explain = shape_of c.in_ok-json_subcommand.field-0;
      lsp = shape_of c.in_ok-server_subcommand.field-0;
      macros = shape_of c.in_ok-macros_subcommand.field-0;
      replay = shape_of c.in_ok-json_subcommand-2.field-0;
      trace = shape_of c.in_ok-trace_subcommand.field-0;
      view = shape_of c.in_ok-text_subcommand.field-0;
      is_expand = c.in_ok-expand_subcommand.ensures.shape;
      is_explain = c.in_ok-json_subcommand.ensures.shape;
      is_lsp = c.in_ok-server_subcommand.ensures.shape;
      is_macros = c.in_ok-macros_subcommand.ensures.shape;
      is_replay = c.in_ok-json_subcommand-2.ensures.shape;
      is_trace = c.in_ok-trace_subcommand.ensures.shape;
      is_view = c.in_ok-text_subcommand.ensures.shape;
      app_is = h.shape c.in_ok-text_subcommand.ensures.own ∙ ap (λ (a : App). with_subcommand a (shape_of c.in_ok-text_subcommand.field-0)) seventh;
    }) c.subcommand-7.ensures
