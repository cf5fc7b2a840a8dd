use Rattle.std.proofs.Common.{ap, ◌∙◌}
use Rattle.std.specs.List.{list_any}
use Rattle.small_grammar.specs.Text.{same_text}
use Rattle.small_grammar.proofs.names.is_of_seven.Goals as goal

pub returns : goal.returns
returns c = c.is_among.ensures ∙ ap (list_any (λ t. same_text c.args.text.now t.now)) c.as_slice.ensures
