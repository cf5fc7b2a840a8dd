use Rattle.std.proofs.Common.{◌∙◌}
use Rattle.call_expansion.proofs.LastLemmas.{same_definition}
use Rattle.call_expansion.proofs.piece_call.is_definition.Goals as goal

pub returns : goal.returns
returns c = c.is_definition.ensures ∙ same_definition c.args.piece.now c.as_ref.result.now (c.as_ref.ensures ∙ c.get.ensures)
