use Rattle.std.proofs.Common.{◌∙◌}
use Rattle.tt.specs.FirstTrees.{first_literal}
use Rattle.token_bytes.specs.TokenLists.{literal_in}
use Rattle.tt.proofs.RecordLemmas.{found, missing, same_literal}
use Rattle.tt.proofs.iter.TtIter.first_literal.Goals as goal

pub returns-in_err-kind : goal.returns-in_err-kind
returns-in_err-kind c = c.from_residual.ensures ∙ missing literal_in first_literal same_literal _ _ c.in_err-kind.ensures c.self.view_is

pub returns : goal.returns
returns c = found literal_in first_literal same_literal _ _ _ _ c.in_ok-kind.ensures c.self.view_is
