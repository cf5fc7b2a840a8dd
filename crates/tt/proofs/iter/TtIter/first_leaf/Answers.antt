use Rattle.std.proofs.Common.{◌∙◌}
use Rattle.tt.specs.FirstTrees.{first_leaf}
use Rattle.token_bytes.specs.TokenLists.{leaf_in}
use Rattle.tt.proofs.RecordLemmas.{found, missing, same_leaf}
use Rattle.tt.proofs.iter.TtIter.first_leaf.Goals as goal

pub returns-in_err-leaf : goal.returns-in_err-leaf
returns-in_err-leaf c = c.from_residual.ensures ∙ missing leaf_in first_leaf same_leaf _ _ c.in_err-leaf.ensures c.self.view_is

pub returns : goal.returns
returns c = found leaf_in first_leaf same_leaf _ _ _ _ c.in_ok-leaf.ensures c.self.view_is
