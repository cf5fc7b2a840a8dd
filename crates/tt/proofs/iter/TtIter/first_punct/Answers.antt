use Rattle.std.proofs.Common.{◌∙◌}
use Rattle.tt.specs.FirstTrees.{first_punct}
use Rattle.token_bytes.specs.TokenLists.{punct_in}
use Rattle.tt.proofs.RecordLemmas.{found, missing, same_punct}
use Rattle.tt.proofs.iter.TtIter.first_punct.Goals as goal

pub returns-in_err-punct : goal.returns-in_err-punct
returns-in_err-punct c = c.from_residual.ensures ∙ missing punct_in first_punct same_punct _ _ c.in_err-punct.ensures c.self.view_is

pub returns : goal.returns
returns c = found punct_in first_punct same_punct _ _ _ _ c.in_ok-punct.ensures c.self.view_is
