use Rattle.std.proofs.Common.{◌∙◌}
use Rattle.tt.specs.FirstTrees.{first_ident}
use Rattle.token_bytes.specs.TokenLists.{ident_in}
use Rattle.tt.proofs.RecordLemmas.{found, missing, same_ident}
use Rattle.tt.proofs.iter.TtIter.first_ident.Goals as goal

pub returns-in_err-ident : goal.returns-in_err-ident
returns-in_err-ident c = c.from_residual.ensures ∙ missing ident_in first_ident same_ident _ _ c.in_err-ident.ensures c.self.view_is

pub returns : goal.returns
returns c = found ident_in first_ident same_ident _ _ _ _ c.in_ok-ident.ensures c.self.view_is
