use Rattle.std.proofs.Common.{sym}
use Rattle.token_bytes.proofs.MarkLemmas.{length-tokens_in}
use Rattle.token_bytes.proofs.buffer.TokenBuffer.len.Goals as goal

pub returns : goal.returns
returns c = rw (← c.self.view_is) (sym (length-tokens_in _ _ _))
