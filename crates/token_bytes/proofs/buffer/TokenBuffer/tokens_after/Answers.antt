use Rattle.std.proofs.Common.{◌∙◌, ap, drop}
use Rattle.token_bytes.proofs.TokensLemmas.{mark_in_run}
use Rattle.token_bytes.proofs.buffer.TokenBuffer.tokens_after.Goals as goal

pub past-requires-clause-count : goal.past-requires-clause-count
past-requires-clause-count c = (mark_in_run c.args.mark c.tokens.result _ c.tokens.ensures c.requires).0

pub past-requires-clause-bytes : goal.past-requires-clause-bytes
past-requires-clause-bytes c = (mark_in_run c.args.mark c.tokens.result _ c.tokens.ensures c.requires).1

pub returns : goal.returns
returns c = c.past.ensures ∙ ap (drop c.args.mark.count) c.tokens.ensures
