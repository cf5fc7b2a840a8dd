use Rattle.token_bytes.proofs.TokensLemmas.{no_items}
use Rattle.std.proofs.Common.{refl}
use Rattle.token_bytes.proofs.tokens.Tokens.end.Goals as goal

pub returns : goal.returns
returns c = no_items _ refl
