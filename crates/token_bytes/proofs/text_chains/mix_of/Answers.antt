use Rattle.std.proofs.Common.{rules}
use Rattle.token_bytes.specs.Numbers.{mix_of}
use Rattle.token_bytes.proofs.text_chains.mix_of.Goals as goal

pub returns : goal.returns
unfolding mix_of
returns c = search rules
