use Rattle.std.proofs.Common.{rules}
use Rattle.rustc_lexer.proofs.relex.LexedText.text.Goals as goal

pub returns : goal.returns
returns c = search rules
