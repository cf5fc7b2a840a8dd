use Rattle.std.proofs.Common.{rules}
use Rattle.rustc_lexer.proofs.lex.tokenize.Goals as goal

pub returns : goal.returns
returns c = search rules
