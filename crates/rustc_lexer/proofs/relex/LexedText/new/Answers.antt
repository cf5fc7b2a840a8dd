use Rattle.std.proofs.Common.{rules}
use Rattle.rustc_lexer.proofs.relex.LexedText.new.Goals as goal

pub returns : goal.returns
returns c = search rules

pub returns-in_err-text : goal.returns-in_err-text
returns-in_err-text c = search rules
