use Rattle.std.proofs.Common.{rules}
use Rattle.rustc_lexer.proofs.shebang.strip_shebang.Goals as goal

pub returns : goal.returns
returns c = search rules

pub returns-in_err-rest : goal.returns-in_err-rest
returns-in_err-rest c = search rules
