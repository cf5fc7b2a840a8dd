use Rattle.std.proofs.Common.{length, ap}
use Rattle.rustc_lexer.proofs.ShebangLemmas.{is_first_line}
use Rattle.rustc_lexer.proofs.shebang.first_line_len.Goals as goal

pub returns-in-Some-clause-line : goal.returns-in-Some-clause-line
returns-in-Some-clause-line c =
    ap length (is_first_line c.lines.result c.next.new.self c.in-Some.line c.args.text.now c.lines.ensures.rest c.in-Some.ensures.steps)
