use Rattle.std.proofs.Common.{◌∙◌, arith}
use Rattle.hidden_marks.proofs.MarkLemmas.{ascii_hidden}
use Rattle.hidden_marks.proofs.marks.is_hidden.Goals as goal

pub returns-then-n-lt128 : goal.returns-then-n-lt128
returns-then-n-lt128 c = c.is_control.ensures ∙ ascii_hidden c.args.c (omega (arith, c.if-n-lt128.true))
