use Rattle.std.proofs.Common.{chars}
use denote.Text.{Utf8}
use denote.Shadow.{shadow}
use Rattle.rustc_lexer.proofs.CursorLemmas.{ClosingOn}
use Rattle.rustc_lexer.proofs.literal.skip_closing.Given as goal

abbrev pub invariant-loop-left : goal.invariant-loop-left
invariant-loop-left l = shadow (Utf8 l.rest) × ClosingOn l.fn.n (chars l.fn.text) l.left (chars l.rest)

abbrev pub decreases-loop-left : goal.decreases-loop-left
decreases-loop-left l = l.left
