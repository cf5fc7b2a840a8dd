use Rattle.std.proofs.Common.{false, chars, length}
use Rattle.rustc_lexer.proofs.EscapeLemmas.{quoted_from}
use Rattle.rustc_lexer.proofs.ReadLemmas.{Leads}
use denote.Text.{Utf8}
use denote.Shadow.{shadow}
use Rattle.rustc_lexer.proofs.literal.quoted_rest.Given as goal

abbrev pub invariant-loop-c : goal.invariant-loop-c
invariant-loop-c l =
    shadow (Utf8 l.rest) × Leads (quoted_from false (chars l.fn.text)) (chars l.fn.text) (quoted_from false (chars l.rest)) (chars l.rest)

abbrev pub decreases-loop-c : goal.decreases-loop-c
decreases-loop-c l = length (chars l.rest)
