use Rattle.std.proofs.Common.{chars, length}
use Rattle.rustc_lexer.specs.Literals.{string_body}
use Rattle.rustc_lexer.proofs.ReadLemmas.{Leads}
use denote.Text.{Utf8}
use denote.Shadow.{shadow}
use Rattle.rustc_lexer.proofs.literal.string_body.Given as goal

abbrev pub invariant-loop-c : goal.invariant-loop-c
invariant-loop-c l =
    shadow (Utf8 l.rest) × Leads (string_body (chars l.fn.text)) (chars l.fn.text) (string_body (chars l.rest)) (chars l.rest)

abbrev pub decreases-loop-c : goal.decreases-loop-c
decreases-loop-c l = length (chars l.rest)
