use Rattle.std.proofs.Common.{chars, length}
use Rattle.rustc_lexer.specs.Literals.{raw_body}
use Rattle.rustc_lexer.proofs.ReadLemmas.{Leads}
use denote.Text.{Utf8}
use denote.Shadow.{shadow}
use Rattle.rustc_lexer.proofs.literal.raw_body.Given as goal

abbrev pub invariant-loop-after : goal.invariant-loop-after
invariant-loop-after l =
    shadow (Utf8 l.rest) × Leads (raw_body l.fn.n (chars l.fn.text)) (chars l.fn.text) (raw_body l.fn.n (chars l.rest)) (chars l.rest)

abbrev pub decreases-loop-after : goal.decreases-loop-after
decreases-loop-after l = length (chars l.rest)
