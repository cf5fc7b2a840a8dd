use Rattle.std.proofs.Common.{chars, length}
use denote.Text.{Utf8}
use denote.Shadow.{shadow}
use Rattle.rustc_lexer.specs.Comments.{block_body}
use Rattle.rustc_lexer.proofs.ReadLemmas.{Leads}
use Rattle.rustc_lexer.proofs.BodyLemmas.{HasRoom}
use Rattle.rustc_lexer.proofs.comment.block_body.Given as goal

abbrev pub invariant-loop-c : goal.invariant-loop-c
invariant-loop-c l =
    shadow (Utf8 l.rest)
    × Leads (block_body 0 (chars l.fn.text)) (chars l.fn.text) (block_body l.depth (chars l.rest)) (chars l.rest)
    × HasRoom l.depth (length (chars l.rest)) (length (chars l.fn.text))

abbrev pub decreases-loop-c : goal.decreases-loop-c
decreases-loop-c l = length (chars l.rest)
