use Rattle.std.proofs.Common.{◌+◌, ◌-◌, length, chars}
use Rattle.rustc_lexer.specs.Lexing.{tokens_of}
use Rattle.rustc_lexer.specs.Remaining.{tokens_left}
use Rattle.rustc_lexer.proofs.MeetingLemmas.{Walks}
use Rattle.rustc_lexer.proofs.relex.splice.relex.Given as goal

abbrev pub invariant-loop-place : goal.invariant-loop-place
invariant-loop-place l =
    Walks l.at (tokens_of (chars l.text)) l.to l.old l.fresh.items (tokens_left l.tokens) l.place l.boundary l.met

abbrev pub decreases-loop-place : goal.decreases-loop-place
decreases-loop-place l = length (tokens_left l.tokens) + (length l.old - l.met)
