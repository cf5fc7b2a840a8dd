use Rattle.std.proofs.Common.{◌≤◌, chars, length}
use Rattle.rustc_lexer.specs.Literals.{raw_body}
use Rattle.rustc_lexer.proofs.RawFormLemmas.{HasFound}
use Rattle.rustc_lexer.proofs.ReadLemmas.{Leads}
use denote.Shadow.{shadow}
use denote.Text.{Utf8}
use Rattle.rustc_lexer.proofs.raw_str.check_body.Given as goal

abbrev pub invariant-loop-after : goal.invariant-loop-after
invariant-loop-after l =
    shadow (Utf8 l.rest) × (length l.rest ≤ length l.fn.body) × Leads (raw_body l.fn.n (chars l.fn.body)) (chars l.fn.body) (raw_body l.fn.n (chars l.rest)) (chars l.rest)
    × HasFound l.fn.start (chars l.fn.body) (chars l.rest) l.found l.possible_terminator_offset

abbrev pub decreases-loop-after : goal.decreases-loop-after
decreases-loop-after l = length (chars l.rest)
