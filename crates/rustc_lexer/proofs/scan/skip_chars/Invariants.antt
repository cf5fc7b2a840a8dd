use Rattle.std.proofs.Common.{◌≡◌, length, drop, chars}
use Rattle.std.specs.List.{prefix_len}
use denote.Shadow.{shadow}
use denote.Text.{Utf8}
use Rattle.rustc_lexer.proofs.scan.skip_chars.Given as goal

abbrev pub invariant-loop-c : goal.invariant-loop-c
invariant-loop-c g l =
    let passes = g.T.CharTest.passes in
    shadow (Utf8 l.rest) × (drop (prefix_len passes (chars l.rest)) (chars l.rest) ≡ drop (prefix_len passes (chars l.text)) (chars l.text))

abbrev pub decreases-loop-c : goal.decreases-loop-c
decreases-loop-c g l = length (chars l.rest)
