use Rattle.std.proofs.Common.{◌≡◌, length}
use Rattle.rustc_lexer.specs.Remaining.{tokens_left}
use Rattle.bridge.specs.TokenShares.{AreInText, ranges_left}
use Rattle.bridge.proofs.printing.token_ranges.TokenRangesIterator.next.Given as goal

abbrev pub invariant-loop-self : goal.invariant-loop-self
invariant-loop-self l = record {
  still : l.fn.self ≡ ranges_left l.self-inside.share l.self-inside.range l.self-inside.start (tokens_left l.self-inside.tokens);
  inside : AreInText l.self-inside.share l.self-inside.range l.self-inside.start (tokens_left l.self-inside.tokens);
}

abbrev pub decreases-loop-self : goal.decreases-loop-self
decreases-loop-self l = length (tokens_left l.self-inside.tokens)
