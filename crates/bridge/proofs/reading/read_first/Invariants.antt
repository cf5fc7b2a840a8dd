use Rattle.rustc_lexer.specs.TokensAt.{AreTokensFrom}
use Rattle.bridge.specs.Parts.{part_steps}
use Rattle.bridge.proofs.ReadTokensLemmas.{IsReadSoFar}
use Rattle.bridge.proofs.reading.read_first.Given as goal

abbrev pub invariant-loop-left : goal.invariant-loop-left
invariant-loop-left l = record {
  stand : AreTokensFrom l.text l.start l.rest;
  so_far : IsReadSoFar (part_steps 0 l.count l.text l.tokens) l.text l.start l.left l.rest l.builder.tree;
}

abbrev pub decreases-loop-left : goal.decreases-loop-left
decreases-loop-left l = l.left
