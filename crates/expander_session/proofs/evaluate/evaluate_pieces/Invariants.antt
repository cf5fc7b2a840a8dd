use Rattle.std.proofs.Common.{◌≤◌, ◌+◌, drop, length, map, take}
use Rattle.expander_reparse.specs.RelativePieces.{piece_at, tree_at}
use Rattle.expander_session.specs.LookupTrees.{IndexesMemos}
use Rattle.expander_session.specs.Evaluating.{AreLinks}
use Rattle.expander_session.proofs.PassLoopLemmas.{Left}
use Rattle.expander_session.proofs.evaluate.evaluate_pieces.Given as goal

abbrev pub invariant-loop-own : goal.invariant-loop-own
invariant-loop-own g l = record {
  room : l.now.taken.expanded + length (drop l.own-index l.pieces) ≤ l.most;
  lookup : IndexesMemos l.now.lookup l.context.memory.now.plains.items;
  links : AreLinks l.now.taken (map tree_at (take l.own-index l.pieces));
  left : Left (g.G.FragmentGrammar.answer l.context.grammar.now) l.fn.edition l.context.dialect.now l.context.depth l.context.memory.now l.context.prelude.now (map piece_at l.pieces) (map piece_at (drop l.own-index l.pieces)) l.now;
}
