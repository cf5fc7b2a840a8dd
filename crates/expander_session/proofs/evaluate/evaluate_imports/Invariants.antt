use Rattle.std.proofs.Common.{◌≡◌, [], take}
use Rattle.expander_sources.specs.Imports.{import_pieces}
use Rattle.expander_session.specs.Evaluating.{AreLinks, HasImported}
use Rattle.expander_session.proofs.evaluate.evaluate_imports.Given as goal

abbrev pub invariant-loop-import : goal.invariant-loop-import
invariant-loop-import g l = record {
  has : HasImported (g.G.FragmentGrammar.answer l.context.grammar.now) l.fn.edition l.context.dialect.now l.context.depth l.context.memory.now
      (import_pieces (take l.import-index l.import-items)) l.now;
  links : AreLinks l.fn.now.taken [] → AreLinks l.now.taken [];
  lookup : l.now.lookup ≡ l.fn.now.lookup;
  expanded : l.now.taken.expanded ≡ l.fn.now.taken.expanded;
}
