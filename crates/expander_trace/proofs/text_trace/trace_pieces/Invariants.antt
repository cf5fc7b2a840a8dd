use Rattle.std.proofs.Common.{◌≡◌, ◌++◌, List, map}
use Rattle.tt_data.specs.Forest.{size}
use Rattle.expander_model.specs.Definitions.{Definition}
use Rattle.expander_model.specs.Pieces.{cut}
use Rattle.expander_scope.specs.ScopeTable.{AreRead}
use Rattle.call_expansion.specs.InScope.{HasInScope}
use Rattle.expander_trace.specs.Given.{trace_in}
use Rattle.expander_trace.specs.Steps.{rewrites}
use Rattle.expander_trace.specs.Texts.{by_trees, traces_after}
use Rattle.expander_trace.proofs.text_trace.trace_pieces.Given as goal

-- the traces so far, with those that are left, are all of them
abbrev pub invariant-loop-piece : goal.invariant-loop-piece
invariant-loop-piece g l = record {
  read : AreRead l.scope;
  edition : l.scope.edition ≡ l.by.edition;
  left : (before : List Definition) → HasInScope l.by.dialect.now l.fn.scope before → (now : List Definition) × HasInScope l.by.dialect.now l.scope now
      × (map trace_in l.traces.items ++ map by_trees (traces_after (rewrites (g.G.FragmentGrammar.answer l.by.grammar.now) l.by.edition) l.by.dialect.now l.by.depth l.at l.left now (cut l.rest))
      ≡ map by_trees (traces_after (rewrites (g.G.FragmentGrammar.answer l.by.grammar.now) l.by.edition) l.by.dialect.now l.by.depth l.at l.fn.limits before (cut l.trees)));
}

abbrev pub decreases-loop-piece : goal.decreases-loop-piece
decreases-loop-piece g l = size l.rest
