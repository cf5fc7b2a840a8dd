use Rattle.std.proofs.Common.{◌≡◌, List}
use Rattle.tt_data.specs.Forest.{size}
use Rattle.expander_model.specs.Definitions.{Definition}
use Rattle.expander_model.specs.Pieces.{cut}
use Rattle.expander_scope.specs.ScopeTable.{AreRead}
use Rattle.call_expansion.specs.InScope.{HasInScope}
use Rattle.call_expansion.specs.Texts.{text_layers}
use Rattle.call_expansion.proofs.TextLemmas.{Left}
use Rattle.call_expansion.proofs.text_call.call_in_pieces.Given as goal

abbrev pub invariant-loop-piece : goal.invariant-loop-piece
invariant-loop-piece g l = record {
  read : AreRead l.scope;
  edition : l.scope.edition ≡ l.by.edition;
  left : (before : List Definition) → HasInScope l.by.dialect.now l.fn.scope before → (now : List Definition) × HasInScope l.by.dialect.now l.scope now
      × Left (text_layers (g.G.FragmentGrammar.answer l.by.grammar.now) l.by.edition l.by.dialect.now) l.by.depth l.at before (cut l.trees) now (cut l.rest);
}

abbrev pub decreases-loop-piece : goal.decreases-loop-piece
decreases-loop-piece g l = size l.rest
