use Rattle.std.proofs.Common.{◌≡◌, [], take}
use Rattle.expander_model.specs.Meaning.{definitions_after}
use Rattle.expander_scope.specs.ScopeTable.{AreRead}
use Rattle.pieced_text.specs.expander_sources.Imports.{import_pieces}
use Rattle.call_expansion.specs.InScope.{HasInScope}
use Rattle.call_expansion.proofs.definitions.scope_behind.Given as goal

-- the definitions so far are in scope
abbrev pub invariant-loop-import : goal.invariant-loop-import
invariant-loop-import l = record {
  met : HasInScope l.dialect l.scope (definitions_after [] (import_pieces (take l.import-index l.import-items)));
  edition : l.scope.edition ≡ l.fn.edition;
  read : AreRead l.scope;
}
