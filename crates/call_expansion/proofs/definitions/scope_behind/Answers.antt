use Rattle.std.proofs.Common.{◌≡◌, ◌∙◌, ◌+◌, List, [], ap, subst, sym, take}
use Rattle.tt_data.specs.Forest.{Forest}
use Rattle.expander_model.specs.Definitions.{definition_of}
use Rattle.expander_model.specs.Meaning.{definitions_after, with_definition}
use Rattle.pieced_text.specs.expander_sources.Imports.{import_piece, import_pieces}
use Rattle.pieced_text.specs.expander_sources.declared.import.Import.{Import}
use Rattle.call_expansion.specs.InScope.{HasInScope}
use Rattle.call_expansion.proofs.ListLemmas.{mapped_more, taken_all}
use Rattle.call_expansion.proofs.ScopeLemmas.{after_more}
use Rattle.call_expansion.proofs.definitions.scope_behind.Goals as goal

pub loop-import-init : goal.loop-import-init
loop-import-init c = record { met = c.in_ok-scope.ensures.none c.args.dialect.now; edition = c.in_ok-scope.ensures.edition; read = c.in_ok-scope.ensures.read }

pub loop-import-preserved : goal.loop-import-preserved
loop-import-preserved c =
    let imports : List Import = c.imports_of-import-items.result.now in
    let before : List Forest = import_pieces (take c.loop-import.import-index imports) in
    let piece : c.iter.result ≡ import_piece c.import-item.result = c.iter.ensures ∙ c.in_ok-tree.ensures.tree in
    let more : definitions_after [] (import_pieces (take (c.loop-import.import-index + 1) imports)) ≡ with_definition (definition_of c.iter.result) (definitions_after [] before) =
    ap (definitions_after []) (mapped_more import_piece imports c.loop-import.import-index c.import-item.result c.loop-import-test.true c.import-item.is)
    ∙ after_more [] before (import_piece c.import-item.result)
    ∙ ap (λ (p : Forest). with_definition (definition_of p) (definitions_after [] before)) (sym piece) in
    record {
      met = subst (HasInScope c.args.dialect.now c.define.new.scope) (sym more) (c.in_ok-define.ensures.met (definitions_after [] before) c.loop-import.invariant.met);
      edition = c.in_ok-define.ensures.edition ∙ c.loop-import.invariant.edition;
      read = c.in_ok-define.ensures.read;
    }

pub returns-clause-met : goal.returns-clause-met
returns-clause-met c =
    subst (λ (ps : List Forest). HasInScope c.args.dialect.now c.loop-import.scope (definitions_after [] ps))
    (taken_all import_piece c.imports_of-import-items.result.now c.loop-import.import-index c.loop-import-test.false ∙ sym c.imports_of-import-items.ensures.pieces)
    c.loop-import.invariant.met
