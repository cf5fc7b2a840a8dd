use Rattle.std.proofs.Common.{◌∙◌, List, drop, suc, sym, subst, take}
use Rattle.std.specs.Prelude.{All}
use Rattle.std.proofs.lemmas.List.Elements.{All-map, All-weaker}
use Rattle.tt_data.specs.Forest.{Forest}
use Rattle.tt_data.specs.declared.edition.Edition.{Edition}
use Rattle.expander_model.specs.DefinitionTrees.{definition_trees}
use Rattle.expander_model.specs.Held.{Stands}
use Rattle.expander_reparse.proofs.ListLemmas.{mapped_more}
use Rattle.expander_scope.proofs.HandedLemmas.{handed}
use Rattle.expander_sources.specs.Imports.{IsImport, import_piece, import_pieces}
use Rattle.expander_sources.specs.declared.import.Import.{Import}
use Rattle.expander_session.specs.Evaluating.{HasImported, Imports, NeedsMore}
use Rattle.expander_session.proofs.ImportLemmas.{imports_need, one_more, split_at}
use Rattle.expander_session.proofs.evaluate.evaluate_imports.Goals as goal

pub returns-in_err-evaluate_import-clause-cause : goal.returns-in_err-evaluate_import-clause-cause
returns-in_err-evaluate_import-clause-cause g c = λ e.
    let imports : List Import = c.imports_of-import-items.result.now in
    let done : List Forest = import_pieces (take c.loop-import.import-index imports) in
    let rest : List Forest = import_pieces (drop (suc c.loop-import.import-index) imports) in
    subst (λ (ps : List Forest). NeedsMore c.args.context.now.memory.now (definition_trees ps)) (sym c.imports_of-import-items.ensures.pieces)
    (imports_need (g.G.FragmentGrammar.answer c.args.context.now.grammar.now) c.args.edition c.args.context.now.dialect.now c.args.context.now.depth c.args.context.now.memory.now
    (import_pieces imports) done (import_piece c.import-item.result) rest
    (split_at import_piece imports c.loop-import.import-index c.import-item.result c.loop-import-test.true c.import-item.is)
    (c.in_err-evaluate_import.ensures.cause (definition_trees done) c.loop-import.invariant.has.taken.numbers
    (handed c.from_residual.result _ c.from_residual.ensures.1 e)))

pub loop-import-preserved : goal.loop-import-preserved
loop-import-preserved g c =
    let A = g.G.FragmentGrammar.answer c.args.context.now.grammar.now in
    let imports : List Import = c.imports_of-import-items.result.now in
    let done : List Forest = import_pieces (take c.loop-import.import-index imports) in
    let piece : Forest = import_piece c.import-item.result in
    record {
      has = subst (λ (ps : List Forest). HasImported A c.args.edition c.args.context.now.dialect.now c.args.context.now.depth c.args.context.now.memory.now ps c.evaluate_import.new.now)
          (sym (mapped_more import_piece imports c.loop-import.import-index c.import-item.result c.loop-import-test.true c.import-item.is))
          (one_more A c.args.edition c.args.context.now.dialect.now c.args.context.now.depth c.args.context.now.memory.now done piece c.loop-import.now c.evaluate_import.new.now
          c.loop-import.invariant.has c.in_ok-evaluate_import.ensures.grows
          (subst (λ (e : Edition). Imports A e c.args.context.now.dialect.now c.args.context.now.depth c.args.context.now.memory.now piece c.loop-import.now c.evaluate_import.new.now)
          c.loop-import.invariant.has.edition_is (c.in_ok-evaluate_import.ensures.taken A c.args.context.now.depth)));
      links = λ h. c.in_ok-evaluate_import.ensures.links (c.loop-import.invariant.links h);
      lookup = c.in_ok-evaluate_import.ensures.lookup ∙ c.loop-import.invariant.lookup;
      expanded = c.in_ok-evaluate_import.ensures.expanded ∙ c.loop-import.invariant.expanded;
    }

pub returns-clause-stands : goal.returns-clause-stands
returns-clause-stands g c =
    subst (All Stands) (sym c.imports_of-import-items.ensures.pieces)
    (All-map Stands import_piece c.imports_of-import-items.result.now
    (All-weaker IsImport (λ i. Stands (import_piece i)) (λ i is. is.stands) c.imports_of-import-items.result.now c.imports_of-import-items.ensures.right))
