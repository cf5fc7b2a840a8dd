use Rattle.std.proofs.Common.{◌≡◌, ◌∙◌, ◌+◌, ◌≤◌, ◌^◌, ap, refl, sym, subst, rules, List, [], ◌∷◌, ◌++◌}
use Rattle.bridge.specs.declared.printing.relative_spans.Place.{Place}
use Rattle.tt.specs.Tops.{Top}
use Rattle.tt_data.specs.Forest.{Forest}
use Rattle.expander_model.specs.DefinitionTrees.{definition_trees}
use Rattle.expander_model.specs.HashedTrees.{own_top}
use Rattle.expander_model.specs.Pieces.{relative}
use Rattle.expander_scope.specs.DefinitionTexts.{HasNumbered}
use Rattle.expander_sources.specs.Imports.{import_piece}
use Rattle.expander_scope.specs.Interning.{definition_tops, numbers_in}
use Rattle.expander_scope.specs.NewNumbers.{needed}
use Rattle.expander_scope.specs.Outcomes.{numbered_of_known}
use Rattle.expander_scope.specs.ScopeTable.{HasMet}
use Rattle.expander_scope.specs.declared.macro_def.MacroDef.{MacroDef}
use Rattle.expander_scope.proofs.HandedLemmas.{handed}
use Rattle.expander_session.specs.Caches.{trees_of}
use Rattle.expander_session.specs.MemoRefs.{plain_tops}
use Rattle.expander_session.proofs.ImportLemmas.{none_linked, one_tree}
use Rattle.expander_session.proofs.PassLemmas.{one_import}
use Rattle.expander_session.proofs.evaluate.evaluate_import.Goals as goal

pub returns-in_err-known-clause-cause : goal.returns-in_err-known-clause-cause
returns-in_err-known-clause-cause g c = λ trees has e.
    let piece : Forest = import_piece c.args.import.now in
    let tree_is : c.in_ok-tree.tree.value ≡ own_top (relative piece) = search rules in
    let one : c.in_ok-tree.tree.value.inner ∷ [] ≡ definition_trees (piece ∷ []) =
    ap (λ (t : Top). t.inner ∷ []) tree_is ∙ sym (one_tree piece c.requires.import.definition) in
    subst (λ (ts : List Forest). 2 ^ 32 ≤ c.args.context.now.memory.now.given + needed (trees_of c.args.context.now.memory.now) (trees ++ ts)) one
    (c.in_err-known.ensures.cause c.args.context.now.memory.now.given (trees_of c.args.context.now.memory.now) trees c.requires.have has
    (handed c.from_residual-in_err-known.result _ c.from_residual-in_err-known.ensures.1 e))

pub returns-clause-links : goal.returns-clause-links
returns-clause-links g c = λ h. none_linked (plain_tops c.args.now.now.taken.plains.items) (definition_tops c.args.now.now.taken.numbers.definitions.items)
    (definition_tops c.number.new.now.definitions.items) c.args.now.now.taken.links.items h

pub returns-clause-taken : goal.returns-clause-taken
returns-clause-taken g c = λ grammar depth before trees done has.
    let piece : Forest = import_piece c.args.import.now in
    let k : MacroDef = c.in_ok-known.known.value in
    let tree_is : c.in_ok-tree.tree.value ≡ own_top (relative piece) = search rules in
    one_import grammar c.args.now.now.scope.edition c.args.context.now.dialect.now depth c.args.context.now.memory.now piece c.args.now.now _ k (c.in_ok-known.ensures.tree ∙ tree_is)
    c.requires.import.definition
    (ap (λ (t : Top). numbers_in c.number.new.now.by_tree t.inner) (sym tree_is) ∙ c.in_ok-known.ensures.number)
    c.in_ok-known.ensures.grows
    (c.in_ok-known.ensures.table_read c.requires.can.old_read c.requires.can.table_read)
    c.in_ok-enter_scope.ensures.read c.in_ok-enter_scope.ensures.edition refl refl refl refl
    before trees done has
    (subst (λ (t : Top). HasNumbered c.args.context.now.memory.now.given c.args.context.now.memory.now.by_tree (trees_of c.args.context.now.memory.now) (trees ++ t.inner ∷ []) c.number.new.now) tree_is
    (c.in_ok-known.ensures.numbered c.args.context.now.memory.now.given (trees_of c.args.context.now.memory.now) trees c.requires.have has.taken.numbers))
    (subst (λ (p : Place). HasMet c.args.context.now.dialect.now c.enter_scope.new.scope (record { place = p; numbered = numbered_of_known k } ∷ before)) c.requires.import.place (c.in_ok-enter_scope.ensures.met before has.met))
    refl
