use Rattle.std.proofs.Common.{◌≡◌, ◌∙◌, ℕ, ap, arith, length, refl, sym, subst, rules, ◌++◌, [], ◌∷◌}
use Rattle.std.specs.Prelude.{is_some}
use Rattle.bridge.specs.declared.printing.relative_spans.Place.{Place}
use Rattle.tt.specs.Tops.{Top}
use Rattle.expander_scope.specs.Interning.{definition_tops, numbers_in}
use Rattle.expander_model.specs.Definitions.{definition_of}
use Rattle.expander_scope.specs.ScopeTable.{HasMet}
use Rattle.expander_scope.specs.Outcomes.{numbered_of_known}
use Rattle.expander_model.specs.Pieces.{first_start}
use Rattle.expander_session.specs.AbsoluteSpans.{told_of}
use Rattle.expander_session.specs.Caches.{trees_of}
use Rattle.expander_scope.specs.DefinitionTexts.{HasNumbered}
use Rattle.expander_scope.specs.declared.macro_def.MacroDef.{MacroDef}
use Rattle.expander_scope.proofs.HandedLemmas.{handed}
use Rattle.expander_session.specs.MemoRefs.{plain_tops}
use Rattle.expander_session.specs.declared.memo_ref.MemoRef.TheVariants as link
use Rattle.expander_session.proofs.MemoRefLemmas.{definition_more}
use Rattle.expander_session.proofs.PassLemmas.{one_definition}
use Rattle.expander_session.proofs.evaluate.evaluate_definition.Goals as goal

pub returns-in_err-known-clause-cause : goal.returns-in_err-known-clause-cause
returns-in_err-known-clause-cause g c = λ trees have has e.
    c.in_err-known.ensures.cause c.args.context.now.memory.now.given (trees_of c.args.context.now.memory.now) trees have has (handed c.from_residual.result _ c.from_residual.ensures.1 e)

pub returns-clause-taken : goal.returns-clause-taken
returns-clause-taken g c = λ grammar depth piece law have start_is tree_is before trees done has.
    let k : MacroDef = c.in_ok-known.known.value in
    let same : c.as_ref.result.now ≡ k = search rules in
    let ed = c.args.now.now.scope.edition in
    one_definition grammar ed c.args.context.now.dialect.now depth c.args.context.now.memory.now piece c.args.now.now _ k (c.in_ok-known.ensures.tree ∙ tree_is)
    (ap (λ (t : Top). is_some (definition_of t.inner)) (sym tree_is) ∙ c.requires.definition)
    (ap (λ (t : Top). numbers_in c.number.new.now.by_tree t.inner) (sym tree_is) ∙ c.in_ok-known.ensures.number)
    c.in_ok-known.ensures.grows
    (c.in_ok-known.ensures.table_read c.requires.can.old_read c.requires.can.table_read)
    c.in_ok-enter_scope.ensures.read c.in_ok-enter_scope.ensures.edition refl refl refl refl
    before trees done has
    (subst (λ (t : Top). HasNumbered c.args.context.now.memory.now.given c.args.context.now.memory.now.by_tree (trees_of c.args.context.now.memory.now) (trees ++ t.inner ∷ []) c.number.new.now) tree_is
    (c.in_ok-known.ensures.numbered c.args.context.now.memory.now.given (trees_of c.args.context.now.memory.now) trees have has.taken.numbers))
    (subst (λ (p : Place). HasMet c.args.context.now.dialect.now c.enter_scope.new.scope (record { place = p; numbered = numbered_of_known k } ∷ before)) start_is (c.in_ok-enter_scope.ensures.met before has.met))
    law (c.in_ok-known.ensures.read c.requires.can.old_read c.requires.can.table_read)
    (c.in_ok-tell.ensures ∙ ap (λ (p : Place). c.args.now.now.taken.faults.items ++ told_of c.args.context.now.dialect.now p.start c.as_ref.result.now) start_is
    ∙ ap (λ (x : MacroDef). c.args.now.now.taken.faults.items ++ told_of c.args.context.now.dialect.now (first_start piece) x) same)

pub returns-clause-links : goal.returns-clause-links
returns-clause-links g c = λ trees h.
    let index : c.len-index.result ≡ length c.args.now.now.taken.numbers.definitions.items = omega arith in
    definition_more c.args.now.now.taken.numbers.definitions.items c.number.new.now.definitions.items (plain_tops c.args.now.now.taken.plains.items)
    c.args.now.now.taken.links.items c.add_link.new.links.items trees c.args.tree.value
    (c.in_ok-known.ensures.listed ∙ ap (λ (t : Top). definition_tops c.args.now.now.taken.numbers.definitions.items ++ t ∷ []) c.in_ok-known.ensures.tree)
    (c.in_ok-add_link.ensures ∙ ap (λ (n : ℕ). c.args.now.now.taken.links.items ++ link.Definition n ∷ []) index) h
