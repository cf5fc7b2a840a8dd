use Rattle.std.proofs.Common.{◌∙◌, ap, refl, sym}
use Rattle.tt.specs.Tops.{Top}
use Rattle.expander_model.specs.Definitions.{definition_of}
use Rattle.expander_sources.proofs.ImportLemmas.{home_imported, home_imported_piece}
use Rattle.expander_sources.proofs.prelude.home_import.Goals as goal

pub returns-clause-right : goal.returns-clause-right
returns-clause-right c =
    home_imported c.args.import.now (record { place = c.args.import.now.place; tree = c.in-Ok.tree }) c.requires c.args.home.now c.args.key c.in-Some.definition
    (ap definition_of (sym (c.iter.ensures ∙ ap (λ (t : Top). t.inner) (c.tree.ensures ∙ c.as_ref.ensures))) ∙ sym c.definition_of.ensures ∙ c.in-Some.is)
    refl (c.in-Ok.ensures.ok ∙ c.new-tree.ensures ∙ c.in_ok-home_tree.ensures.tree)

pub returns-clause-piece : goal.returns-clause-piece
returns-clause-piece c =
    home_imported_piece c.args.import.now (record { place = c.args.import.now.place; tree = c.in-Ok.tree }) c.requires c.args.home.now c.args.key c.in-Some.definition
    (ap definition_of (sym (c.iter.ensures ∙ ap (λ (t : Top). t.inner) (c.tree.ensures ∙ c.as_ref.ensures))) ∙ sym c.definition_of.ensures ∙ c.in-Some.is)
    refl (c.in-Ok.ensures.ok ∙ c.new-tree.ensures ∙ c.in_ok-home_tree.ensures.tree)
