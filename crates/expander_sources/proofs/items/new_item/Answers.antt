use Rattle.std.proofs.Common.{◌∙◌, ◌+◌, ap, sym}
use Rattle.tt.specs.Tops.{Top}
use Rattle.expander_model.specs.Definitions.{Definition, definition_of}
use Rattle.expander_sources.specs.Sources.{end_behind}
use Rattle.std.proofs.Common.{ℕ}
use Rattle.expander_sources.proofs.ImportLemmas.{item_right}
use Rattle.expander_sources.proofs.items.new_item.Goals as goal

pub invariant_of-result : goal.invariant_of-result
invariant_of-result c =
    let tree_is = c.iter-tree.ensures ∙ ap (λ (t : Top). t.inner) (c.tree.ensures ∙ c.as_ref.ensures) in
    item_right c.args.import c.in-Some.definition c.requires
    (ap definition_of (sym tree_is) ∙ sym c.definition_of.ensures ∙ c.in-Some.is)
    c.definition.inside.name.sym c.in_ok-name_range.name_range c.in_ok-range.range
    (ap (λ (d : Definition). d.name.sym) c.definition.view_is)
    (c.in_ok-name_range.ensures
    ∙ ap (λ (d : Definition). record { start = c.args.import.place.start + d.name.span.range.start; «end» = c.args.import.place.start + d.name.span.range.«end» }) c.definition.view_is)
    (c.in_ok-range.ensures ∙ ap (λ (n : ℕ). record { start = c.args.import.place.start + 0; «end» = c.args.import.place.start + n }) (c.end_of.ensures ∙ ap (end_behind 0) tree_is))
