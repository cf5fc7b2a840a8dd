use Rattle.std.proofs.Common.{◌∙◌, ◌+◌, List, ap, ℕ}
use Rattle.bridge.specs.RelativeSpans.{moved_to}
use Rattle.tt_data.specs.Forest.{Forest, map_spans}
use Rattle.expander_sources.proofs.ImportLemmas.{inner_import, inner_import_piece}
use Rattle.expander_sources.proofs.items.nested_item.Goals as goal

pub new_item-requires : goal.new_item-requires
new_item-requires c =
    inner_import c.args.base.text c.args.base.start c.args.piece.now c.requires.definition c.requires.ordered
    (record { place = c.in_ok-place.place; tree = c.in-Ok.tree })
    (c.in_ok-place.ensures ∙ ap (λ (n : ℕ). record { text = c.args.base.text; start = c.args.base.start + n }) c.start_of.ensures)
    (c.in-Ok.ensures.ok ∙ c.new-tree.ensures ∙ c.in_ok-own_tree.ensures.tree)

pub returns-clause-item : goal.returns-clause-item
returns-clause-item c =
    c.in_ok-new_item.ensures
    ∙ ap (λ (p : Forest). record { modules = c.in_ok-names_of.field-0.items; piece = p })
    (inner_import_piece c.args.base.text c.args.base.start c.args.piece.now c.requires.definition c.requires.ordered
    (record { place = c.in_ok-place.place; tree = c.in-Ok.tree })
    (c.in_ok-place.ensures ∙ ap (λ (n : ℕ). record { text = c.args.base.text; start = c.args.base.start + n }) c.start_of.ensures)
    (c.in-Ok.ensures.ok ∙ c.new-tree.ensures ∙ c.in_ok-own_tree.ensures.tree))
    ∙ ap (λ (ms : List (List ℕ)). record { modules = ms; piece = map_spans (moved_to c.args.base) c.args.piece.now }) c.in_ok-names_of.ensures
