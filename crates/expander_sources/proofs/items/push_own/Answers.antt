use Rattle.std.proofs.Common.{◌≡◌, ℕ, List, [], ◌++◌, ◌∙◌, ap, append-nil, rules, subst, sym, false, None}
use Rattle.std.specs.Prelude.{is_some}
use Rattle.std.proofs.lemmas.Result.{on_ok_weaker}
use Rattle.bridge.specs.RelativeSpans.{moved_to}
use Rattle.bridge.specs.declared.printing.relative_spans.Place.{Place}
use Rattle.tt.specs.Tops.{Top}
use Rattle.tt_data.specs.Forest.{Forest, map_spans}
use Rattle.expander_model.specs.Definitions.{definition_of}
use Rattle.expander_reparse.specs.RelativePieces.{piece_at, tree_at}
use Rattle.expander_sources.specs.SourceItems.{AreOrdered}
use Rattle.expander_sources.specs.Sources.{Item, items_of, module_of, most_modules, of_text}
use Rattle.expander_sources.proofs.PushLemmas.{nothing_there}
use Rattle.expander_sources.proofs.SourceLemmas.{there_is, tree_ordered}
use Rattle.expander_sources.proofs.items.push_own.Goals as goal

pub push_nested-requires : goal.push_nested-requires
push_nested-requires c =
    subst (AreOrdered c.args.number)
    (sym (c.iter-2.ensures ∙ c.in_ok-tree.ensures.tree
    ∙ ap (λ (t : Top). map_spans (of_text c.args.number) t.inner) (c.tree-2.ensures ∙ c.as_ref-tree.ensures ∙ c.get.ensures)))
    (tree_ordered c.args.number c.args.piece.now c.requires)

pub returns-then-is_none-clause-ok : goal.returns-then-is_none-clause-ok
returns-then-is_none-clause-ok c =
    let o = c.args.piece.now in
    let tree_is : c.as_ref-tree.result.now ≡ tree_at o = c.as_ref-tree.ensures ∙ c.get.ensures in
    let not_one : c.is_definition.result ≡ false = search rules in
    let absent : is_some (definition_of (tree_at o).inner) ≡ false =
    ap (λ (x : Top). is_some (definition_of x.inner)) (sym tree_is) ∙ sym c.is_definition.ensures ∙ not_one in
    let none : module_of (tree_at o).inner ≡ None =
    ap (λ (x : Top). module_of x.inner) (sym tree_is) ∙ (let here : module_of c.as_ref-tree.result.now.inner ≡ None = search rules in here) in
    sym (append-nil c.args.items.now.items) ∙ ap (λ (xs : List Item). c.args.items.now.items ++ xs) (sym (nothing_there c.args.number o absent none))

pub returns-clause-ok : goal.returns-clause-ok
returns-clause-ok c =
    let o = c.args.piece.now in
    let place : Place = record { text = c.args.number; start = o.start } in
    let iter_is : c.iter-2.result ≡ map_spans (of_text c.args.number) (tree_at o).inner =
    c.iter-2.ensures ∙ c.in_ok-tree.ensures.tree
    ∙ ap (λ (t : Top). map_spans (of_text c.args.number) t.inner) (c.tree-2.ensures ∙ c.as_ref-tree.ensures ∙ c.get.ensures) in
    let same : items_of most_modules c.new-none.result.items (map_spans (moved_to place) c.iter-2.result)
    ≡ items_of most_modules [] (map_spans (of_text c.args.number) (piece_at o)) =
    ap (λ (ms : List (List ℕ)). items_of most_modules ms (map_spans (moved_to place) c.iter-2.result)) c.new-none.ensures.items
    ∙ ap (λ (g : Forest). items_of most_modules [] (map_spans (moved_to place) g)) iter_is
    ∙ ap (items_of most_modules []) (there_is c.args.number o c.requires) in
    on_ok_weaker c.push_nested.result
    (λ (h : c.push_nested.new.items.items ≡ c.args.items.now.items ++ items_of most_modules c.new-none.result.items (map_spans (moved_to place) c.iter-2.result)).
    h ∙ ap (λ (xs : List Item). c.args.items.now.items ++ xs) same)
    c.push_nested.ensures.ok
