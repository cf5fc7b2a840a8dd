use Rattle.std.proofs.Common.{◌∙◌, ap, arith, sym, ◌++◌, ◌-◌, List, ℕ}
use Rattle.std.proofs.lemmas.Result.{on_ok_weaker}
use Rattle.bridge.specs.RelativeSpans.{moved_to}
use Rattle.tt_data.specs.Forest.{map_spans}
use Rattle.std.specs.Prelude.{flat_map}
use Rattle.expander_model.specs.Pieces.{cut}
use Rattle.expander_sources.specs.Sources.{Item, items_of}
use Rattle.std.proofs.Common.{append-nil}
use Rattle.expander_sources.proofs.ItemLemmas.{a_module, module_ordered, next_items, no_module, piece_items, piece_ordered, rest_ordered}
use Rattle.expander_sources.proofs.items.+items.Goals as goal

pub push_inner-push_nested-requires : goal.push_inner-push_nested-requires
push_inner-push_nested-requires t c =
    (omega arith, piece_ordered c.args.base.text c.loop-piece.rest c.in-Some.piece c.next_piece.new.rest (rw c.in-Some.is at c.next_piece.ensures).0 c.loop-piece.invariant.1)

pub push_inner-loop-piece-preserved : goal.push_inner-loop-piece-preserved
push_inner-loop-piece-preserved t c = (
  next_items (moved_to c.args.base) (items_of c.args.levels c.args.modules.now.items) c.loop-piece.rest c.in-Some.piece c.next_piece.new.rest c.loop-piece.items.items c.push_nested.new.items.items
      (rw c.in-Some.is at c.next_piece.ensures).0 c.in_ok-push_nested.ensures.ok ∙ c.loop-piece.invariant.0,
  rest_ordered c.args.base.text c.loop-piece.rest c.in-Some.piece c.next_piece.new.rest (rw c.in-Some.is at c.next_piece.ensures).0 c.loop-piece.invariant.1,
)

pub push_module-returns-in_default-clause-ok : goal.push_module-returns-in_default-clause-ok
push_module-returns-in_default-clause-ok t c =
    sym (append-nil c.args.items.now.items)
    ∙ ap (λ (xs : List Item). c.args.items.now.items ++ xs)
    (sym (no_module (moved_to c.args.base) c.args.levels c.args.modules.now.items c.args.piece.now (sym c.module_of.ensures ∙ c.in_default.is)))

pub push_module-push_inner-requires : goal.push_module-push_inner-requires
push_module-push_inner-requires t c =
    (omega (arith, c.if-levels-eq0.false), module_ordered c.args.base.text c.args.piece.now c.in-Some.name c.in-Some.inner (sym c.module_of.ensures ∙ c.in-Some.is) c.requires)

pub push_nested-returns-clause-ok : goal.push_nested-returns-clause-ok
push_nested-returns-clause-ok t c =
    on_ok_weaker c.push_module.result
    (piece_items (moved_to c.args.base) c.args.levels c.args.modules.now.items (map_spans (moved_to c.args.base) c.args.piece.now) _ _ _ c.in_ok-push_definition.ensures.ok)
    c.push_module.ensures.ok

pub push_module-returns-clause-ok : goal.push_module-returns-clause-ok
push_module-returns-clause-ok t c =
    on_ok_weaker c.push_inner.result
    (λ e. e
    ∙ ap (λ (ms : List (List ℕ)). c.args.items.now.items ++ flat_map (items_of (c.args.levels - 1) ms) (cut (map_spans (moved_to c.args.base) c.in-Some.inner))) c.in_ok-modules.ensures
    ∙ ap (λ (xs : List Item). c.args.items.now.items ++ xs)
    (sym (a_module (moved_to c.args.base) c.args.levels c.args.modules.now.items c.args.piece.now c.in-Some.name c.in-Some.inner
    (λ z. omega (arith, z, c.if-levels-eq0.false)) (sym c.module_of.ensures ∙ c.in-Some.is))))
    c.push_inner.ensures.ok
