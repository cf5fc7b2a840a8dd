use Rattle.std.proofs.Common.{◌+◌, sym, subst, arith, drop, take, map}
use Rattle.tt_data.specs.declared.edition.Edition.{Edition}
use Rattle.expander_session.specs.Caches.{IsCache}
use Rattle.expander_reparse.specs.RelativePieces.{IsOwnPiece, piece_at, tree_at}
use Rattle.expander_reparse.specs.Reparsing.{IsMet}
use Rattle.expander_session.specs.Evaluating.{AreLinks, MakesTooMany, Evaluates}
use Rattle.expander_model.specs.World.{world}
use Rattle.expander_reparse.specs.declared.piece.Piece.{Piece}
use Rattle.expander_scope.proofs.HandedLemmas.{handed}
use Rattle.expander_reparse.proofs.RelativePieceLemmas.{all_stand, left_length, next_own, no_own}
use Rattle.expander_session.proofs.PassLoopLemmas.{Left, can_define, left_begins, left_bursts, left_done, left_more, left_needs, none_imported}
use Rattle.expander_reparse.proofs.ListLemmas.{all_mapped, mapped_more, stands_at}
use Rattle.expander_model.specs.DefinitionTrees.{definition_trees}
use Rattle.expander_session.specs.LookupTrees.{IndexesMemos}
use Rattle.expander_session.specs.declared.memo_index.MemoIndex.{MemoIndex}
use Rattle.expander_session.proofs.EvaluateLemmas.{all_at}
use Rattle.expander_session.proofs.ImportLemmas.{needs_before}
use Rattle.expander_session.proofs.WorldLemmas.{RuleLaws, world_at_other_places}
use Rattle.expander_session.proofs.evaluate.evaluate_pieces.Goals as goal

pub loop-own-init : goal.loop-own-init
loop-own-init g c =
    let A = g.G.FragmentGrammar.answer c.args.context.now.grammar.now in
    record {
      room = omega (arith, (c.in_ok-now.ensures.taken A c.args.context.now.dialect.now c.args.context.now.depth c.requires.right).expanded, c.in_ok-evaluate_imports.ensures.expanded);
      lookup = subst (λ (i : MemoIndex). IndexesMemos i c.args.context.now.memory.now.plains.items) (sym c.in_ok-evaluate_imports.ensures.lookup)
          (c.in_ok-now.ensures.lookup c.args.context.now.memory.now.plains.items);
      links = c.in_ok-evaluate_imports.ensures.links c.in_ok-now.ensures.links;
      left = left_begins A c.args.edition c.args.context.now.dialect.now c.args.context.now.depth c.args.context.now.memory.now c.args.context.now.prelude.now (map piece_at c.args.pieces.now)
          c.in_ok-evaluate_imports.ensures.stands (all_stand c.args.pieces.now c.requires.own) _ c.in_ok-evaluate_imports.ensures.taken;
    }

pub evaluate_imports-requires-clause-none : goal.evaluate_imports-requires-clause-none
evaluate_imports-requires-clause-none g c =
    let A = g.G.FragmentGrammar.answer c.args.context.now.grammar.now in
    none_imported A c.args.edition c.args.context.now.dialect.now c.args.context.now.depth c.args.context.now.memory.now c.args.context.now.prelude.now (map piece_at c.args.pieces.now) _
    (c.in_ok-now.ensures.none c.args.context.now.dialect.now) c.in_ok-now.ensures.read c.in_ok-now.ensures.edition (c.in_ok-now.ensures.taken A c.args.context.now.dialect.now c.args.context.now.depth c.requires.right)

pub returns-in_err-evaluate_imports-clause-tokens : goal.returns-in_err-evaluate_imports-clause-tokens
returns-in_err-evaluate_imports-clause-tokens g c = λ e.
    absurd (c.in_err-evaluate_imports.ensures.tokens (handed c.from_residual-in_err-evaluate_imports.result _ c.from_residual-in_err-evaluate_imports.ensures.1 e))

pub returns-in_err-evaluate_imports-clause-numbers : goal.returns-in_err-evaluate_imports-clause-numbers
returns-in_err-evaluate_imports-clause-numbers g c = λ e.
    needs_before c.args.context.now.memory.now (definition_trees c.args.context.now.prelude.now) (definition_trees (map piece_at c.args.pieces.now))
    (c.in_err-evaluate_imports.ensures.cause (handed c.from_residual-in_err-evaluate_imports.result _ c.from_residual-in_err-evaluate_imports.ensures.1 e))

pub evaluate_piece-requires-clause-right : goal.evaluate_piece-requires-clause-right
evaluate_piece-requires-clause-right g c =
    let A = g.G.FragmentGrammar.answer c.args.context.now.grammar.now in
    subst (λ (e : Edition). IsCache (world A e c.args.context.now.dialect.now) c.args.context.now.depth e c.args.context.now.memory.now) (sym c.loop-own.invariant.left.has.edition_is) c.requires.right

pub evaluate_piece-requires-clause-can : goal.evaluate_piece-requires-clause-can
evaluate_piece-requires-clause-can g c =
    can_define (g.G.FragmentGrammar.answer c.args.context.now.grammar.now) c.args.edition c.args.context.now.dialect.now c.args.context.now.depth c.args.context.now.memory.now c.args.context.now.prelude.now (map piece_at c.args.pieces.now) _ c.loop-own.now c.requires.right c.loop-own.invariant.left

pub evaluate_piece-requires-clause-places : goal.evaluate_piece-requires-clause-places
evaluate_piece-requires-clause-places g c =
    let laws : RuleLaws = record {
      rules = c.rules_at_other_places.ensures.macro_rules;
      macros = c.rules_at_other_places.ensures.macros;
      fits = c.fit_at_other_places.ensures.rules;
      bursts = c.bursts_at_other_places.ensures.rules;
      put_out = c.bursts_at_other_places.ensures.put_out;
    } in
    world_at_other_places laws (g.G.FragmentGrammar.answer c.args.context.now.grammar.now) c.loop-own.now.scope.edition c.args.context.now.dialect.now

pub evaluate_piece-requires-clause-room : goal.evaluate_piece-requires-clause-room
evaluate_piece-requires-clause-room g c =
    let one = left_length c.args.pieces.now c.loop-own.own-index c.own-item.result c.loop-own-test.true in
    omega (arith, c.loop-own.invariant.room, one)

pub evaluate_piece-requires-clause-lookup : goal.evaluate_piece-requires-clause-lookup
evaluate_piece-requires-clause-lookup g c = c.loop-own.invariant.lookup

pub evaluate_piece-requires-clause-met : goal.evaluate_piece-requires-clause-met
evaluate_piece-requires-clause-met g c =
    all_at (λ (o : Piece). IsMet c.args.context.now.memory.now.sources o.met (tree_at o)) c.args.pieces.now c.loop-own.own-index c.own-item.result c.requires.met
    (stands_at c.args.pieces.now c.loop-own.own-index c.own-item.result c.loop-own-test.true c.own-item.is)

pub evaluate_piece-requires-clause-own : goal.evaluate_piece-requires-clause-own
evaluate_piece-requires-clause-own g c =
    (all_at IsOwnPiece c.args.pieces.now c.loop-own.own-index c.own-item.result c.requires.own
    (stands_at c.args.pieces.now c.loop-own.own-index c.own-item.result c.loop-own-test.true c.own-item.is)).is_own

pub loop-own-preserved : goal.loop-own-preserved
loop-own-preserved g c =
    let A = g.G.FragmentGrammar.answer c.args.context.now.grammar.now in
    let laws : RuleLaws = record {
      rules = c.rules_at_other_places.ensures.macro_rules;
      macros = c.rules_at_other_places.ensures.macros;
      fits = c.fit_at_other_places.ensures.rules;
      bursts = c.bursts_at_other_places.ensures.rules;
      put_out = c.bursts_at_other_places.ensures.put_out;
    } in
    let next = next_own c.args.pieces.now c.loop-own.own-index c.own-item.result c.loop-own-test.true c.own-item.is in
    let one = left_length c.args.pieces.now c.loop-own.own-index c.own-item.result c.loop-own-test.true in
    let left : Left A c.args.edition c.args.context.now.dialect.now c.args.context.now.depth c.args.context.now.memory.now c.args.context.now.prelude.now (map piece_at c.args.pieces.now) _ c.loop-own.now = rw next at c.loop-own.invariant.left in
    record {
      room = omega (arith, c.in_ok-evaluate_piece.ensures.expanded, c.loop-own.invariant.room, one);
      lookup = c.in_ok-evaluate_piece.ensures.lookup;
      links = subst (AreLinks c.evaluate_piece.new.now.taken)
          (sym (mapped_more tree_at c.args.pieces.now c.loop-own.own-index c.own-item.result c.loop-own-test.true c.own-item.is))
          (c.in_ok-evaluate_piece.ensures.links (map tree_at (take c.loop-own.own-index c.args.pieces.now)) c.loop-own.invariant.links);
      left = left_more A c.args.edition c.args.context.now.dialect.now c.args.context.now.depth c.args.context.now.memory.now c.args.context.now.prelude.now (map piece_at c.args.pieces.now) (piece_at c.own-item.result)
          (map piece_at (drop (c.loop-own.own-index + 1) c.args.pieces.now)) c.loop-own.now left
          c.equal_pieces.ensures (world_at_other_places laws A c.args.edition c.args.context.now.dialect.now) c.evaluate_piece.new.now c.in_ok-evaluate_piece.ensures.grows
          (subst (λ (e : Edition). Evaluates A e c.args.context.now.dialect.now c.args.context.now.depth c.args.context.now.memory.now (piece_at c.own-item.result) c.loop-own.now c.evaluate_piece.new.now) left.has.edition_is c.in_ok-evaluate_piece.ensures.taken);
    }

pub returns-in_err-evaluate_piece-clause-tokens : goal.returns-in_err-evaluate_piece-clause-tokens
returns-in_err-evaluate_piece-clause-tokens g c = λ e.
    let A = g.G.FragmentGrammar.answer c.args.context.now.grammar.now in
    let laws : RuleLaws = record {
      rules = c.rules_at_other_places.ensures.macro_rules;
      macros = c.rules_at_other_places.ensures.macros;
      fits = c.fit_at_other_places.ensures.rules;
      bursts = c.bursts_at_other_places.ensures.rules;
      put_out = c.bursts_at_other_places.ensures.put_out;
    } in
    let next = next_own c.args.pieces.now c.loop-own.own-index c.own-item.result c.loop-own-test.true c.own-item.is in
    let left : Left A c.args.edition c.args.context.now.dialect.now c.args.context.now.depth c.args.context.now.memory.now c.args.context.now.prelude.now (map piece_at c.args.pieces.now) _ c.loop-own.now = rw next at c.loop-own.invariant.left in
    left_bursts A c.args.edition c.args.context.now.dialect.now c.args.context.now.depth c.args.context.now.memory.now c.args.context.now.prelude.now (map piece_at c.args.pieces.now) (piece_at c.own-item.result)
    (map piece_at (drop (c.loop-own.own-index + 1) c.args.pieces.now)) c.loop-own.now left
    c.equal_pieces.ensures (world_at_other_places laws A c.args.edition c.args.context.now.dialect.now)
    (subst (λ (e : Edition). MakesTooMany A e c.args.context.now.dialect.now c.args.context.now.depth (piece_at c.own-item.result) c.loop-own.now) left.has.edition_is
    (c.in_err-evaluate_piece.ensures.tokens (handed c.from_residual-in_err-evaluate_piece.result _ c.from_residual-in_err-evaluate_piece.ensures.1 e)))

pub returns-in_err-evaluate_piece-clause-numbers : goal.returns-in_err-evaluate_piece-clause-numbers
returns-in_err-evaluate_piece-clause-numbers g c = λ e.
    let A = g.G.FragmentGrammar.answer c.args.context.now.grammar.now in
    let next = next_own c.args.pieces.now c.loop-own.own-index c.own-item.result c.loop-own-test.true c.own-item.is in
    let left : Left A c.args.edition c.args.context.now.dialect.now c.args.context.now.depth c.args.context.now.memory.now c.args.context.now.prelude.now (map piece_at c.args.pieces.now) _ c.loop-own.now = rw next at c.loop-own.invariant.left in
    left_needs A c.args.edition c.args.context.now.dialect.now c.args.context.now.depth c.args.context.now.memory.now c.args.context.now.prelude.now (map piece_at c.args.pieces.now) (piece_at c.own-item.result)
    (map piece_at (drop (c.loop-own.own-index + 1) c.args.pieces.now)) c.loop-own.now left
    (c.in_err-evaluate_piece.ensures.cause left.trees left.has.taken.numbers (handed c.from_residual-in_err-evaluate_piece.result _ c.from_residual-in_err-evaluate_piece.ensures.1 e))

pub returns-clause-taken : goal.returns-clause-taken
returns-clause-taken g c =
    let A = g.G.FragmentGrammar.answer c.args.context.now.grammar.now in
    let none = no_own c.args.pieces.now c.loop-own.own-index c.loop-own-test.false in
    left_done A c.args.edition c.args.context.now.dialect.now c.args.context.now.depth c.args.context.now.memory.now c.args.context.now.prelude.now (map piece_at c.args.pieces.now) c.loop-own.now (rw none at c.loop-own.invariant.left)

pub returns-clause-links : goal.returns-clause-links
returns-clause-links g c =
    subst (AreLinks c.loop-own.now.taken) (all_mapped tree_at c.args.pieces.now c.loop-own.own-index c.loop-own-test.false) c.loop-own.invariant.links
