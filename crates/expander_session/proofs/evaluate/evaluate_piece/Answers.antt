use Rattle.std.proofs.Common.{◌≡◌, ◌∙◌, Option, None, Some, false, ap, refl, rules, subst, sym}
use Rattle.std.specs.Prelude.{IfSome, is_some, slice_get}
use Rattle.tt.specs.Tops.{Top}
use Rattle.expander_session.specs.MemoRefs.{plain_tops}
use Rattle.expander_scope.specs.Interning.{definition_tops, numbers_in}
use Rattle.expander_model.specs.HashedTrees.{own_top}
use Rattle.expander_model.specs.Definitions.{Definition, definition_of}
use Rattle.expander_reparse.specs.RelativePieces.{piece_at, tree_at}
use Rattle.expander_model.specs.Pieces.{relative}
use Rattle.expander_model.specs.World.{world}
use Rattle.expander_model.proofs.PlaceLemmas.{own_first}
use Rattle.expander_session.proofs.ScopePieceLemmas.{all_plain}
use Rattle.expander_session.proofs.evaluate.evaluate_piece.Goals as goal

pub returns-clause-taken : goal.returns-clause-taken
returns-clause-taken g c =
    let tree_is : c.get-tree.result.now.value ≡ own_top (relative (piece_at c.args.own.now)) = c.get-tree.ensures ∙ c.requires.own.tree in
    rw c.reserve.ensures at (c.in_ok-evaluate_plain.ensures.taken (piece_at c.args.own.now) c.requires.own.start tree_is)

pub returns-then-is_definition-clause-taken : goal.returns-then-is_definition-clause-taken
returns-then-is_definition-clause-taken g c =
    let A = g.G.FragmentGrammar.answer c.args.context.now.grammar.now in
    let tree_is : c.in_ok-clone.field-0.value ≡ own_top (relative (piece_at c.args.own.now)) = search rules in
    rw c.reserve.ensures at
    (c.evaluate_definition.ensures.taken A c.args.context.now.depth (piece_at c.args.own.now) c.requires.places c.requires.right.have
    (own_first c.args.own.now.start (tree_at c.args.own.now).inner c.requires.own.start) tree_is)

pub link_of-link-requires-clause-linked : goal.link_of-link-requires-clause-linked
link_of-link-requires-clause-linked g c = c.requires.right.linked

pub is_definition-requires-clause-plain : goal.is_definition-requires-clause-plain
is_definition-requires-clause-plain g c =
    all_plain (world (g.G.FragmentGrammar.answer c.args.context.now.grammar.now) c.args.now.now.scope.edition c.args.context.now.dialect.now) c.args.context.now.depth (numbers_in c.args.context.now.memory.now.by_tree) c.args.context.now.memory.now.plains.items c.requires.right.right

pub evaluate_plain-requires-clause-link : goal.evaluate_plain-requires-clause-link
evaluate_plain-requires-clause-link g c =
    subst (λ (t : Top). IfSome c.plain_at.result (λ i. slice_get (plain_tops c.args.context.now.memory.now.plains.items) i ≡ Some t)) (sym c.get-tree.ensures)
    (c.plain_at.ensures (plain_tops c.args.context.now.memory.now.plains.items) (definition_tops c.args.context.now.memory.now.definitions.items) (tree_at c.args.own.now) c.link_of-link.ensures)

no_definition : (o : Option Definition) → is_some o ≡ false → o ≡ None
no_definition None e = refl
no_definition (Some d) e = cc

pub returns-in_err-evaluate_plain-clause-tokens : goal.returns-in_err-evaluate_plain-clause-tokens
returns-in_err-evaluate_plain-clause-tokens g c = λ e.
    let tree_is : c.get-tree.result.now.value ≡ own_top (relative (piece_at c.args.own.now)) = c.get-tree.ensures ∙ c.requires.own.tree in
    let plain : is_some (definition_of c.get-tree.result.now.value.inner) ≡ false = search rules in
    (no_definition (definition_of (relative (piece_at c.args.own.now))) (ap (λ (t : Top). is_some (definition_of t.inner)) (sym tree_is) ∙ plain), search rules)
