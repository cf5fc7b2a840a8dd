use Rattle.std.proofs.Common.{Global, ℕ, ◌≡◌, ◌∙◌, ap, sym, subst, ◌++◌, ◌∷◌, [], map}
use Rattle.std.specs.Prelude.{is_some}
use Rattle.std.specs.List.{list_any}
use Rattle.std.specs.Rc.{rc_value}
use Rattle.std.specs.declared.rc.Rc.{Rc}
use Rattle.tt.specs.Tops.{Top}
use Rattle.tt_data.specs.declared.edition.Edition.{Edition}
use Rattle.expander_model.specs.HashedTrees.{own_top, tree_hash}
use Rattle.expander_model.specs.Definitions.{definition_of}
use Rattle.expander_session.specs.CachedOutputs.{Holds}
use Rattle.expander_scope.specs.Outcomes.{parts_of}
use Rattle.expander_session.specs.Memos.{tree_of}
use Rattle.tt_data.specs.Forest.{Forest}
use Rattle.expander_session.specs.Caches.{piece_of}
use Rattle.expander_scope.specs.ScopeTable.{expanded_under, scope_in}
use Rattle.expander_session.specs.Emitting.{PutsOut}
use Rattle.expander_model.specs.Pieces.{first_start, relative}
use Rattle.expander_session.specs.AbsoluteSpans.{resolved_faults, resolved_steps}
use Rattle.expander_session.specs.Reuse.{matches}
use Rattle.expander_model.specs.World.{world}
use Rattle.expander_session.specs.declared.memo.Memo.{Memo}
use Rattle.expander_session.specs.declared.evaluate.Evaluated.{Evaluated}
use Rattle.expander_scope.specs.Interning.{definition_tops}
use Rattle.expander_session.specs.Evaluating.{AreLinks}
use Rattle.expander_session.proofs.MemoRefLemmas.{plain_more}
use Rattle.expander_session.proofs.PassLemmas.{for_tree, one_plain_piece, parts_taken}
use Rattle.expander_session.proofs.evaluate.evaluate_plain.Goals as goal

pub returns-clause-taken : goal.returns-clause-taken
returns-clause-taken g c = λ piece start_is tree_is before trees done has.
    let p : Memo = rc_value c.in_ok-found.found in
    let q : Rc Memo Global = c.in_ok-plain.plain in
    let A = g.G.FragmentGrammar.answer c.args.context.now.grammar.now in
    let ed : Edition = c.args.now.now.scope.edition in
    let r : Forest = relative piece in
    let is : tree_of (rc_value q) ≡ c.args.tree.now.value = c.in_ok-plain.ensures.tree ∙ c.in_ok-found.ensures.tree in
    let top : tree_of p ≡ own_top r = c.in_ok-found.ensures.tree ∙ tree_is in
    let found : Holds p (parts_of (expanded_under A c.args.now.now.scope c.args.context.now.dialect.now c.args.context.now.depth r)) =
    parts_taken A ed c.args.context.now.dialect.now c.args.context.now.depth c.args.context.now.memory.now piece c.args.now.now c.count.new.now c.args.tree.now.value p tree_is c.in_ok-found.ensures.holds before trees done has in
    let puts : PutsOut c.args.now.now.taken.steps c.emit_plain.new.steps (resolved_steps c.args.start c.args.now.now.scope.starts (expanded_under A c.args.now.now.scope c.args.context.now.dialect.now c.args.context.now.depth r).steps) =
    for_tree A c.args.now.now.scope c.args.context.now.dialect.now c.args.context.now.depth r p
    (λ (f : Forest). PutsOut c.args.now.now.taken.steps c.emit_plain.new.steps (resolved_steps c.args.start c.args.now.now.scope.starts (expanded_under A c.args.now.now.scope c.args.context.now.dialect.now c.args.context.now.depth f).steps))
    top found c.in_ok-plain.ensures.steps in
    one_plain_piece A ed c.args.context.now.dialect.now c.args.context.now.depth c.args.context.now.memory.now piece c.args.now.now c.count.new.now c.equal_pieces.ensures q (is_some c.in_ok-found.at)
    c.count.ensures.scope
    (ap (λ (t : Evaluated). t.numbers) c.count.ensures.taken)
    (is ∙ tree_is)
    (ap (λ (t : Evaluated). t.plains.items) c.count.ensures.taken ∙ c.in_ok-hold.ensures.plains)
    (ap (λ (t : Evaluated). t.hashes.items) c.count.ensures.taken ∙ c.in_ok-hold.ensures.hashes
    ∙ ap (λ (n : ℕ). c.args.now.now.taken.hashes.items ++ n ∷ []) (c.in_ok-found.ensures.hash ∙ ap tree_hash (sym is)))
    (λ holds.
    subst (λ (t : Evaluated). PutsOut c.args.now.now.taken.steps t.steps (resolved_steps (first_start piece) c.args.now.now.scope.starts (expanded_under A c.args.now.now.scope c.args.context.now.dialect.now c.args.context.now.depth r).steps))
    (sym c.count.ensures.taken)
    (subst (λ n. PutsOut c.args.now.now.taken.steps c.emit_plain.new.steps (resolved_steps n c.args.now.now.scope.starts (expanded_under A c.args.now.now.scope c.args.context.now.dialect.now c.args.context.now.depth r).steps)) start_is puts))
    (ap (λ (t : Evaluated). t.faults.items) c.count.ensures.taken ∙ c.in_ok-plain.ensures.faults
    ∙ ap (λ n. c.args.now.now.taken.faults.items ++ resolved_faults n c.args.now.now.scope.starts (rc_value q).faults.items) start_is)
    (c.in_ok-found.ensures.counted
    ∙ ap (λ (t : Top). list_any (matches (scope_in c.args.now.now.scope) t.inner) (map (λ q. piece_of (world A ed c.args.context.now.dialect.now) c.args.context.now.depth (rc_value q)) c.args.context.now.memory.now.plains.items)) tree_is)
    (ap (λ (t : Evaluated). t.expanded) c.count.ensures.taken)
    before trees done has
    (for_tree A c.args.now.now.scope c.args.context.now.dialect.now c.args.context.now.depth r p (λ (f : Forest). Holds (rc_value q) (parts_of (expanded_under A c.args.now.now.scope c.args.context.now.dialect.now c.args.context.now.depth f)))
    top found c.in_ok-plain.ensures.holds)
    (ap (λ (t : Top). is_some (definition_of t.inner)) (sym tree_is) ∙ c.requires.plain)

pub returns-clause-links : goal.returns-clause-links
returns-clause-links g c = λ trees h.
    subst (λ (t : Evaluated). AreLinks t (trees ++ c.args.tree.now.value ∷ [])) (sym c.count.ensures.taken)
    (plain_more c.args.now.now.taken.plains.items c.hold.new.plains.items c.in_ok-plain.plain (definition_tops c.args.now.now.taken.numbers.definitions.items)
    c.args.now.now.taken.links.items c.hold.new.links.items trees c.args.tree.now.value c.in_ok-hold.ensures.plains (c.in_ok-plain.ensures.tree ∙ c.in_ok-found.ensures.tree) c.in_ok-hold.ensures.links h)

pub returns-clause-lookup : goal.returns-clause-lookup
returns-clause-lookup g c =
    let plains = c.args.context.now.memory.now.plains.items in
    c.count.ensures.lookup plains (c.in_ok-keep.ensures plains c.in_ok-found.ensures.lookup)
