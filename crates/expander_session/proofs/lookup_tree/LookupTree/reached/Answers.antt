use Rattle.std.proofs.Common.{◌≡◌, ◌∙◌, ◌<◌, Some, ap, arith, sym, Bor}
use Rattle.std.specs.Prelude.{option_map, slice_get}
use Rattle.expander_scope.specs.Outcomes.{find_of}
use Rattle.expander_scope.specs.ScopeTable.{scope_in}
use Rattle.expander_scope.specs.declared.outcome.NameLookup.{NameLookup}
use Rattle.expander_session.specs.LookupTrees.{lookups_at}
use Rattle.expander_session.proofs.LookupTreeLemmas.{longest, none_first, none_next, place_within, reaches_first, reaches_next}
use Rattle.expander_session.proofs.lookup_tree.LookupTree.reached.Goals as goal

pub loop-lookup-init : goal.loop-lookup-init
loop-lookup-init c = reaches_first c.equal_trees.ensures c.args.self.now c.args.memos.now (scope_in c.args.scope.now) c.args.tree.now.value c.in-Some.first (sym c.first_of.ensures ∙ c.in-Some.is)

pub returns-in_default : goal.returns-in_default
returns-in_default c = λ _. none_first c.equal_trees.ensures c.args.self.now c.args.memos.now (scope_in c.args.scope.now) c.args.tree.now.value (sym c.first_of.ensures ∙ c.in_default.is)

pub loop-lookup-smaller : goal.loop-lookup-smaller
loop-lookup-smaller c =
    let stands : slice_get (lookups_at c.args.memos.now c.loop-lookup.at) c.loop-lookup.place ≡ Some (find_of c.in-Some-lookup_at.lookup.now) =
    sym c.lookup_at.ensures.is ∙ ap (option_map (λ (f : Bor NameLookup). find_of f.now)) c.in-Some-lookup_at.is in
    let h : c.loop-lookup.place < longest c.args.memos.now = place_within c.args.memos.now c.loop-lookup.at c.loop-lookup.place _ stands in
    omega (arith, h)

pub loop-lookup-preserved : goal.loop-lookup-preserved
loop-lookup-preserved c =
    let stands : slice_get (lookups_at c.args.memos.now c.loop-lookup.at) c.loop-lookup.place ≡ Some (find_of c.in-Some-lookup_at.lookup.now) =
    sym c.lookup_at.ensures.is ∙ ap (option_map (λ (f : Bor NameLookup). find_of f.now)) c.in-Some-lookup_at.is in
    reaches_next c.equal_trees.ensures c.args.self.now c.args.memos.now (scope_in c.args.scope.now) c.args.tree.now.value c.loop-lookup.at c.loop-lookup.place _ stands c.loop-lookup.invariant c.in-Some-turn.next
    (rw (sym c.known_id.ensures, sym c.found_id-known.ensures) (sym c.turn.ensures ∙ c.in-Some-turn.is))

pub returns-in_default-turn : goal.returns-in_default-turn
returns-in_default-turn c = λ _.
    let stands : slice_get (lookups_at c.args.memos.now c.loop-lookup.at) c.loop-lookup.place ≡ Some (find_of c.in-Some-lookup_at.lookup.now) =
    sym c.lookup_at.ensures.is ∙ ap (option_map (λ (f : Bor NameLookup). find_of f.now)) c.in-Some-lookup_at.is in
    none_next c.equal_trees.ensures c.args.self.now c.args.memos.now (scope_in c.args.scope.now) c.args.tree.now.value c.loop-lookup.at c.loop-lookup.place _ stands c.loop-lookup.invariant
    (rw (sym c.known_id.ensures, sym c.found_id-known.ensures) (sym c.turn.ensures ∙ c.in_default-turn.is))
