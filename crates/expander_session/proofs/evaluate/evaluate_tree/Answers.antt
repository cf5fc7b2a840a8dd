use Rattle.std.proofs.Common.{◌≡◌, ◌∙◌, ℕ, List, Some, Global, ap, subst, sym, rules, true}
use Rattle.std.specs.Prelude.{IfSome, is_some, slice_get}
use Rattle.std.specs.List.{list_any}
use Rattle.std.specs.Rc.{rc_value}
use Rattle.std.specs.declared.rc.Rc.{Rc}
use Rattle.expander_scope.specs.Interning.{numbers_in}
use Rattle.expander_model.specs.Limits.{expanded}
use Rattle.expander_model.specs.Held.{numbered_world, unnumbered}
use Rattle.expander_scope.specs.ScopeTable.{scope_in}
use Rattle.expander_session.specs.CachedOutputs.{Holds}
use Rattle.expander_scope.specs.Outcomes.{parts_of}
use Rattle.expander_session.specs.MemoRefs.{plain_tops}
use Rattle.expander_session.specs.LookupTrees.{IndexesMemos}
use Rattle.expander_session.specs.Memos.{AreHashes, is_match}
use Rattle.expander_model.specs.World.{world}
use Rattle.expander_session.specs.declared.memo.Memo.{Memo}
use Rattle.expander_reparse.proofs.ListLemmas.{stands_at}
use Rattle.expander_session.proofs.EvaluateLemmas.{any_is, found_parts}
use Rattle.expander_session.proofs.evaluate.evaluate_tree.Goals as goal

pub returns-in_ok-plain-in-Some-clause-holds : goal.returns-in_ok-plain-in-Some-clause-holds
returns-in_ok-plain-in-Some-clause-holds g c = λ given numbers before are more made scope_is met.
    let q : Rc Memo Global = c.index-held-i.result in
    let here : slice_get c.args.memory.now.plains.items c.in-Some.i ≡ Some q =
    ap (λ (qs : List (Rc Memo Global)). slice_get qs c.in-Some.i) (sym c.as_slice-held.ensures.value)
    ∙ stands_at c.as_slice-held.result.now c.in-Some.i q (rw c.in-Some.is at c.in_ok-found.ensures.within) c.index-held-i.is in
    let found : IfSome (slice_get c.args.memory.now.plains.items c.in-Some.i) (λ x. is_match (scope_in c.args.env.now.scope.now) c.args.tree.now.value (rc_value x) ≡ true) =
    subst (λ (qs : List (Rc Memo Global)). IfSome (slice_get qs c.in-Some.i) (λ x. is_match (scope_in c.args.env.now.scope.now) c.args.tree.now.value (rc_value x) ≡ true)) c.as_slice-held.ensures.value
    (rw c.in-Some.is at c.in_ok-found.ensures.found) in
    let same : c.in_ok-plain-in-Some.plain.value ≡ rc_value q = search rules in
    subst (λ (p : Memo). Holds p
    (parts_of (expanded (numbered_world (world (g.G.FragmentGrammar.answer c.args.env.now.grammar.now) c.args.env.now.scope.now.edition c.args.env.now.dialect.now)) unnumbered (scope_in c.args.env.now.scope.now) c.args.env.now.depth c.args.tree.now.value.inner)))
    (sym same)
    (found_parts (world (g.G.FragmentGrammar.answer c.args.env.now.grammar.now) c.args.env.now.scope.now.edition c.args.env.now.dialect.now) c.args.env.now.depth (numbers_in c.args.memory.now.by_tree) c.equal_pieces.ensures c.equal_trees.ensures
    given numbers are more (scope_in c.args.env.now.scope.now) before scope_is met c.args.tree.now.value c.requires.top c.args.memory.now.plains.items c.requires.right.right c.in-Some.i q here found)

pub returns-in_ok-plain-in-None-clause-holds : goal.returns-in_ok-plain-in-None-clause-holds
returns-in_ok-plain-in-None-clause-holds g c = λ given numbers before are more made scope_is met. c.in_ok-plain-in-None.ensures.holds given numbers before are made scope_is met

pub returns-in_ok-plain-in-Some-clause-counted : goal.returns-in_ok-plain-in-Some-clause-counted
returns-in_ok-plain-in-Some-clause-counted g c =
    ap is_some (sym c.in-Some.is) ∙ c.in_ok-found.ensures.any
    ∙ ap (λ (qs : List (Rc Memo Global)). list_any (λ q. is_match (scope_in c.args.env.now.scope.now) c.args.tree.now.value (rc_value q)) qs) c.as_slice-held.ensures.value
    ∙ any_is (world (g.G.FragmentGrammar.answer c.args.env.now.grammar.now) c.args.env.now.scope.now.edition c.args.env.now.dialect.now) c.args.env.now.depth (numbers_in c.args.memory.now.by_tree) (scope_in c.args.env.now.scope.now)
    c.args.tree.now.value c.args.memory.now.plains.items c.requires.top c.requires.right.right

pub returns-in_ok-plain-in-None-clause-counted : goal.returns-in_ok-plain-in-None-clause-counted
returns-in_ok-plain-in-None-clause-counted g c =
    ap is_some (sym c.in-None.is) ∙ c.in_ok-found.ensures.any
    ∙ ap (λ (qs : List (Rc Memo Global)). list_any (λ q. is_match (scope_in c.args.env.now.scope.now) c.args.tree.now.value (rc_value q)) qs) c.as_slice-held.ensures.value
    ∙ any_is (world (g.G.FragmentGrammar.answer c.args.env.now.grammar.now) c.args.env.now.scope.now.edition c.args.env.now.dialect.now) c.args.env.now.depth (numbers_in c.args.memory.now.by_tree) (scope_in c.args.env.now.scope.now)
    c.args.tree.now.value c.args.memory.now.plains.items c.requires.top c.requires.right.right

pub find_valid-requires-clause-table : goal.find_valid-requires-clause-table
find_valid-requires-clause-table g c = subst (IndexesMemos c.args.lookup.now) (sym c.as_slice-held.ensures.value) c.requires.lookup

pub find_valid-requires-clause-link : goal.find_valid-requires-clause-link
find_valid-requires-clause-link g c =
    subst (λ (qs : List (Rc Memo Global)). IfSome c.args.link (λ i. slice_get (plain_tops qs) i ≡ Some c.args.tree.now.value)) (sym c.as_slice-held.ensures.value) c.requires.link

pub find_valid-requires-clause-hashes : goal.find_valid-requires-clause-hashes
find_valid-requires-clause-hashes g c =
    subst (λ (hs : List ℕ). AreHashes hs c.as_slice-held.result.now) (sym c.as_slice-hashes.ensures.value)
    (subst (AreHashes c.args.memory.now.hashes.items) (sym c.as_slice-held.ensures.value) c.requires.right.hashes)
