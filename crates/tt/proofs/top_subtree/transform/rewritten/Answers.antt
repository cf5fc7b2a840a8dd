use Rattle.std.proofs.Common.{◌≡◌, ◌∷◌, [], ◌++◌, ap, sym, subst, ◌∙◌, arith, of_calls, length, refl, reverse, take, drop, List}
use Rattle.std.proofs.lemmas.Fn.{FoldsTo-push}
use Rattle.std.proofs.lemmas.List.{nil_from_length, length-reverse}
use Rattle.tt_data.specs.Forest.{Forest, empty, forest_of, group, leaf}
use Rattle.tt_data.specs.declared.tree.TokenTree.TheVariants as token
use Rattle.tt.specs.Building.{Builder}
use Rattle.token_bytes.specs.Items.{items}
use Rattle.tt.specs.Rewriting.{IsRewritten, with_answer}
use Rattle.tt.specs.Tops.{Top}
use Rattle.tt.specs.Views.{forest}
use Rattle.tt.specs.Walking.{Around, Standing, around_in, entered, left_in, standing}
use Rattle.tt.proofs.NestingLemmas.{at_end, group_first, leaf_first, length-around_in, whole_left}
use Rattle.tt.proofs.RewritingLemmas.{IsAt, IsUnderWay, Stands, begun, leaf_answered, stands_entered, group_least, least_at, stands_left, ended_at, handed}
use Rattle.tt.proofs.top_subtree.transform.rewritten.Goals as goal

pub turns-init : goal.turns-init
unfolding forest
turns-init g c =
    let tokens = items c.args.trees.tokens in
    let way = subst (λ f. IsUnderWay (forest_of tokens) [] f [] [] empty) (sym (whole_left tokens)) (begun (forest_of tokens)) in
    rw (c.in_ok-new.ensures.ok, c.new-2.ensures.items) (search of_calls, ([], refl, (refl, refl, way)), c.args.trees.whole)

pub turns-preserved-in-Leaf : goal.turns-preserved-in-Leaf
turns-preserved-in-Leaf g c =
    let trees = forest c.args.trees in
    let outer = reverse c.turns.walk.outer.items in
    let tokens = items c.turns.walk.left in
    let more = items c.in-Some.behind in
    let l = c.in-Leaf.leaf in
    let b = c.turns.walk.tree.tree in
    let (calls, made, at) = c.turns.invariant.1 in
    let (call, of_leaf, asked, is) = c.in_ok-put_leaf-in-Leaf.ensures.ok in
    let first : tokens ≡ token.Leaf l ∷ more = c.in-Some.ensures.0 ∙ ap (λ t. t ∷ more) c.in-Leaf.is in
    let f = leaf_first l more outer (rw first at c.turns.invariant.2) (rw c.as_slice.ensures.value at c.in-Some.ensures.1) in
    let left : left_in tokens outer ≡ leaf l (left_in more outer) = ap (λ ts. left_in ts outer) first ∙ f.left_is in
    let around : around_in tokens outer ≡ around_in more outer = ap (λ ts. around_in ts outer) first ∙ sym f.around_is in
    let here = subst (λ f. IsAt trees c.args.top calls f (around_in tokens outer) b) left at in
    let next = leaf_answered trees c.args.top calls (around_in tokens outer) b call l (left_in more outer) of_leaf here in
    let moved = subst (λ a. IsAt trees c.args.top (calls ++ call ∷ []) (left_in more outer) a (with_answer call b)) around next in
    (search of_calls, (calls ++ call ∷ [], FoldsTo-push _ _ _ _ _ _ made asked, subst (IsAt trees c.args.top (calls ++ call ∷ []) (left_in more outer) (around_in more outer)) (sym is) moved), f.nested)

pub returns-in_err-put_leaf-in-Leaf-clause-tokens : goal.returns-in_err-put_leaf-in-Leaf-clause-tokens
returns-in_err-put_leaf-in-Leaf-clause-tokens g c = λ e.
    let trees = forest c.args.trees in
    let outer = reverse c.turns.walk.outer.items in
    let tokens = items c.turns.walk.left in
    let more = items c.in-Some.behind in
    let l = c.in-Leaf.leaf in
    let b = c.turns.walk.tree.tree in
    let (calls, made, at) = c.turns.invariant.1 in
    let fault = handed c.from_residual-in_err-put_leaf-in-Leaf.result _ c.from_residual-in_err-put_leaf-in-Leaf.ensures.1 e in
    let (call, of_leaf, asked, much) = c.in_err-put_leaf-in-Leaf.ensures.tokens fault in
    let first : tokens ≡ token.Leaf l ∷ more = c.in-Some.ensures.0 ∙ ap (λ t. t ∷ more) c.in-Leaf.is in
    let f = leaf_first l more outer (rw first at c.turns.invariant.2) (rw c.as_slice.ensures.value at c.in-Some.ensures.1) in
    let left : left_in tokens outer ≡ leaf l (left_in more outer) = ap (λ ts. left_in ts outer) first ∙ f.left_is in
    let here = subst (λ f. IsAt trees c.args.top calls f (around_in tokens outer) b) left at in
    let next = leaf_answered trees c.args.top calls (around_in tokens outer) b call l (left_in more outer) of_leaf here in
    let end = least_at _ _ _ _ _ _ next in
    (calls ++ call ∷ [], c.put_leaf.new.callback, end.whole, FoldsTo-push _ _ _ _ _ _ made asked, end.begun, omega (arith, end.counts, much))

pub turns-preserved-in_ok-enter-in-Subtree : goal.turns-preserved-in_ok-enter-in-Subtree
turns-preserved-in_ok-enter-in-Subtree g c =
    let trees = forest c.args.trees in
    let outer = reverse c.turns.walk.outer.items in
    let tokens = items c.turns.walk.left in
    let more = items c.in-Some.behind in
    let s = c.in-Subtree.head in
    let b = c.turns.walk.tree.tree in
    let (calls, made, at) = c.turns.invariant.1 in
    let (call, of_head, asked, is) = c.in_ok-enter-in-Subtree.ensures.ok in
    let first : tokens ≡ token.Subtree s ∷ more = c.in-Some.ensures.0 ∙ ap (λ t. t ∷ more) c.in-Subtree.is in
    let f = group_first s more outer (rw first at c.turns.invariant.2) (rw c.as_slice.ensures.value at c.in-Some.ensures.1) in
    let inner : Forest = forest_of (take s.len more) in
    let rest : Forest = left_in (drop s.len more) outer in
    let left : left_in tokens outer ≡ group s.delimiter inner rest = ap (λ ts. left_in ts outer) first ∙ f.left_is in
    let around : around_in tokens outer ≡ around_in (drop s.len more) outer = ap (λ ts. around_in ts outer) first ∙ sym f.around_is in
    let here = subst (λ f. IsAt trees c.args.top calls f (around_in tokens outer) b) left at in
    let P : List Around → Type 0 = λ a. Stands trees c.args.top (calls ++ call ∷ []) (entered call s inner (record { tree = b; left = rest; around = a })) in
    let next = subst P around (stands_entered trees c.args.top calls (around_in tokens outer) b s inner rest call of_head f.counts here) in
    let before : Standing = record { tree = b; left = rest; around = around_in (drop s.len more) outer } in
    (search of_calls, (calls ++ call ∷ [], FoldsTo-push _ _ _ _ _ _ made asked, subst (Stands trees c.args.top (calls ++ call ∷ [])) {x = entered call s inner before} (sym is) next), c.in_ok-enter-in-Subtree.ensures.nested)

pub returns-in_err-enter-in-Subtree-clause-tokens : goal.returns-in_err-enter-in-Subtree-clause-tokens
returns-in_err-enter-in-Subtree-clause-tokens g c = λ e.
    let trees = forest c.args.trees in
    let outer = reverse c.turns.walk.outer.items in
    let tokens = items c.turns.walk.left in
    let more = items c.in-Some.behind in
    let s = c.in-Subtree.head in
    let b = c.turns.walk.tree.tree in
    let (calls, made, at) = c.turns.invariant.1 in
    let fault = handed c.from_residual-in_err-enter-in-Subtree.result _ c.from_residual-in_err-enter-in-Subtree.ensures.1 e in
    let (call, of_head, asked, much) = c.in_err-enter-in-Subtree.ensures.tokens fault in
    let first : tokens ≡ token.Subtree s ∷ more = c.in-Some.ensures.0 ∙ ap (λ t. t ∷ more) c.in-Subtree.is in
    let f = group_first s more outer (rw first at c.turns.invariant.2) (rw c.as_slice.ensures.value at c.in-Some.ensures.1) in
    let left = ap (λ ts. left_in ts outer) first ∙ f.left_is in
    let here = subst (λ f. IsAt trees c.args.top calls f (around_in tokens outer) b) left at in
    let end = group_least trees c.args.top calls (around_in tokens outer) b s _ _ call of_head f.counts here in
    (calls ++ call ∷ [], c.enter.new.callback, end.whole, FoldsTo-push _ _ _ _ _ _ made asked, end.begun, omega (arith, end.counts, much))

pub leave-requires : goal.leave-requires
leave-requires g c =
    let outer = reverse c.turns.walk.outer.items in
    let (calls, made, at) = c.turns.invariant.1 in record {
      groups = omega (arith, at.1, length-around_in (items c.turns.walk.left) outer, length-reverse c.turns.walk.outer.items);
      nested = c.turns.invariant.2;
      at_end = rw c.as_slice.ensures.value at c.in-None.ensures;
    }

pub turns-preserved : goal.turns-preserved
turns-preserved g c =
    let outer = reverse c.turns.walk.outer.items in
    let tokens = items c.turns.walk.left in
    let before : Standing = standing c.turns.walk in
    let (calls, made, at) = c.turns.invariant.1 in
    let none : left_in tokens outer ≡ empty = at_end tokens outer (rw c.as_slice.ensures.value at c.in-None.ensures) in
    let left = c.if-not-leave.ensures.left refl in
    (search of_calls, (calls, made, stands_left (forest c.args.trees) c.args.top calls before (standing c.leave.new.walk) none left.0 at), left.1)

pub returns-clause-ok : goal.returns-clause-ok
returns-clause-ok g c =
    let outer = reverse c.turns.walk.outer.items in
    let tokens = items c.turns.walk.left in
    let b = c.turns.walk.tree.tree in
    let (calls, made, at) = c.turns.invariant.1 in
    let none : left_in tokens outer ≡ empty = at_end tokens outer (rw c.as_slice.ensures.value at c.in-None.ensures) in
    let over = c.if-not-leave.ensures.over refl in
    let stack : around_in tokens outer ≡ [] = ap (λ os. around_in tokens (reverse os)) over.0 in
    let groups : b.groups ≡ [] = nil_from_length b.groups (omega (arith, ap length stack, at.1)) in
    let all = ended_at (forest c.args.trees) c.args.top calls (left_in tokens outer) (around_in tokens outer) b none stack groups at in
    let is = c.in-Ok.ensures.ok in (
      calls,
      c.turns.callback,
      made,
      subst (IsRewritten (forest c.args.trees) calls) (sym (ap (λ (t : Top). t.inner) is ∙ ap (λ (t : Builder). t.tree.here) over.1)) all,
      ap (λ (t : Top). t.delimiter) is ∙ ap (λ (t : Builder). t.tree.top) over.1 ∙ at.0,
    )
