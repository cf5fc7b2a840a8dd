use Rattle.std.proofs.Common.{◌≡◌, ◌∷◌, ◌++◌, [], ◌∙◌, ap, sym, refl, arith, length, map, List, append-nil, append_assoc, length-append}
use Rattle.std.proofs.lemmas.List.{length-map}
use Rattle.std.specs.Array.Iter.{array_into_iter_items}
use Rattle.tt_data.specs.Forest.{head_of, preorder}
use Rattle.tt_data.specs.Flat.{forest_of-preorder, IsPreorder-preorder}
use Rattle.tt_data.specs.declared.leaf.Leaf.{Leaf}
use Rattle.tt_data.specs.declared.tree.TokenTree.TheVariants as token
use Rattle.tt.specs.Building.{leaves}
use Rattle.tt.proofs.Groups.{grouped}
use Rattle.tt.proofs.Leaves.{preorder-leaves}
use Rattle.tt.proofs.top_subtree.TopSubtree.invisible_from_leaves.Given.{Over}
use Rattle.tt.proofs.top_subtree.TopSubtree.invisible_from_leaves.Goals as goal

pub loop-leaf-preserved : goal.loop-leaf-preserved
loop-leaf-preserved g c =
    let left : List token.the_data = map token.Leaf (array_into_iter_items c.next.new.self) in
    ap (λ ts. ts ++ left) c.in_ok-push-2.ensures.ok
    ∙ append_assoc c.loop-leaf.tokens (token.Leaf c.in-Some.leaf ∷ []) left
    ∙ ap (λ ls. c.loop-leaf.tokens ++ map token.Leaf ls) (sym c.in-Some.ensures.steps)
    ∙ c.loop-leaf.invariant

pub push-requires-in-loop-leaf : goal.push-requires-in-loop-leaf
push-requires-in-loop-leaf g c =
    let left = array_into_iter_items c.loop-leaf.leaf-iterator in
    let all = array_into_iter_items c.into_iter-leaf-iterator.result in
    let given = c.into_iter-leaf-iterator.ensures.into_iter_gives in
    let head = c.in_ok-push.ensures.ok ∙ ap (λ ts. ts ++ head_of c.invisible_spanned-delimiter.result c.in-Ok.len ∷ []) c.new-tokens.ensures in
    record {
      room = omega (
        arith,
        ap length c.loop-leaf.invariant,
        length-append c.loop-leaf.tokens (map token.Leaf left),
        length-map left token.Leaf,
        ap length c.in-Some.ensures.steps,
        length-append c.push.new.self (map token.Leaf all),
        length-map all token.Leaf,
        ap length head,
        given.1,
        c.in-Ok.ensures.0,
      );
    }

none : (ls : List Leaf) → length ls ≡ 0 → ls ≡ []
none [] e = refl
none (l ∷ ls) e = absurd (omega (arith, e))

-- as many tokens as there are leaves
count_is : (g : Over) (c : goal.After-drop-leaf-iterator-2 g) → length (preorder (leaves c.args.leaves)) ≡ g.row.N
count_is g c =
    let given = c.into_iter-leaf-iterator.ensures.into_iter_gives in
    ap length (preorder-leaves c.args.leaves) ∙ length-map c.args.leaves token.Leaf ∙ ap length (sym given.0) ∙ given.1

-- the group's own token, and then those of the leaves
all_is : (g : Over) (c : goal.After-drop-leaf-iterator-2 g)
    → c.loop-leaf.tokens ≡ head_of c.invisible_spanned-delimiter.result (length (preorder (leaves c.args.leaves))) ∷ preorder (leaves c.args.leaves)
all_is g c =
    let ls = c.args.leaves in
    let tokens : List token.the_data = preorder (leaves ls) in
    sym (append-nil c.loop-leaf.tokens)
    ∙ ap (λ xs. c.loop-leaf.tokens ++ map token.Leaf xs) (sym (none (array_into_iter_items c.loop-leaf.leaf-iterator) c.in-None.ensures.steps.0))
    ∙ c.loop-leaf.invariant
    ∙ ap (λ xs. c.push.new.self ++ map token.Leaf xs) c.into_iter-leaf-iterator.ensures.into_iter_gives.0
    ∙ ap (λ ts. c.push.new.self ++ ts) (sym (preorder-leaves ls))
    ∙ ap (λ ts. ts ++ tokens)
    (c.in_ok-push.ensures.ok ∙ ap (λ ts. ts ++ head_of c.invisible_spanned-delimiter.result c.in-Ok.len ∷ []) c.new-tokens.ensures)
    ∙ ap (λ n. head_of c.invisible_spanned-delimiter.result n ∷ tokens) (c.in-Ok.ensures.1 ∙ sym (count_is g c))

pub invariant_of-result : goal.invariant_of-result
invariant_of-result g c =
    let f = leaves c.args.leaves in
    rw (all_is g c) (grouped c.invisible_spanned-delimiter.result (preorder f) (IsPreorder-preorder f), omega (arith, count_is g c, c.in-Ok.ensures.0))

pub returns-clause-ok : goal.returns-clause-ok
returns-clause-ok g c = rw (all_is g c, c.invisible_spanned-delimiter.ensures, forest_of-preorder (leaves c.args.leaves)) refl
