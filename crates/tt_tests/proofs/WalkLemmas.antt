-- Walks over all tokens of trees.
use Rattle.std.proofs.Common.{◌≡◌, ℕ, ◌+◌, List, [], ◌∷◌, ◌++◌, refl, sym, ◌∙◌, ap, arith}
use Rattle.tt_data.specs.declared.tree.TokenTree.{TokenTree}
use Rattle.tt_data.specs.declared.tree.TokenTree.TheVariants as token
use Rattle.tt_data.specs.Forest.{Forest, empty, leaf, group, size, preorder}
use Rattle.tt_tests.specs.Walks.{leaf_count}

-- how many of the tokens are heads of groups
abbrev pub heads_in : List TokenTree → ℕ
heads_in [] = 0
heads_in (token.Leaf l ∷ ts) = heads_in ts
heads_in (token.Subtree s ∷ ts) = 1 + heads_in ts

heads_append : (xs ys : List TokenTree) → heads_in (xs ++ ys) ≡ heads_in xs + heads_in ys
heads_append [] ys = omega arith
heads_append (token.Leaf l ∷ xs) ys = heads_append xs ys
heads_append (token.Subtree s ∷ xs) ys = (let e = heads_append xs ys in omega (arith, e))

-- each token is a leaf or a group's head
pub leaves_and_heads : (f : Forest) → size f ≡ leaf_count f + heads_in (preorder f)
leaves_and_heads empty = refl
leaves_and_heads (leaf l rest) = (let e = leaves_and_heads rest in omega (arith, e))
leaves_and_heads (group d inner rest) =
    let one = leaves_and_heads inner in
    let two = leaves_and_heads rest in
    let all = heads_append (preorder inner) (preorder rest) in
    omega (arith, one, two, all)

-- ---- a walk before the first token

pub count_begins : (f : Forest) (n : ℕ) (all left : List TokenTree) → n ≡ size f → all ≡ preorder f → left ≡ all → n ≡ leaf_count f + heads_in left
count_begins f n all left e h i = e ∙ leaves_and_heads f ∙ ap (λ ts. leaf_count f + heads_in ts) (sym (i ∙ h))
