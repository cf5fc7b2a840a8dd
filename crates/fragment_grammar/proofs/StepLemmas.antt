-- Steps of a grammar, counted over flat tokens: one for each token, and one more for each group.
use Rattle.std.proofs.Common.{◌≡◌, ℕ, ◌+◌, ◌*◌, ◌^◌, ◌≤◌, ◌<◌, List, [], ◌∷◌, ◌++◌, length, refl, arith, length-append}
use Rattle.tt_data.specs.declared.tree.Subtree.{Subtree}
use Rattle.tt_data.specs.declared.tree.TokenTree.{TokenTree}
use Rattle.tt_data.specs.declared.tree.TokenTree.TheVariants as token
use Rattle.tt_data.specs.Forest.{Forest, empty, leaf, group, size, preorder}
use Rattle.tt_data.specs.Flat.{length-preorder}
use Rattle.tt_data.specs.Walk.{walk, closes}
use Rattle.fragment_grammar.specs.Steps.{steps}

-- how many of the tokens are heads of groups
abbrev pub heads_in : List TokenTree → ℕ
heads_in [] = 0
heads_in (token.Leaf l ∷ ts) = heads_in ts
heads_in (token.Subtree s ∷ ts) = 1 + heads_in ts

heads-append : (xs ys : List TokenTree) → heads_in (xs ++ ys) ≡ heads_in xs + heads_in ys
heads-append [] ys = omega arith
heads-append (token.Leaf l ∷ xs) ys = heads-append xs ys
heads-append (token.Subtree s ∷ xs) ys = (let e = heads-append xs ys in omega (arith, e))

heads-length : (ts : List TokenTree) → heads_in ts ≤ length ts
heads-length [] = omega arith
heads-length (token.Leaf l ∷ ts) = (let e = heads-length ts in omega (arith, e))
heads-length (token.Subtree s ∷ ts) = (let e = heads-length ts in omega (arith, e))

steps-heads : (f : Forest) → size f + heads_in (preorder f) ≡ steps f
steps-heads empty = refl
steps-heads (leaf l rest) = (let e = steps-heads rest in omega (arith, e))
steps-heads (group d inner rest) =
    let e = steps-heads inner in
    let g = steps-heads rest in
    omega (arith, e, g, heads-append (preorder inner) (preorder rest), length-append (walk inner) (closes d.kind d.close_span ∷ walk rest))

-- a walk before the first token
pub count_begins : (f : Forest) (n : ℕ) (all left : List TokenTree) → n ≡ size f → all ≡ preorder f → left ≡ all → n + heads_in left ≡ steps f
count_begins f n all left e h i = rw (e, i, h) (steps-heads f)

pub steps-most : (f : Forest) → steps f ≤ 2 * size f
steps-most f =
    let e = steps-heads f in
    let h = heads-length (preorder f) in
    let l = length-preorder f in
    omega (arith, e, h, l)

-- a group's head is left to be counted, so there is room for one more
pub room_for_one : (f : Forest) (n count : ℕ) (left rest : List TokenTree) (t : TokenTree) (s : Subtree) → n ≡ size f → n < 2 ^ 63 →
    count + heads_in left ≡ steps f → left ≡ t ∷ rest → t ≡ token.Subtree s → count + 1 < 2 ^ 64
room_for_one f n count left rest t s all fits counted here group_is =
    let e : heads_in left ≡ 1 + heads_in rest = rw (here, group_is) refl in
    let m = steps-most f in
    omega (arith, all, fits, counted, e, m)
