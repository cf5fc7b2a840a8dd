-- A builder's tokens with whole trees after them, and with their innermost group closed.
use Rattle.std.proofs.Common.{◌≡◌, ℕ, ◌+◌, ◌<◌, ◌≤◌, length, List, [], ◌∷◌, ◌++◌, map, take, drop, ap, subst, refl, add-one, ◌-◌, set, reverse, ◌∙◌, sym, arith, length-append, append-nil}
use Rattle.std.proofs.lemmas.List.{drop-append-le, take-append-le, set_split, length-drop, reverse-append, take_at, drop_all}
use Rattle.tt_data.specs.Forest.{Forest, empty, group, joined, IsPreorder, forest_of, size, preorder}
use Rattle.tt_data.specs.Flat.{forest_of-append, forest_of-preorder, IsPreorder-preorder, preorder-joined, length-preorder}
use Rattle.tt.specs.Building.{Opened}
use Rattle.tt.specs.BuilderTokens.{here_of, groups_of, IsHeld}
use Rattle.tt_data.specs.declared.delimiter.Delimiter.{Delimiter}
use Rattle.tt_data.specs.declared.tree.TokenTree.{TokenTree}
use Rattle.tt_data.specs.declared.tree.TokenTree.TheVariants as token
use Rattle.tt.specs.declared.top_subtree.builder.Opening.{Opening}

-- whole trees with whole trees after them
whole-append : (tokens : List TokenTree) (g : Forest) → IsPreorder tokens → IsPreorder (tokens ++ preorder g)
whole-append tokens g whole =
    let all : preorder (joined (forest_of tokens) g) ≡ tokens ++ preorder g =
    preorder-joined (forest_of tokens) g ∙ ap (λ t. t ++ preorder g) whole in
    let P : List TokenTree → Type 0 = λ t. IsPreorder t in
    subst P all (IsPreorder-preorder (joined (forest_of tokens) g))

-- and their forests are joined
forest-append : (tokens : List TokenTree) (g : Forest) → IsPreorder tokens → forest_of (tokens ++ preorder g) ≡ joined (forest_of tokens) g
forest-append tokens g whole =
    ap (λ t. forest_of (t ++ preorder g)) (sym whole) ∙ forest_of-append (forest_of tokens) (preorder g)
    ∙ ap (joined (forest_of tokens)) (forest_of-preorder g)

-- whole trees put after all tokens: they are held too, after the trees of the innermost list, and no open group changes
pub IsHeld-append : (tokens : List TokenTree) (outer : List Opening) (g : Forest) → IsHeld tokens outer → IsHeld (tokens ++ preorder g) outer
IsHeld-append tokens [] g held =
    let h : 1 ≤ length tokens = omega (arith, held.0) in
    (omega (arith, held.0, length-append tokens (preorder g)), rw (drop-append-le 1 tokens (preorder g) h) (whole-append (drop 1 tokens) g held.1))
IsHeld-append tokens (o ∷ outer) g held =
    let h : o.at.count + 1 ≤ length tokens = omega (arith, held.0) in
    let k : o.at.count ≤ length tokens = omega (arith, held.0) in (
      omega (arith, held.0, length-append tokens (preorder g)),
      rw (drop-append-le (o.at.count + 1) tokens (preorder g) h) (whole-append (drop (o.at.count + 1) tokens) g held.1),
      rw (take-append-le o.at.count tokens (preorder g) k) held.2,
    )

pub here_of-append : (tokens : List TokenTree) (outer : List Opening) (g : Forest) → IsHeld tokens outer
    → here_of (tokens ++ preorder g) outer ≡ joined (here_of tokens outer) g
here_of-append tokens [] g held =
    let h : 1 ≤ length tokens = omega (arith, held.0) in
    rw (drop-append-le 1 tokens (preorder g) h) (forest-append (drop 1 tokens) g held.1)
here_of-append tokens (o ∷ outer) g held =
    let h : o.at.count + 1 ≤ length tokens = omega (arith, held.0) in
    rw (drop-append-le (o.at.count + 1) tokens (preorder g) h) (forest-append (drop (o.at.count + 1) tokens) g held.1)

pub groups_of-append : (tokens : List TokenTree) (outer : List Opening) (g : Forest) → IsHeld tokens outer
    → groups_of (tokens ++ preorder g) outer ≡ groups_of tokens outer
groups_of-append tokens [] g held = refl
groups_of-append tokens (o ∷ outer) g held =
    let k : o.at.count ≤ length tokens = omega (arith, held.0) in
    rw (take-append-le o.at.count tokens (preorder g) k) refl

-- the tokens with the number of those that follow put into an open group's own
abbrev pub with_head : List TokenTree → ℕ → Delimiter → List TokenTree
with_head tokens at d = set tokens at (token.Subtree (record { delimiter = d; len = length tokens - at - 1 }))

-- the token of an open group, once its number stands in it, begins the tokens of the closed group
with_head-split : (tokens : List TokenTree) (at : ℕ) (d : Delimiter) → at < length tokens → IsPreorder (drop (at + 1) tokens)
    → with_head tokens at d ≡ take at tokens ++ preorder (group d (forest_of (drop (at + 1) tokens)) empty)
with_head-split tokens at d below whole =
    let inner : List TokenTree = drop (at + 1) tokens in
    let counted : size (forest_of inner) ≡ length tokens - at - 1 =
    omega (arith, length-preorder (forest_of inner), ap length whole, length-drop (at + 1) tokens) in
    rw (set_split tokens at (token.Subtree (record { delimiter = d; len = length tokens - at - 1 })) below, counted, append-nil, whole, add-one at) refl

-- the group that is closed, alone
abbrev closed_group : List TokenTree → Opening → Delimiter → Forest
closed_group tokens o d = group d (forest_of (drop (o.at.count + 1) tokens)) empty

pub IsHeld-closed : (tokens : List TokenTree) (o : Opening) (outer : List Opening) (d : Delimiter) → IsHeld tokens (o ∷ outer)
    → IsHeld (with_head tokens o.at.count d) outer
IsHeld-closed tokens o outer d held =
    rw (with_head-split tokens o.at.count d held.0 held.1) (IsHeld-append (take o.at.count tokens) outer (closed_group tokens o d) held.2)

pub here_of-closed : (tokens : List TokenTree) (o : Opening) (outer : List Opening) (d : Delimiter) → IsHeld tokens (o ∷ outer)
    → here_of (with_head tokens o.at.count d) outer ≡ joined (here_of (take o.at.count tokens) outer) (group d (here_of tokens (o ∷ outer)) empty)
here_of-closed tokens o outer d held =
    rw (with_head-split tokens o.at.count d held.0 held.1) (here_of-append (take o.at.count tokens) outer (closed_group tokens o d) held.2)

pub groups_of-closed : (tokens : List TokenTree) (o : Opening) (outer : List Opening) (d : Delimiter) → IsHeld tokens (o ∷ outer)
    → groups_of (with_head tokens o.at.count d) outer ≡ groups_of (take o.at.count tokens) outer
groups_of-closed tokens o outer d held =
    rw (with_head-split tokens o.at.count d held.0 held.1) (groups_of-append (take o.at.count tokens) outer (closed_group tokens o d) held.2)

-- with one more group open, whose token comes last
pub IsHeld-opened : (tokens : List TokenTree) (x : TokenTree) (o : Opening) (os : List Opening) → o.at.count ≡ length tokens → IsHeld tokens os
    → IsHeld (tokens ++ x ∷ []) (o ∷ os)
IsHeld-opened tokens x o os e held =
    let counts : length (tokens ++ x ∷ []) ≡ o.at.count + 1 = omega (arith, e, length-append tokens (x ∷ [])) in
    let before : take o.at.count (tokens ++ x ∷ []) ≡ tokens = take_at tokens (x ∷ []) o.at.count (sym e) in
    let inside : drop (o.at.count + 1) (tokens ++ x ∷ []) ≡ [] = drop_all (o.at.count + 1) (tokens ++ x ∷ []) (omega (arith, counts)) in
    (omega (arith, counts), rw inside refl, rw before held)

-- the opening that is taken off the end is the innermost
pub reverse-popped : (old new : List Opening) (o : Opening) → old ≡ new ++ o ∷ [] → reverse old ≡ o ∷ reverse new
reverse-popped old new o e = ap reverse e ∙ reverse-append new (o ∷ [])

-- the sorts of the open groups
pub kinds_of : (tokens : List TokenTree) (os : List Opening) → map (λ (o : Opened). o.kind) (groups_of tokens os) ≡ map (λ (o : Opening). o.kind) os
kinds_of tokens [] = refl
kinds_of tokens (o ∷ outer) = ap (λ kinds. o.kind ∷ kinds) (kinds_of (take o.at.count tokens) outer)
