-- A leaf of a flat list, put in place of another.
use Rattle.std.proofs.Common.{◌≡◌, ℕ, zero, suc, ◌+◌, ◌-◌, List, [], ◌∷◌, map, set, ap, sym, refl, ◌∙◌, arith, nat_lt, Bool, true, false, if◌then◌else◌}
use Rattle.std.specs.Prelude.{Some, drop, slice_get}
use Rattle.std.proofs.lemmas.List.{length-set}
use Rattle.tt_data.specs.Forest.{Forest, empty, leaf, group, size, front, back, forest_of, IsPreorder}
use Rattle.tt_data.specs.Flat.{IsPreorder-leaf, parts}
use Rattle.tt_data.proofs.FlatLemmas.{IsPreorder-leaf_before}
use Rattle.tt_data.specs.declared.leaf.Leaf.{Leaf}
use Rattle.tt_data.specs.declared.tree.TokenTree.{TokenTree}
use Rattle.tt_data.specs.declared.tree.TokenTree.TheVariants as token
use Rattle.tt.specs.Tops.{IsOneGroup}
use Rattle.token_bytes.specs.TokenLists.{has_leaf_at}
use Rattle.tt.proofs.Groups.{contents_whole, head_whole, one_from, one_counts, group_of}

-- one leaf in place of every leaf
abbrev bare : Leaf → Forest → Forest
bare m empty = empty
bare m (leaf l rest) = leaf m (bare m rest)
bare m (group d inner rest) = group d (bare m inner) (bare m rest)

abbrev bare_token : Leaf → TokenTree → TokenTree
bare_token m (token.Leaf l) = token.Leaf m
bare_token m (token.Subtree s) = token.Subtree s

size-bare : (m : Leaf) (f : Forest) → size (bare m f) ≡ size f
size-bare m empty = refl
size-bare m (leaf l rest) = ap (λ n. 1 + n) (size-bare m rest)
size-bare m (group d inner rest) = rw (size-bare m inner, size-bare m rest) refl

front-cut_leaf : (m l : Leaf) (first : Bool) (a : Forest) → (if first then leaf m (bare m a) else empty) ≡ bare m (if first then leaf l a else empty)
front-cut_leaf m l true a = refl
front-cut_leaf m l false a = refl

front-cut_group : (m : Leaf) (d : _) (first : Bool) (inner a : Forest)
    → (if first then group d (bare m inner) (bare m a) else empty) ≡ bare m (if first then group d inner a else empty)
front-cut_group m d true inner a = refl
front-cut_group m d false inner a = refl

back-cut : (m : Leaf) (first : Bool) (a b : Forest) → (if first then bare m a else bare m b) ≡ bare m (if first then a else b)
back-cut m true a b = refl
back-cut m false a b = refl

front-bare : (m : Leaf) (n : ℕ) (g : Forest) → front n (bare m g) ≡ bare m (front n g)
front-bare m n empty = refl
front-bare m n (leaf l rest) = rw (front-bare m (n - 1) rest) (front-cut_leaf m l (nat_lt 0 n) (front (n - 1) rest))
front-bare m n (group d inner rest) =
    rw (size-bare m inner, front-bare m (n - 1 - size inner) rest)
    (front-cut_group m d (nat_lt (size inner) n) inner (front (n - 1 - size inner) rest))

back-bare : (m : Leaf) (n : ℕ) (g : Forest) → back n (bare m g) ≡ bare m (back n g)
back-bare m n empty = refl
back-bare m n (leaf l rest) = rw (back-bare m (n - 1) rest) (back-cut m (nat_lt 0 n) (back (n - 1) rest) (leaf l rest))
back-bare m n (group d inner rest) =
    rw (size-bare m inner, back-bare m (n - 1 - size inner) rest)
    (back-cut m (nat_lt (size inner) n) (back (n - 1 - size inner) rest) (group d inner rest))

forest_of-bare : (m : Leaf) (tokens : List TokenTree) → forest_of (map (bare_token m) tokens) ≡ bare m (forest_of tokens)
forest_of-bare m [] = refl
forest_of-bare m (token.Leaf l ∷ more) = ap (leaf m) (forest_of-bare m more)
forest_of-bare m (token.Subtree s ∷ more) =
    rw (forest_of-bare m more, front-bare m s.len (forest_of more), back-bare m s.len (forest_of more)) refl

-- the leaf that is put there is none of the rest's concern
bare_set : (m l : Leaf) (i : ℕ) (tokens : List TokenTree) → has_leaf_at i tokens ≡ true
    → map (bare_token m) (set tokens i (token.Leaf l)) ≡ map (bare_token m) tokens
bare_set m l i [] there = refl
bare_set m l zero (token.Leaf x ∷ more) there = refl
bare_set m l zero (token.Subtree s ∷ more) there = absurd (grind (arith, there))
bare_set m l (suc i) (x ∷ more) there = ap (λ t. bare_token m x ∷ t) (bare_set m l i more there)

size_front_set : (l : Leaf) (n i : ℕ) (tokens : List TokenTree) → has_leaf_at i tokens ≡ true
    → size (front n (forest_of (set tokens i (token.Leaf l)))) ≡ size (front n (forest_of tokens))
size_front_set l n i tokens there =
    let f : Forest = forest_of (set tokens i (token.Leaf l)) in
    let g : Forest = forest_of tokens in
    let same : bare l f ≡ bare l g =
    sym (forest_of-bare l (set tokens i (token.Leaf l))) ∙ ap forest_of (bare_set l l i tokens there) ∙ forest_of-bare l tokens in
    sym (ap size (front-bare l n f) ∙ size-bare l (front n f)) ∙ ap (λ h. size (front n h)) same ∙ ap size (front-bare l n g) ∙ size-bare l (front n g)

set_whole : (l : Leaf) (i : ℕ) (tokens : List TokenTree) → has_leaf_at i tokens ≡ true → IsPreorder tokens → IsPreorder (set tokens i (token.Leaf l))
set_whole l i [] there whole = whole
set_whole l zero (token.Leaf x ∷ more) there whole = IsPreorder-leaf_before l more (IsPreorder-leaf x more whole)
set_whole l zero (token.Subtree s ∷ more) there whole = absurd (grind (arith, there))
set_whole l (suc i) (token.Leaf x ∷ more) there whole =
    IsPreorder-leaf_before x (set more i (token.Leaf l)) (set_whole l i more there (IsPreorder-leaf x more whole))
set_whole l (suc i) (token.Subtree s ∷ more) there whole =
    head_whole s (set more i (token.Leaf l)) (set_whole l i more there (contents_whole (token.Subtree s) more whole))
    (size_front_set l s.len i more there ∙ (parts s more whole).counted)

-- one group stays one group
pub set_one : (l : Leaf) (i : ℕ) (tokens : List TokenTree) → has_leaf_at i tokens ≡ true → IsOneGroup tokens → IsOneGroup (set tokens i (token.Leaf l))
set_one l i [] there one = one
set_one l i (token.Leaf x ∷ more) there one = absurd (grind (arith, one))
set_one l zero (token.Subtree s ∷ more) there one = absurd (grind (arith, there))
set_one l (suc i) (token.Subtree s ∷ more) there one =
    one_from s (set more i (token.Leaf l)) (one_counts s more one ∙ sym (length-set more i (token.Leaf l)))
    (set_whole l i more there (group_of (token.Subtree s ∷ more) one).inside_whole)

-- a token that is there is put in its own place
pub set_same : (ts : List TokenTree) (at : ℕ) (t : TokenTree) → slice_get (drop at ts) 0 ≡ Some t → set ts at t ≡ ts
set_same [] at t e = refl
set_same (x ∷ more) zero t e =
    let same : x ≡ t = cc e in
    ap (λ y. y ∷ more) (sym same)
set_same (x ∷ more) (suc at) t e = ap (λ l. x ∷ l) (set_same more at t e)
