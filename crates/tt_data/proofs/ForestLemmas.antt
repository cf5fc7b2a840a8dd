-- Forests side by side, with other spans, and by their walks.
use Rattle.std.proofs.Common.{◌≡◌, ℕ, ◌+◌, ◌-◌, List, [], ◌∷◌, ◌++◌, map, refl, sym, ap, ◌∙◌, arith, append_assoc, nat_lt, if◌then◌else◌, Bool, true, false}
use Rattle.tt_data.specs.declared.span.Span.{Span}
use Rattle.tt_data.specs.declared.leaf.Leaf.{Leaf}
use Rattle.tt_data.specs.declared.leaf.Leaf.TheVariants as as_leaf
use Rattle.tt_data.specs.declared.delimiter.Delimiter.{Delimiter}
use Rattle.tt_data.specs.declared.tree.TokenTree.{TokenTree}
use Rattle.tt_data.specs.declared.tree.TokenTree.TheVariants as token
use Rattle.tt_data.specs.Spans.{leaf_with, delimiter_with, token_with, no_span}
use Rattle.tt_data.specs.Forest.{Forest, empty, leaf, group, joined, size, preorder, front, back, forest_of, IsPreorder, map_spans, shape}
use Rattle.tt_data.specs.Walk.{at_leaf, opens, closes, walk, step_with}

pub joined_assoc : (f g h : Forest) → joined (joined f g) h ≡ joined f (joined g h)
joined_assoc empty g h = refl
joined_assoc (leaf l rest) g h = ap (leaf l) (joined_assoc rest g h)
joined_assoc (group d inner rest) g h = ap (group d inner) (joined_assoc rest g h)

pub size-joined : (f g : Forest) → size (joined f g) ≡ size f + size g
size-joined empty g = omega arith
size-joined (leaf l rest) g = omega (arith, size-joined rest g)
size-joined (group d inner rest) g = omega (arith, size-joined rest g)

pub walk-joined : (f g : Forest) → walk (joined f g) ≡ walk f ++ walk g
walk-joined empty g = refl
walk-joined (leaf l rest) g = ap (λ more. at_leaf l ∷ more) (walk-joined rest g)
walk-joined (group d inner rest) g =
    ap (λ more. opens d.kind d.open_span ∷ more)
    (ap (λ more. walk inner ++ (closes d.kind d.close_span ∷ more)) (walk-joined rest g)
    ∙ sym (append_assoc (walk inner) (closes d.kind d.close_span ∷ walk rest) (walk g)))

-- a tree that goes to the first or stays with the others, and the rest cut likewise
joined-cut_leaf : (first : Bool) (l : Leaf) (rest a b : Forest) → joined a b ≡ rest
    → joined (if first then leaf l a else empty) (if first then b else leaf l rest) ≡ leaf l rest
joined-cut_leaf true l rest a b e = ap (leaf l) e
joined-cut_leaf false l rest a b e = refl

joined-cut_group : (first : Bool) (d : Delimiter) (inner rest a b : Forest) → joined a b ≡ rest
    → joined (if first then group d inner a else empty) (if first then b else group d inner rest) ≡ group d inner rest
joined-cut_group true d inner rest a b e = ap (group d inner) e
joined-cut_group false d inner rest a b e = refl

-- a forest is its first trees and the trees after them
pub joined-front-back : (n : ℕ) (f : Forest) → joined (front n f) (back n f) ≡ f
joined-front-back n empty = refl
joined-front-back n (leaf l rest) =
    joined-cut_leaf (nat_lt 0 n) l rest (front (n - 1) rest) (back (n - 1) rest) (joined-front-back (n - 1) rest)
joined-front-back n (group d inner rest) =
    let left : ℕ = n - 1 - size inner in
    joined-cut_group (nat_lt (size inner) n) d inner rest (front left rest) (back left rest) (joined-front-back left rest)

module _ (f : Span → Span) where
  pub map_spans-joined : (g h : Forest) → map_spans f (joined g h) ≡ joined (map_spans f g) (map_spans f h)
  map_spans-joined empty h = refl
  map_spans-joined (leaf l rest) h = ap (leaf (leaf_with f l)) (map_spans-joined rest h)
  map_spans-joined (group d inner rest) h = ap (group (delimiter_with f d) (map_spans f inner)) (map_spans-joined rest h)

  pub size-map_spans : (g : Forest) → size (map_spans f g) ≡ size g
  size-map_spans empty = refl
  size-map_spans (leaf l rest) = ap (λ n. 1 + n) (size-map_spans rest)
  size-map_spans (group d inner rest) = rw (size-map_spans inner, size-map_spans rest) refl

  pub map-append : {A B : Type 0} (h : A → B) (xs ys : List A) → map h (xs ++ ys) ≡ map h xs ++ map h ys
  map-append h [] ys = refl
  map-append h (x ∷ xs) ys = ap (λ more. h x ∷ more) (map-append h xs ys)

  pub preorder-map_spans : (g : Forest) → preorder (map_spans f g) ≡ map (token_with f) (preorder g)
  preorder-map_spans empty = refl
  preorder-map_spans (leaf l rest) = ap (λ more. token.Leaf (leaf_with f l) ∷ more) (preorder-map_spans rest)
  preorder-map_spans (group d inner rest) =
      rw (size-map_spans inner, preorder-map_spans inner, preorder-map_spans rest, map-append (token_with f) (preorder inner) (preorder rest)) refl

  -- a cut of trees elsewhere, where the cut is the same
  front-cut_leaf : (first : Bool) (l : Leaf) (a : Forest)
      → (if first then leaf (leaf_with f l) (map_spans f a) else empty) ≡ map_spans f (if first then leaf l a else empty)
  front-cut_leaf true l a = refl
  front-cut_leaf false l a = refl

  front-cut_group : (first : Bool) (d : Delimiter) (inner a : Forest)
      → (if first then group (delimiter_with f d) (map_spans f inner) (map_spans f a) else empty)
      ≡ map_spans f (if first then group d inner a else empty)
  front-cut_group true d inner a = refl
  front-cut_group false d inner a = refl

  back-cut : (first : Bool) (a b : Forest) → (if first then map_spans f a else map_spans f b) ≡ map_spans f (if first then a else b)
  back-cut true a b = refl
  back-cut false a b = refl

  pub front-map_spans : (n : ℕ) (g : Forest) → front n (map_spans f g) ≡ map_spans f (front n g)
  front-map_spans n empty = refl
  front-map_spans n (leaf l rest) = rw (front-map_spans (n - 1) rest) (front-cut_leaf (nat_lt 0 n) l (front (n - 1) rest))
  front-map_spans n (group d inner rest) =
      rw (size-map_spans inner, front-map_spans (n - 1 - size inner) rest)
      (front-cut_group (nat_lt (size inner) n) d inner (front (n - 1 - size inner) rest))

  pub back-map_spans : (n : ℕ) (g : Forest) → back n (map_spans f g) ≡ map_spans f (back n g)
  back-map_spans n empty = refl
  back-map_spans n (leaf l rest) =
      rw (back-map_spans (n - 1) rest) (back-cut (nat_lt 0 n) (back (n - 1) rest) (leaf l rest))
  back-map_spans n (group d inner rest) =
      rw (size-map_spans inner, back-map_spans (n - 1 - size inner) rest)
      (back-cut (nat_lt (size inner) n) (back (n - 1 - size inner) rest) (group d inner rest))

  -- tokens elsewhere hold the trees elsewhere
  pub forest_of-token_with : (tokens : List TokenTree) → forest_of (map (token_with f) tokens) ≡ map_spans f (forest_of tokens)
  forest_of-token_with [] = refl
  forest_of-token_with (token.Leaf l ∷ more) = ap (leaf (leaf_with f l)) (forest_of-token_with more)
  forest_of-token_with (token.Subtree s ∷ more) =
      rw (forest_of-token_with more, front-map_spans s.len (forest_of more), back-map_spans s.len (forest_of more)) refl

  pub IsPreorder-token_with : (tokens : List TokenTree) → IsPreorder tokens → IsPreorder (map (token_with f) tokens)
  IsPreorder-token_with tokens whole =
      ap preorder (forest_of-token_with tokens) ∙ preorder-map_spans (forest_of tokens) ∙ ap (map (token_with f)) whole

  pub walk-map_spans : (g : Forest) → walk (map_spans f g) ≡ map (step_with f) (walk g)
  walk-map_spans empty = refl
  walk-map_spans (leaf l rest) = ap (λ more. at_leaf (leaf_with f l) ∷ more) (walk-map_spans rest)
  walk-map_spans (group d inner rest) =
      rw (walk-map_spans inner, walk-map_spans rest, map-append (step_with f) (walk inner) (closes d.kind d.close_span ∷ walk rest)) refl

leaf_with-leaf_with : (f g : Span → Span) (l : Leaf) → leaf_with f (leaf_with g l) ≡ leaf_with (λ s. f (g s)) l
leaf_with-leaf_with f g (as_leaf.Literal l) = refl
leaf_with-leaf_with f g (as_leaf.Punct p) = refl
leaf_with-leaf_with f g (as_leaf.Ident i) = refl

-- two changes, one after the other, are one
pub map_spans-map_spans : (f g : Span → Span) (h : Forest) → map_spans f (map_spans g h) ≡ map_spans (λ s. f (g s)) h
map_spans-map_spans f g empty = refl
map_spans-map_spans f g (leaf l rest) = rw (leaf_with-leaf_with f g l, map_spans-map_spans f g rest) refl
map_spans-map_spans f g (group d inner rest) = rw (map_spans-map_spans f g inner, map_spans-map_spans f g rest) refl

leaf_with-same : (l : Leaf) → leaf_with (λ s. s) l ≡ l
leaf_with-same (as_leaf.Literal l) = refl
leaf_with-same (as_leaf.Punct p) = refl
leaf_with-same (as_leaf.Ident i) = refl

-- a change that changes nothing
pub map_spans-same : (f : Forest) → map_spans (λ s. s) f ≡ f
map_spans-same empty = refl
map_spans-same (leaf l rest) = rw (leaf_with-same l, map_spans-same rest) refl
map_spans-same (group d inner rest) = rw (map_spans-same inner, map_spans-same rest) refl

-- places are no part of a shape
pub shape-map_spans : (f : Span → Span) (g : Forest) → shape (map_spans f g) ≡ shape g
shape-map_spans f g = map_spans-map_spans (λ _. no_span) f g
