-- What is left of nested lists, as a traversal of their tokens goes on.
use Rattle.std.proofs.Common.{◌≡◌, ℕ, suc, ◌+◌, ◌-◌, ◌≤◌, List, [], ◌∷◌, ◌++◌, length, take, drop, reverse, ap, sym, refl, ◌∙◌, arith}
use Rattle.std.proofs.lemmas.List.{reverse-append, drop-drop, drop-take, length-drop, length-take, take-take, take_all}
use Rattle.tt_data.specs.Forest.{IsPreorder, empty, forest_of, group, leaf, size}
use Rattle.tt_data.specs.Flat.{IsPreorder-leaf, Parts, parts}
use Rattle.tt_data.specs.declared.leaf.Leaf.{Leaf}
use Rattle.tt_data.specs.declared.tree.Subtree.{Subtree}
use Rattle.tt_data.specs.declared.tree.TokenTree.{TokenTree}
use Rattle.tt_data.specs.declared.tree.TokenTree.TheVariants as token
use Rattle.tt.specs.declared.top_subtree.transform.Kept.{Kept}
use Rattle.tt.specs.Walking.{IsNested, after_in, around_in, left_in}
use Rattle.tt.proofs.Steps.{Step, step}

-- the innermost list is whole trees
pub list_whole : (tokens : List TokenTree) (os : List Kept) → IsNested tokens os → IsPreorder (take (length tokens - after_in os) tokens)
list_whole tokens [] nested = rw (take_all (length tokens - 0) tokens (omega arith)) nested
list_whole tokens (k ∷ outer) nested = nested.1

-- what comes after some tokens, seen past the first of them
beyond_same : (n m : ℕ) (tokens : List TokenTree) → m + n ≤ length tokens
    → drop (length (drop m tokens) - n) (drop m tokens) ≡ drop (length tokens - n) tokens
beyond_same n m tokens fits =
    let e : length (drop m tokens) - n ≡ length tokens - n - m = omega (arith, length-drop m tokens, fits) in
    let all : m + (length tokens - n - m) ≡ length tokens - n = omega (arith, fits) in
    ap (λ k. drop k (drop m tokens)) e ∙ drop-drop (length tokens - n - m) m tokens ∙ ap (λ k. drop k tokens) all

before_same : (n m : ℕ) (tokens : List TokenTree) → m + n ≤ length tokens
    → take (length (drop m tokens) - n) (drop m tokens) ≡ drop m (take (length tokens - n) tokens)
before_same n m tokens fits =
    let e : length (drop m tokens) - n ≡ length tokens - n - m = omega (arith, length-drop m tokens, fits) in
    let all : m + (length tokens - n - m) ≡ length tokens - n = omega (arith, fits) in
    ap (λ k. take k (drop m tokens)) e ∙ sym (drop-take m (length tokens - n - m) tokens) ∙ ap (λ k. drop m (take k tokens)) all

pub around_past : (m : ℕ) (tokens : List TokenTree) (os : List Kept) → m + after_in os ≤ length tokens → around_in (drop m tokens) os ≡ around_in tokens os
around_past m tokens [] fits = refl
around_past m tokens (k ∷ outer) fits = rw (beyond_same k.after m tokens fits) refl

pub nested_past : (m : ℕ) (tokens : List TokenTree) (os : List Kept) → m + after_in os ≤ length tokens → IsNested tokens os
    → IsPreorder (drop m (take (length tokens - after_in os) tokens)) → IsNested (drop m tokens) os
nested_past m tokens [] fits nested whole = rw (take_all (length tokens - 0) tokens (omega arith)) at whole
nested_past m tokens (k ∷ outer) fits nested whole =
    (omega (arith, fits, length-drop m tokens), rw (before_same k.after m tokens fits) whole, rw (beyond_same k.after m tokens fits) nested.2)

-- the first token of the innermost list
first_taken : (n : ℕ) (x : TokenTree) (more : List TokenTree) → n ≤ length more → take (length (x ∷ more) - n) (x ∷ more) ≡ x ∷ take (length more - n) more
first_taken n x more fits =
    let e : length (x ∷ more) - n ≡ suc (length more - n) = omega (arith, fits) in
    ap (λ k. take k (x ∷ more)) e

-- past a leaf
pub record LeafFirst (l : Leaf) (more : List TokenTree) (os : List Kept) : Type 0 where
  pub left_is : left_in (token.Leaf l ∷ more) os ≡ leaf l (left_in more os)
  pub around_is : around_in more os ≡ around_in (token.Leaf l ∷ more) os
  pub nested : IsNested more os

pub leaf_first : (l : Leaf) (more : List TokenTree) (os : List Kept) → IsNested (token.Leaf l ∷ more) os → after_in os ≤ length more → LeafFirst l more os
leaf_first l more os nested fits =
    let tokens : List TokenTree = token.Leaf l ∷ more in
    let first = first_taken (after_in os) (token.Leaf l) more fits in
    let whole : IsPreorder (token.Leaf l ∷ take (length more - after_in os) more) = rw first at (list_whole tokens os nested) in
    let within : 1 + after_in os ≤ length tokens = omega (arith, fits) in
    record {
      left_is = ap forest_of first;
      around_is = around_past 1 tokens os within;
      nested = nested_past 1 tokens os within nested (rw first (IsPreorder-leaf l (take (length more - after_in os) more) whole));
    }

-- past a group's head, and past the group
pub record GroupFirst (s : Subtree) (more : List TokenTree) (os : List Kept) : Type 0 where
  pub fits : s.len + after_in os ≤ length more
  pub left_is : left_in (token.Subtree s ∷ more) os ≡ group s.delimiter (forest_of (take s.len more)) (left_in (drop s.len more) os)
  pub counts : s.len ≡ size (forest_of (take s.len more))
  pub inner_whole : IsPreorder (take s.len more)
  pub around_is : around_in (drop s.len more) os ≡ around_in (token.Subtree s ∷ more) os
  pub nested : IsNested (drop s.len more) os

pub group_first : (s : Subtree) (more : List TokenTree) (os : List Kept) → IsNested (token.Subtree s ∷ more) os → after_in os ≤ length more → GroupFirst s more os
group_first s more os nested within =
    let tokens : List TokenTree = token.Subtree s ∷ more in
    let n : ℕ = after_in os in
    let list : List TokenTree = take (length more - n) more in
    let first : take (length tokens - n) tokens ≡ token.Subtree s ∷ list = first_taken n (token.Subtree s) more within in
    let whole : IsPreorder (token.Subtree s ∷ list) = rw first at (list_whole tokens os nested) in
    let p : Parts s list = parts s list whole in
    let fits : s.len + n ≤ length more = omega (arith, p.fits, length-take (length more - n) more, within) in
    let inner : take s.len list ≡ take s.len more = take-take s.len (length more - n) more (omega (arith, fits)) in
    let rest : take (length (drop s.len more) - n) (drop s.len more) ≡ drop s.len list = before_same n s.len more fits in
    let st : Step s (token.Subtree s ∷ list) (take s.len list) (drop s.len list) = step s (token.Subtree s ∷ list) list _ _ whole refl refl refl in
    let all : suc s.len + n ≤ length tokens = omega (arith, fits) in
    record {
      fits = fits;
      left_is = rw (first, rest, ← inner) st.next.0;
      counts = rw (← inner) st.next.1;
      inner_whole = rw (← inner) st.inner_whole;
      around_is = around_past (suc s.len) tokens os all;
      nested = nested_past (suc s.len) tokens os all nested (rw first st.rest_whole);
    }

-- inside the group
pub record Inside (k : Kept) (s : Subtree) (more : List TokenTree) (os : List Kept) : Type 0 where
  pub nested : IsNested more (k ∷ os)
  pub left_is : left_in more (k ∷ os) ≡ forest_of (take s.len more)
  pub around_is : around_in more (k ∷ os) ≡ record { close_span = k.close_span; rest = left_in (drop s.len more) os } ∷ around_in (drop s.len more) os

pub inside : (k : Kept) (s : Subtree) (more : List TokenTree) (os : List Kept) → k.after ≡ length more - s.len → GroupFirst s more os → Inside k s more os
inside k s more os after g =
    let e : length more - k.after ≡ s.len = omega (arith, after, g.fits) in
    record {
      nested = rw e (omega (arith, after), g.inner_whole, g.nested);
      left_is = rw e refl;
      around_is = rw e refl;
    }

-- at the end of the innermost list
pub at_end : (tokens : List TokenTree) (os : List Kept) → length tokens ≤ after_in os → left_in tokens os ≡ empty
at_end tokens os over =
    let none : length tokens - after_in os ≡ 0 = omega (arith, over) in
    rw none refl

pub record Left (tokens : List TokenTree) (k : Kept) (outer : List Kept) : Type 0 where
  pub nested : IsNested tokens outer
  pub around_is : around_in tokens (k ∷ outer) ≡ record { close_span = k.close_span; rest = left_in tokens outer } ∷ around_in tokens outer

pub left : (tokens : List TokenTree) (k : Kept) (outer : List Kept) → length tokens ≤ k.after → IsNested tokens (k ∷ outer) → Left tokens k outer
left tokens k outer over nested =
    let none : length tokens - k.after ≡ 0 = omega (arith, over) in
    record { nested = rw none at nested.2; around_is = rw none refl }

-- the group that is taken off the end is the innermost
pub stacked : (xs ys : List Kept) (k : Kept) → ys ≡ xs ++ k ∷ [] → reverse ys ≡ k ∷ reverse xs
stacked xs ys k is = ap reverse is ∙ reverse-append xs (k ∷ [])

pub whole_left : (tokens : List TokenTree) → left_in tokens [] ≡ forest_of tokens
whole_left tokens = ap forest_of (take_all (length tokens - 0) tokens (omega arith))

pub length-around_in : (tokens : List TokenTree) (os : List Kept) → length (around_in tokens os) ≡ length os
length-around_in tokens [] = refl
length-around_in tokens (k ∷ outer) = omega (arith, length-around_in (drop (length tokens - k.after) tokens) outer)
