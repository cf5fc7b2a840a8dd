-- Flat lists that hold one group.
use Rattle.std.proofs.Common.{◌≡◌, ◌↔◌, ◌≤◌, ℕ, zero, suc, ◌+◌, ◌-◌, ◌<◌, length, List, [], ◌∷◌, ◌++◌, take, drop, set, get_or, ap, subst, sym, refl, ◌∙◌, arith, append-nil, Some, IsSome}
use Rattle.std.proofs.lemmas.Bool.{lt-ltb, le-ltb}
use Rattle.std.proofs.lemmas.List.{take-append-drop, drop_more}
use Rattle.tt_data.specs.Forest.{Forest, empty, leaf, group, size, preorder, forest_of, head_of, front, back, IsPreorder}
use Rattle.tt_data.specs.Flat.{front-zero, forest_of-preorder, IsPreorder-leaf, Parts, parts, preorder-joined}
use Rattle.tt_data.proofs.FlatLemmas.{IsPreorder-append, IsPreorder-leaf_before}
use Rattle.tt_data.proofs.ForestLemmas.{joined-front-back}
use Rattle.tt_data.specs.declared.leaf.Leaf.{Leaf}
use Rattle.tt_data.specs.declared.delimiter.Delimiter.{Delimiter}
use Rattle.tt_data.specs.declared.tree.Subtree.{Subtree}
use Rattle.tt_data.specs.declared.tree.TokenTree.{TokenTree}
use Rattle.tt_data.specs.declared.tree.TokenTree.TheVariants as token
use Rattle.token_bytes.specs.TokenLists.{inside_of}
use Rattle.tt.specs.Tops.{Top, tree_of, tokens_of, only_group, IsOneGroup}
use Rattle.tt.proofs.Limits.{size-whole}

-- what a list that holds one group is
pub record Group (tokens : List TokenTree) : Type 0 where
  pub some : 0 < length tokens
  pub inside_whole : IsPreorder (drop 1 tokens)
  pub inside_is : (tree_of tokens).inner ≡ forest_of (drop 1 tokens)
  pub whole : IsPreorder tokens
  pub all_is : forest_of tokens ≡ group (tree_of tokens).delimiter (tree_of tokens).inner empty
  pub head_is : tokens ≡ head_of (tree_of tokens).delimiter (length tokens - 1) ∷ drop 1 tokens

pub grouped : (d : Delimiter) (more : List TokenTree) → IsPreorder more → IsOneGroup (head_of d (length more) ∷ more)
grouped d more whole = rw (append-nil, size-whole more whole, whole) refl

pub group_of : (tokens : List TokenTree) → IsOneGroup tokens → Group tokens
group_of [] one = absurd (grind (arith, one))
group_of (token.Leaf l ∷ more) one = absurd (grind (arith, one))
group_of (token.Subtree s ∷ more) one =
    let f : Forest = forest_of more in
    let all : head_of s.delimiter (size f) ∷ preorder f ≡ token.Subtree s ∷ more = rw (append-nil) at one in
    let whole : IsPreorder more = cc in
    let counts : size f ≡ length more = size-whole more whole in
    let trees : forest_of (token.Subtree s ∷ more) ≡ group s.delimiter f empty =
    ap forest_of (sym one) ∙ forest_of-preorder (group s.delimiter f empty) in
    let first : token.Subtree s ≡ head_of s.delimiter (size f) = cc in
    record {
      some = omega arith;
      inside_whole = whole;
      inside_is = refl;
      whole = ap preorder trees ∙ one;
      all_is = trees;
      head_is = ap (λ t. t ∷ more) (first ∙ ap (head_of s.delimiter) (omega (arith, counts)));
    }

-- whole trees after a head that counts them
pub with_head_token : (tokens : List TokenTree) (d : Delimiter) (n : ℕ) → n ≡ length tokens - 1 → 0 < length tokens → IsPreorder (drop 1 tokens)
    → IsOneGroup (set tokens 0 (head_of d n))
with_head_token [] d n counts some whole = absurd (omega (arith, some))
with_head_token (x ∷ more) d n counts some whole =
    let e : n ≡ length more = omega (arith, counts) in
    let P : ℕ → Type 0 = λ k. IsOneGroup (head_of d k ∷ more) in
    subst P (sym e) (grouped d more whole)

-- what follows any token of a flat list is a flat list
pub contents_whole : (x : TokenTree) (q : List TokenTree) → IsPreorder (x ∷ q) → IsPreorder q
contents_whole (token.Leaf l) q whole = IsPreorder-leaf l q whole
contents_whole (token.Subtree s) q whole =
    let p : Parts s q = parts s q whole in
    let P : List TokenTree → Type 0 = λ t. IsPreorder t in
    subst P (take-append-drop s.len q) (IsPreorder-append (take s.len q) (drop s.len q) p.inner_whole p.rest_whole)

pub rest_whole : (n : ℕ) (tokens : List TokenTree) → IsPreorder tokens → IsPreorder (drop n tokens)
rest_whole zero tokens whole = whole
rest_whole (suc n) [] whole = whole
rest_whole (suc n) (x ∷ q) whole = rest_whole n q (contents_whole x q whole)

-- a head before whole trees makes whole trees exactly where some of the trees have as many tokens as it counts
pub head_whole : (s : Subtree) (more : List TokenTree) → IsPreorder more → size (front s.len (forest_of more)) ≡ s.len
    → IsPreorder (token.Subtree s ∷ more)
head_whole s more whole counts =
    let f : Forest = front s.len (forest_of more) in
    let g : Forest = back s.len (forest_of more) in
    ap (λ n. head_of s.delimiter n ∷ (preorder f ++ preorder g)) counts
    ∙ ap (λ t. token.Subtree s ∷ t) (sym (preorder-joined f g) ∙ ap preorder (joined-front-back s.len (forest_of more)) ∙ whole)

-- the same at a place of a list
pub rest_counts : (tokens : List TokenTree) (at : ℕ) (s : Subtree) (x : TokenTree) → at < length tokens → x ≡ get_or tokens at x → x ≡ token.Subtree s
    → IsPreorder tokens → size (front s.len (forest_of (drop (at + 1) tokens))) ≡ s.len
rest_counts tokens at s x below read is whole =
    let first : drop at tokens ≡ token.Subtree s ∷ drop (at + 1) tokens =
    drop_more tokens at x below ∙ ap (λ y. y ∷ drop (at + 1) tokens) (sym read ∙ is) in
    (parts s (drop (at + 1) tokens) (rw first at (rest_whole at tokens whole))).counted

pub rest_with_head : (tokens : List TokenTree) (at : ℕ) (s : Subtree) (x : TokenTree) → at < length tokens → x ≡ get_or tokens at x → x ≡ token.Subtree s
    → IsPreorder (drop (at + 1) tokens) → size (front s.len (forest_of (drop (at + 1) tokens))) ≡ s.len → IsPreorder (drop at tokens)
rest_with_head tokens at s x below read is whole counts =
    let first : drop at tokens ≡ token.Subtree s ∷ drop (at + 1) tokens =
    drop_more tokens at x below ∙ ap (λ y. y ∷ drop (at + 1) tokens) (sym read ∙ is) in
    let P : List TokenTree → Type 0 = λ t. IsPreorder t in
    subst P (sym first) (head_whole s (drop (at + 1) tokens) whole counts)

pub rest_with_leaf : (tokens : List TokenTree) (at : ℕ) (l : Leaf) (x : TokenTree) → at < length tokens → x ≡ get_or tokens at x → x ≡ token.Leaf l
    → IsPreorder (drop (at + 1) tokens) → IsPreorder (drop at tokens)
rest_with_leaf tokens at l x below read is whole =
    let first : drop at tokens ≡ token.Leaf l ∷ drop (at + 1) tokens =
    drop_more tokens at x below ∙ ap (λ y. y ∷ drop (at + 1) tokens) (sym read ∙ is) in
    let P : List TokenTree → Type 0 = λ t. IsPreorder t in
    subst P (sym first) (IsPreorder-leaf_before l (drop (at + 1) tokens) whole)

-- the same for any token
pub token_counts : (tokens : List TokenTree) (at : ℕ) (x : TokenTree) → at < length tokens → x ≡ get_or tokens at x → IsPreorder tokens
    → size (front (inside_of x) (forest_of (drop (at + 1) tokens))) ≡ inside_of x
token_counts tokens at (token.Leaf l) below read whole = rw (front-zero (forest_of (drop (at + 1) tokens))) refl
token_counts tokens at (token.Subtree s) below read whole = rest_counts tokens at s (token.Subtree s) below read refl whole

pub rest_with_token : (tokens : List TokenTree) (at : ℕ) (x : TokenTree) → at < length tokens → x ≡ get_or tokens at x → IsPreorder (drop (at + 1) tokens)
    → size (front (inside_of x) (forest_of (drop (at + 1) tokens))) ≡ inside_of x → IsPreorder (drop at tokens)
rest_with_token tokens at (token.Leaf l) below read whole counts = rest_with_leaf tokens at l (token.Leaf l) below read refl whole
rest_with_token tokens at (token.Subtree s) below read whole counts = rest_with_head tokens at s (token.Subtree s) below read refl whole counts

-- the trees of a flat list after its first tree
pub record Next (t : TokenTree) (more : List TokenTree) : Type 0 where
  pub fits : inside_of t ≤ length more
  pub rest_whole : IsPreorder (drop (inside_of t) more)
  pub short : (n : ℕ) → 0 < n → n ≤ inside_of t → size (front n (forest_of (t ∷ more))) ≡ n → ⊥
  pub ends : (n : ℕ) → inside_of t < n
      → (size (front (n - (inside_of t + 1)) (forest_of (drop (inside_of t) more))) ≡ n - (inside_of t + 1)) ↔ (size (front n (forest_of (t ∷ more))) ≡ n)

pub next : (t : TokenTree) (more : List TokenTree) → IsPreorder (t ∷ more) → Next t more
next (token.Leaf l) more whole = record {
  fits = omega arith;
  rest_whole = IsPreorder-leaf l more whole;
  short = λ n some le e. absurd (omega (arith, some, le));
  ends = λ n some. rw (lt-ltb 0 n some) (λ e. omega (arith, e, some), λ e. omega (arith, e, some));
}
next (token.Subtree s) more whole =
    let p : Parts s more = parts s more whole in
    record {
      fits = p.fits;
      rest_whole = p.rest_whole;
      short = λ n some le. rw (p.counted, le-ltb s.len n le) (λ e. omega (arith, e, some));
      ends = λ n past.
          let less : n - 1 - s.len ≡ n - (s.len + 1) = omega arith in
          rw (p.counted, lt-ltb s.len n past, p.rest_is, less) (λ e. omega (arith, e, past, p.counted), λ e. omega (arith, e, past, p.counted));
    }

-- a head before whole trees, which counts them or not
pub one_from : (s : Subtree) (more : List TokenTree) → s.len ≡ length more → IsPreorder more → IsOneGroup (token.Subtree s ∷ more)
one_from s more counts whole =
    let P : ℕ → Type 0 = λ n. IsOneGroup (head_of s.delimiter n ∷ more) in
    subst P (sym counts) (grouped s.delimiter more whole)

pub one_counts : (s : Subtree) (more : List TokenTree) → IsOneGroup (token.Subtree s ∷ more) → s.len ≡ length more
one_counts s more one =
    let g : Group (token.Subtree s ∷ more) = group_of (token.Subtree s ∷ more) one in
    let n : length (token.Subtree s ∷ more) - 1 ≡ length more = omega arith in
    head_counts s more (length (token.Subtree s ∷ more) - 1) g.head_is ∙ n
  where
    head_counts : (s : Subtree) (more : List TokenTree) (n : ℕ) → token.Subtree s ∷ more ≡ head_of s.delimiter n ∷ more → s.len ≡ n
    head_counts s more n e = cc

-- the tokens of a tree are one group, and that tree
pub tree_of-tokens_of : (t : Top) → tree_of (tokens_of t) ≡ t
tree_of-tokens_of t = rw (append-nil, forest_of-preorder t.inner) refl

pub one_of_top : (t : Top) → IsOneGroup (tokens_of t)
one_of_top t = ap tokens_of (tree_of-tokens_of t)

-- whole trees are one group exactly where their forest is
pub only_of_one : (tokens : List TokenTree) → IsOneGroup tokens → only_group (forest_of tokens) ≡ Some (tree_of tokens)
only_of_one tokens one = rw (group_of tokens one).all_is refl

one_of_forest : (f : Forest) → IsSome (only_group f) → IsOneGroup (preorder f)
one_of_forest empty some = absurd (grind (arith, some))
one_of_forest (leaf l rest) some = absurd (grind (arith, some))
one_of_forest (group d inner empty) some = one_of_top (record { delimiter = d; inner = inner })
one_of_forest (group d inner (leaf l rest)) some = absurd (grind (arith, some))
one_of_forest (group d inner (group e more rest)) some = absurd (grind (arith, some))

pub one_of_only : (tokens : List TokenTree) → IsPreorder tokens → IsSome (only_group (forest_of tokens)) → IsOneGroup tokens
one_of_only tokens whole some =
    let P : List TokenTree → Type 0 = λ t. IsOneGroup t in
    subst P whole (one_of_forest (forest_of tokens) some)
