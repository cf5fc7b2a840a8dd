-- What the first of some tokens says about their trees.
use Rattle.std.proofs.Common.{◌≡◌, ◌-◌, List, [], ◌∷◌, ◌++◌, length, drop, ap, refl, sym, ◌∙◌, true, Option, Some, None, option_map, slice_get}
use Rattle.std.proofs.lemmas.List.{append-nil}
use Rattle.tt_data.specs.declared.leaf.Ident.{Ident}
use Rattle.tt_data.specs.declared.leaf.Leaf.{Leaf}
use Rattle.tt_data.specs.declared.leaf.Leaf.TheVariants as as_leaf
use Rattle.tt_data.specs.declared.leaf.LitKind.{LitKind}
use Rattle.tt_data.specs.declared.leaf.Punct.{Punct}
use Rattle.tt_data.specs.declared.tree.Subtree.{Subtree}
use Rattle.tt_data.specs.declared.tree.TokenTree.{TokenTree}
use Rattle.tt_data.specs.declared.tree.TokenTree.TheVariants as token
use Rattle.tt_data.specs.Forest.{Forest, preorder, head_of, IsPreorder, forest_of, size}
use Rattle.tt_data.specs.Flat.{IsPreorder-preorder, forest_of-preorder}
use Rattle.tt_data.specs.Spans.{first_span_of}
use Rattle.tt.specs.Elements.{last_span_of, last_place, first_place}
use Rattle.tt.specs.FirstTrees.{first_subtree, first_leaf, first_ident, first_literal, first_punct}
use Rattle.tt.specs.Groups.{group_in, is_one_group}
use Rattle.token_bytes.specs.TokenLists.{as_head, head_in, leaf_in, punct_in, ident_in, literal_in}
use Rattle.tt.specs.Tops.{only_group}
use Rattle.tt.proofs.GroupLemmas.{one_is}
use Rattle.tt.proofs.Limits.{size-whole}

pub head_is : (t : TokenTree) (s : Subtree) → Some s ≡ as_head t → t ≡ token.Subtree s
head_is (token.Leaf l) s e = cc
head_is (token.Subtree r) s e = let same : s ≡ r = cc in ap token.Subtree (sym same)

-- a head that comes first begins the list
pub head_in-is : (tokens : List TokenTree) (s : Subtree) (more : List TokenTree) → Some (s, more) ≡ head_in tokens → tokens ≡ token.Subtree s ∷ more
head_in-is [] s more e = cc
head_in-is (token.Leaf l ∷ rest) s more e = cc
head_in-is (token.Subtree t ∷ rest) s more e =
    let pair : ◌≡◌ {A = Subtree × List TokenTree} (t, rest) (s, more) = cc in
    ap (λ (p : Subtree × List TokenTree). token.Subtree p.0 ∷ p.1) pair

-- where none comes first, no group does
pub no_head-subtree : (tokens : List TokenTree) (f : Forest) → None ≡ head_in tokens → forest_of tokens ≡ f → None ≡ first_subtree f
no_head-subtree [] f e shown = ap first_subtree shown
no_head-subtree (token.Leaf l ∷ rest) f e shown = ap first_subtree shown
no_head-subtree (token.Subtree t ∷ rest) f e shown = cc

pub no_head-only : (tokens : List TokenTree) → None ≡ head_in tokens → None ≡ only_group (forest_of tokens)
no_head-only [] e = refl
no_head-only (token.Leaf l ∷ rest) e = refl
no_head-only (token.Subtree t ∷ rest) e = cc

-- the trees after a token, by the tokens after it
module _ {A : Type 0} (of : List TokenTree → Option (A × List TokenTree)) (trees_of : Forest → Option (A × Forest))
    (same : (tokens : List TokenTree) → option_map (λ (p : A × List TokenTree). (p.0, forest_of p.1)) (of tokens) ≡ trees_of (forest_of tokens)) where
  pub found : (tokens : List TokenTree) (f : Forest) (a : A) (more : List TokenTree) → Some (a, more) ≡ of tokens → forest_of tokens ≡ f
      → Some (a, forest_of more) ≡ trees_of f
  found tokens f a more e shown = ap (option_map (λ (p : A × List TokenTree). (p.0, forest_of p.1))) e ∙ same tokens ∙ ap trees_of shown

  pub missing : (tokens : List TokenTree) (f : Forest) → None ≡ of tokens → forest_of tokens ≡ f → None ≡ trees_of f
  missing tokens f e shown = ap (option_map (λ (p : A × List TokenTree). (p.0, forest_of p.1))) e ∙ same tokens ∙ ap trees_of shown

pub same_leaf : (tokens : List TokenTree) → option_map (λ (p : Leaf × List TokenTree). (p.0, forest_of p.1)) (leaf_in tokens) ≡ first_leaf (forest_of tokens)
same_leaf [] = refl
same_leaf (token.Leaf l ∷ rest) = refl
same_leaf (token.Subtree s ∷ rest) = refl

pub same_punct : (tokens : List TokenTree) → option_map (λ (p : Punct × List TokenTree). (p.0, forest_of p.1)) (punct_in tokens) ≡ first_punct (forest_of tokens)
same_punct [] = refl
same_punct (token.Leaf (as_leaf.Punct p) ∷ rest) = refl
same_punct (token.Leaf (as_leaf.Ident i) ∷ rest) = refl
same_punct (token.Leaf (as_leaf.Literal l) ∷ rest) = refl
same_punct (token.Subtree s ∷ rest) = refl

pub same_ident : (tokens : List TokenTree) → option_map (λ (p : Ident × List TokenTree). (p.0, forest_of p.1)) (ident_in tokens) ≡ first_ident (forest_of tokens)
same_ident [] = refl
same_ident (token.Leaf (as_leaf.Punct p) ∷ rest) = refl
same_ident (token.Leaf (as_leaf.Ident i) ∷ rest) = refl
same_ident (token.Leaf (as_leaf.Literal l) ∷ rest) = refl
same_ident (token.Subtree s ∷ rest) = refl

pub same_literal : (tokens : List TokenTree)
    → option_map (λ (p : LitKind × List TokenTree). (p.0, forest_of p.1)) (literal_in tokens) ≡ first_literal (forest_of tokens)
same_literal [] = refl
same_literal (token.Leaf (as_leaf.Punct p) ∷ rest) = refl
same_literal (token.Leaf (as_leaf.Ident i) ∷ rest) = refl
same_literal (token.Leaf (as_leaf.Literal l) ∷ rest) = refl
same_literal (token.Subtree s ∷ rest) = refl

-- the first token begins where the first tree does
pub first_begins : (tokens : List TokenTree) (f : Forest) → forest_of tokens ≡ f → option_map first_span_of (slice_get tokens 0) ≡ first_place f
first_begins [] f shown = ap first_place shown
first_begins (token.Leaf l ∷ rest) f shown = ap first_place shown
first_begins (token.Subtree s ∷ rest) f shown = ap first_place shown

-- without a last token there is no last place
pub no_last : (tokens : List TokenTree) → IsPreorder tokens → None ≡ slice_get tokens (length tokens - 1) → None ≡ last_place (forest_of tokens)
no_last tokens whole none = rw (whole, size-whole tokens whole) (ap (option_map last_span_of) none)

-- the tokens of one group: its head, and then what it has inside
module _ (tokens : List TokenTree) (whole : IsPreorder tokens) (one : is_one_group (forest_of tokens) ≡ true) where
  all : tokens ≡ head_of (group_in (forest_of tokens)).delimiter (size (group_in (forest_of tokens)).inner) ∷ (preorder (group_in (forest_of tokens)).inner ++ [])
  all = sym whole ∙ ap preorder (one_is (forest_of tokens) one)

  pub head_there : (s : Subtree) (more : List TokenTree) → Some (s, more) ≡ head_in tokens
      → s ≡ record { delimiter = (group_in (forest_of tokens)).delimiter; len = size (group_in (forest_of tokens)).inner }
  head_there s more e =
      let pair : ◌≡◌ {A = Option (Subtree × List TokenTree)} (Some (s, more))
      (Some (record { delimiter = (group_in (forest_of tokens)).delimiter; len = size (group_in (forest_of tokens)).inner }, preorder (group_in (forest_of tokens)).inner ++ [])) =
      e ∙ ap head_in all in
      let both : ◌≡◌ {A = Subtree × List TokenTree} (s, more)
      (record { delimiter = (group_in (forest_of tokens)).delimiter; len = size (group_in (forest_of tokens)).inner }, preorder (group_in (forest_of tokens)).inner ++ []) =
      cc in
      ap (λ (p : Subtree × List TokenTree). p.0) both

  pub inside_is : (s : Subtree) (more : List TokenTree) → Some (s, more) ≡ head_in tokens → more ≡ preorder (group_in (forest_of tokens)).inner
  inside_is s more e =
      let below : more ≡ preorder (group_in (forest_of tokens)).inner ++ [] = ap (drop 1) (sym (head_in-is tokens s more e) ∙ all) in
      below ∙ append-nil (preorder (group_in (forest_of tokens)).inner)

  pub inside_whole : (s : Subtree) (more : List TokenTree) → Some (s, more) ≡ head_in tokens → IsPreorder more
  inside_whole s more e = rw (inside_is s more e) (IsPreorder-preorder (group_in (forest_of tokens)).inner)

  pub inside_trees : (s : Subtree) (more : List TokenTree) → Some (s, more) ≡ head_in tokens → forest_of more ≡ (group_in (forest_of tokens)).inner
  inside_trees s more e = rw (inside_is s more e) (forest_of-preorder (group_in (forest_of tokens)).inner)

  pub head_missing : None ≡ head_in tokens → ⊥
  head_missing e =
      let both : ◌≡◌ {A = Option (Subtree × List TokenTree)} None
      (Some (record { delimiter = (group_in (forest_of tokens)).delimiter; len = size (group_in (forest_of tokens)).inner }, preorder (group_in (forest_of tokens)).inner ++ [])) =
      e ∙ ap head_in all in
      cc
