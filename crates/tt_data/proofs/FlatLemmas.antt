-- Flat lists that hold forests, put together.
use Rattle.std.proofs.Common.{◌≡◌, List, ◌∷◌, ◌++◌, length, refl, sym, ap, ◌∙◌}
use Rattle.tt_data.specs.declared.leaf.Leaf.{Leaf}
use Rattle.tt_data.specs.declared.delimiter.Delimiter.{Delimiter}
use Rattle.tt_data.specs.declared.tree.TokenTree.{TokenTree}
use Rattle.tt_data.specs.declared.tree.TokenTree.TheVariants as token
use Rattle.tt_data.specs.Forest.{group, joined, size, preorder, forest_of, head_of, IsPreorder}
use Rattle.tt_data.specs.Flat.{forest_of-append, length-preorder, preorder-joined, front-joined, back-joined}

pub IsPreorder-leaf_before : (l : Leaf) (more : List TokenTree) → IsPreorder more → IsPreorder (token.Leaf l ∷ more)
IsPreorder-leaf_before l more whole = ap (λ tokens. token.Leaf l ∷ tokens) whole

pub forest_of-append_whole : (a b : List TokenTree) → IsPreorder a → forest_of (a ++ b) ≡ joined (forest_of a) (forest_of b)
forest_of-append_whole a b whole = ap (λ tokens. forest_of (tokens ++ b)) (sym whole) ∙ forest_of-append (forest_of a) b

pub IsPreorder-append : (a b : List TokenTree) → IsPreorder a → IsPreorder b → IsPreorder (a ++ b)
IsPreorder-append a b whole_a whole_b =
    ap preorder (forest_of-append_whole a b whole_a)
    ∙ preorder-joined (forest_of a) (forest_of b)
    ∙ ap (λ tokens. tokens ++ preorder (forest_of b)) whole_a
    ∙ ap (λ tokens. a ++ tokens) whole_b

-- a flat list that holds a forest has as many tokens
pub size-forest_of : (a : List TokenTree) → IsPreorder a → size (forest_of a) ≡ length a
size-forest_of a whole = sym (length-preorder (forest_of a)) ∙ ap length whole

module _ (d : Delimiter) (a b : List TokenTree) (whole_a : IsPreorder a) where
  pub forest_of-grouped : forest_of (head_of d (length a) ∷ a ++ b) ≡ group d (forest_of a) (forest_of b)
  forest_of-grouped =
      let both : forest_of (a ++ b) ≡ joined (forest_of a) (forest_of b) = forest_of-append_whole a b whole_a in
      rw (← size-forest_of a whole_a, both, front-joined (forest_of a) (forest_of b), back-joined (forest_of a) (forest_of b)) refl

  pub IsPreorder-grouped : IsPreorder b → IsPreorder (head_of d (length a) ∷ a ++ b)
  IsPreorder-grouped whole_b =
      ap preorder forest_of-grouped
      ∙ ap (λ n. head_of d n ∷ (preorder (forest_of a) ++ preorder (forest_of b))) (size-forest_of a whole_a)
      ∙ ap (λ tokens. head_of d (length a) ∷ (tokens ++ preorder (forest_of b))) whole_a
      ∙ ap (λ tokens. head_of d (length a) ∷ (a ++ tokens)) whole_b
