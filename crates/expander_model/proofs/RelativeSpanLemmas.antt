-- Trees with piece-relative spans, from flat lists of tokens.
use Rattle.std.proofs.Common.{◌≡◌, ℕ, List, [], ◌∷◌, ◌++◌, map, refl, ap, sym, ◌∙◌, append_assoc}
use Rattle.tt.specs.Tops.{Top, tokens_of}
use Rattle.tt_data.specs.Forest.{Forest, forest_of, preorder, size}
use Rattle.tt_data.specs.declared.delimiter.Delimiter.{Delimiter}
use Rattle.tt_data.specs.declared.tree.Subtree.{Subtree}
use Rattle.tt_data.specs.declared.tree.TokenTree.{TokenTree}
use Rattle.tt_data.specs.declared.tree.TokenTree.TheVariants as token

-- the first token stands, and all others are to come
pub moved_begin : (m : TokenTree → TokenTree) (first : TokenTree) (tokens left all : List TokenTree) → tokens ≡ first ∷ [] → left ≡ all
    → tokens ++ map m left ≡ first ∷ map m all
moved_begin m first tokens left all are is = ap (λ (ts : List TokenTree). ts ++ map m left) are ∙ ap (λ (ts : List TokenTree). first ∷ map m ts) is

-- one more token
pub moved_on : (m : TokenTree → TokenTree) (tokens tokens' left left' : List TokenTree) (t : TokenTree) (all : List TokenTree) → left ≡ t ∷ left' → tokens' ≡ tokens ++ m t ∷ []
    → tokens ++ map m left ≡ all → tokens' ++ map m left' ≡ all
moved_on m tokens tokens' left left' t all next pushed h =
    ap (λ (ts : List TokenTree). ts ++ map m left') pushed ∙ append_assoc tokens (m t ∷ []) (map m left') ∙ ap (λ (ts : List TokenTree). tokens ++ map m ts) (sym next) ∙ h

tail_is : (a b : TokenTree) (xs ys : List TokenTree) → a ∷ xs ≡ b ∷ ys → xs ≡ ys
tail_is a b xs ys e = cc

head_is : (d c : Delimiter) (n m : ℕ) (xs ys : List TokenTree) → token.Subtree (record { delimiter = d; len = n }) ∷ xs ≡ token.Subtree (record { delimiter = c; len = m }) ∷ ys → d ≡ c
head_is d c n m xs ys e =
    let heads : ◌≡◌ {A = Subtree} (record { delimiter = d; len = n }) (record { delimiter = c; len = m }) = cc in
    ap (λ (s : Subtree). s.delimiter) heads

-- a tree with these tokens is this one
pub tree_is : ((f : Forest) → forest_of (preorder f) ≡ f) → (t : Top) (d : Delimiter) (n : ℕ) (f : Forest) (ts : List TokenTree) → tokens_of t ≡ ts
    → ts ≡ token.Subtree (record { delimiter = d; len = n }) ∷ preorder f → t ≡ record { delimiter = d; inner = f }
tree_is back t d n f ts is are =
    let e : token.Subtree (record { delimiter = t.delimiter; len = size t.inner }) ∷ (preorder t.inner ++ []) ≡ token.Subtree (record { delimiter = d; len = n }) ∷ preorder f = is ∙ are in
    let heads : t.delimiter ≡ d = head_is t.delimiter d _ n _ (preorder f) e in
    let flat : preorder t.inner ++ [] ≡ preorder f = tail_is _ _ _ (preorder f) e in
    let trees : t.inner ≡ f = sym (back t.inner) ∙ ap forest_of (sym (append_nil (preorder t.inner)) ∙ flat) ∙ back f in
    λ i. record { delimiter = heads i; inner = trees i }
  where
    append_nil : (xs : List TokenTree) → xs ++ [] ≡ xs
    append_nil [] = refl
    append_nil (x ∷ xs) = ap (λ ys. x ∷ ys) (append_nil xs)
