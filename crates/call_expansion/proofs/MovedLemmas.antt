-- Trees from flat lists of tokens with other spans.
use Rattle.std.proofs.Common.{◌≡◌, List, [], ◌∷◌, ◌++◌, map, ap, sym, ◌∙◌, append_assoc, append-nil}
use Rattle.tt.specs.Tops.{Top, tokens_of}
use Rattle.tt_data.specs.Forest.{Forest, forest_of, preorder}
use Rattle.tt_data.specs.declared.tree.TokenTree.{TokenTree}

-- the first token stands, and all others are to come
pub none_moved : (m : TokenTree → TokenTree) (first : TokenTree) (tokens left all : List TokenTree) → tokens ≡ first ∷ [] → left ≡ all
    → tokens ++ map m left ≡ first ∷ map m all
none_moved m first tokens left all are is = ap (λ (ts : List TokenTree). ts ++ map m left) are ∙ ap (λ (ts : List TokenTree). first ∷ map m ts) is

-- one more token
pub one_moved : (m : TokenTree → TokenTree) (tokens now left rest : List TokenTree) (t u : TokenTree) (all : List TokenTree) → left ≡ t ∷ rest → u ≡ m t → now ≡ tokens ++ u ∷ []
    → tokens ++ map m left ≡ all → now ++ map m rest ≡ all
one_moved m tokens now left rest t u all next is pushed h =
    ap (λ (ts : List TokenTree). ts ++ map m rest) (pushed ∙ ap (λ x. tokens ++ x ∷ []) is) ∙ append_assoc tokens (m t ∷ []) (map m rest)
    ∙ ap (λ (ts : List TokenTree). tokens ++ map m ts) (sym next) ∙ h

tail_is : (a b : TokenTree) (xs ys : List TokenTree) → a ∷ xs ≡ b ∷ ys → xs ≡ ys
tail_is a b xs ys e = cc

-- a tree with the tokens of these trees in it
pub inner_is : ((f : Forest) → forest_of (preorder f) ≡ f) → (t : Top) (head : TokenTree) (f : Forest) → tokens_of t ≡ head ∷ preorder f → t.inner ≡ f
inner_is back t head f e =
    let flat : preorder t.inner ++ [] ≡ preorder f = tail_is _ head _ (preorder f) e in
    sym (back t.inner) ∙ ap forest_of (sym (append-nil (preorder t.inner)) ∙ flat) ∙ back f
