-- Equality by `==` of trees is that of their forests.
use Rattle.std.proofs.Common.{◌≡◌, ◌∙◌, Bool, true, List, [], ◌∷◌, ap, refl, sym}
use Rattle.std.proofs.lemmas.Bool.{false≢true}
use Rattle.std.specs.Cmp.{first_so, second_so}
use Rattle.std.specs.Cmp.Lexicographic.{pointwise}
use Rattle.tt_data.proofs.EqualityLemmas.{IsEquality, tokens}
use Rattle.tt.specs.Tops.{tokens_of, tree_of}
use Rattle.tt.proofs.Groups.{tree_of-tokens_of}
use Rattle.tt.specs.contracts.top_subtree.TopSubtreePartialEq.TheImpl as of_tree
use Rattle.tt.specs.contracts.top_subtree.TopSubtreeEq.TheImpl.Laws as tree_laws

-- lists that are equal item by item are the same
same_items : {A : Type 0} (E : A → A → Bool) → IsEquality E → (xs ys : List A) → pointwise E xs ys ≡ true → xs ≡ ys
same_items E same [] [] e = refl
same_items E same [] (y ∷ ys) e = absurd (false≢true e)
same_items E same (x ∷ xs) [] e = absurd (false≢true e)
same_items E same (x ∷ xs) (y ∷ ys) e =
    let first : x ≡ y = (same x y).0 (first_so (E x y) _ e) in
    ap (λ z. z ∷ xs) first ∙ ap (λ zs. y ∷ zs) (same_items E same xs ys (second_so (E x y) _ e))

pub trees : IsEquality of_tree.ghosts.eq
trees a b = (
  λ e. sym (tree_of-tokens_of a) ∙ ap tree_of (same_items _ tokens (tokens_of a) (tokens_of b) e) ∙ tree_of-tokens_of b,
  λ e. rw (← e) (tree_laws.laws-law.refl a),
)
