use Rattle.std.proofs.Common.{◌≡◌, ◌∙◌, ℕ, Bool, true, false, nat_eq, ap, refl, sym}
use Rattle.std.specs.Cmp.{unsigned_Decides}
use Rattle.tt.specs.Tops.{Top}
use Rattle.tt.specs.contracts.top_subtree.TopSubtreeHash.TheImpl.Laws as hash_laws
use Rattle.expander_model.specs.HashedTrees.{hash_of, tree_hash}
use Rattle.expander_model.specs.EqualTrees.{same_top}
use Rattle.expander_model.proofs.hashed_tree.HashedTreePartialEq.eq.Goals as goal

-- trees with different hashes are different
apart : (a b : Top) (m n : ℕ) → m ≡ tree_hash a → n ≡ tree_hash b → (m ≡ n → ⊥) → nat_eq m n ≡ same_top a b
apart a b m n p q differ = go (nat_eq m n) refl (same_top a b) refl
  where
    go : (x : Bool) → nat_eq m n ≡ x → (y : Bool) → same_top a b ≡ y → x ≡ y
    go true e y h = absurd (differ ((unsigned_Decides m n).0 e))
    go false e false h = refl
    go false e true h = absurd (differ (p ∙ ap hash_of (hash_laws.respects_eq-law a b h) ∙ sym q))

pub returns-else-self-other : goal.returns-else-self-other
returns-else-self-other c =
    apart c.args.self.now c.args.other.now c.self.inside.hash c.other.inside.hash (c.self.invariant.0 ∙ ap tree_hash c.self.view_is)
    (c.other.invariant.0 ∙ ap tree_hash c.other.view_is) c.if-self-other.false
