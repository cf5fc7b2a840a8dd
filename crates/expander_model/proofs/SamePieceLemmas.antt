-- Trees of pieces are the same if they are equal by `==`.
use Rattle.std.proofs.Common.{◌≡◌, ◌↔◌, true, ap}
use Rattle.bridge.specs.ReadText.{text_top}
use Rattle.tt.specs.Tops.{Top}
use Rattle.tt.specs.contracts.top_subtree.TopSubtreePartialEq.TheImpl as of_tree
use Rattle.tt_data.specs.Forest.{Forest}
use Rattle.expander_model.specs.EqualTrees.{same_forest}

pub same_pieces : ((a b : Top) → (of_tree.ghosts.eq a b ≡ true) ↔ (a ≡ b)) → (f g : Forest) → (same_forest f g ≡ true) ↔ (f ≡ g)
same_pieces equal f g =
    let both : (same_forest f g ≡ true) ↔ (record { delimiter = text_top; inner = f } ≡ record { delimiter = text_top; inner = g }) = equal _ _ in
    (λ e. ap (λ (t : Top). t.inner) (both.0 e), λ e. both.1 (ap (λ (h : Forest). record { delimiter = text_top; inner = h }) e))
