-- Equal trees.
use Rattle.std.specs.Prelude.{Bool}
use Rattle.bridge.specs.ReadText.{text_top}
use Rattle.tt.specs.Tops.{Top}
use Rattle.tt.specs.contracts.top_subtree.TopSubtreePartialEq.TheImpl as of_tree
use Rattle.tt_data.specs.Forest.{Forest}

-- two trees are equal by `==`, spans included
abbrev pub same_top : Top → Top → Bool
same_top a b = of_tree.ghosts.eq a b

-- two lists of trees are equal by `==` of trees, spans included
abbrev pub same_forest : Forest → Forest → Bool
same_forest f g = of_tree.ghosts.eq (record { delimiter = text_top; inner = f })
    (record { delimiter = text_top; inner = g })
