-- The trees of a borrowed list, and of a borrowed group.
use Rattle.tt_data.specs.Forest.{Forest, forest_of}
use Rattle.token_bytes.specs.Items.{items}
use Rattle.tt.specs.declared.view.SubtreeView.{SubtreeView}
use Rattle.tt.specs.declared.view.TokenTreesView.{TokenTreesView}
use Rattle.tt.specs.Groups.{group_in}
use Rattle.tt.specs.Tops.{Top}

-- the trees of the list
unfoldable pub forest : TokenTreesView → Forest
forest v = forest_of (items v.tokens)

-- the group: its delimiter, and the trees inside
unfoldable pub top_of : SubtreeView → Top
top_of v = group_in (forest_of (items v.tokens))
