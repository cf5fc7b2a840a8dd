-- Trees with the top of a text, and their hashes.
use Rattle.std.specs.Prelude.{ℕ, fold}
use Rattle.std.specs.Hash.{HashWrites}
use Rattle.std.specs.Hash.FoldHasher.{initial, write}
use Rattle.bridge.specs.ReadText.{text_top}
use Rattle.tt.specs.Tops.{Top}
use Rattle.tt_data.specs.Forest.{Forest}
use Rattle.tt.specs.contracts.top_subtree.TopSubtreeHash.TheImpl as of_tree

-- the hash of what is written, by the fast hasher of the standard library
unfoldable pub hash_of : HashWrites → ℕ
hash_of writes = (fold write initial writes).state

-- the hash of a tree
abbrev pub tree_hash : Top → ℕ
tree_hash t = hash_of (of_tree.ghosts.hash_input t)

-- a tree with the top of a text
abbrev pub own_top : Forest → Top
own_top f = record { delimiter = text_top; inner = f }
