-- A path, transcribed tree by tree
use Rattle.std.specs.Prelude.{Bool, true, false, ◌&&◌, if◌then◌else◌}
use Rattle.tt_data.specs.Forest.{Forest, empty, leaf, joined}
use Rattle.tt_data.specs.declared.leaf.Leaf.TheVariants as as_leaf
use Rattle.tt_data.specs.declared.span.Span.{Span}
use Rattle.mbe_transcriber.specs.Filling.{begins_generics, colons}

-- a list begins with an identifier
abbrev pub begins_ident : Forest → Bool
begins_ident (leaf (as_leaf.Ident i) rest) = true
begins_ident _ = false

-- a tree, and `::` if it is added between the tree and those after it
abbrev pub before_more : Span → Forest → Forest → Forest
before_more s f rest = joined f (if begins_ident f && begins_generics rest then colons s empty else empty)
