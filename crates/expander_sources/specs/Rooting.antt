-- Trees in which `$crate` stands for another crate.
use Rattle.std.specs.Prelude.{ℕ, Bool, false, ◌&&◌, List, codes, if◌then◌else◌}
use Rattle.bridge.specs.Text.{is_punct}
use Rattle.small_grammar.specs.Text.{has_text}
use Rattle.tt_data.specs.Forest.{Forest, empty, leaf, group}
use Rattle.tt_data.specs.Spans.{span_of}
use Rattle.tt_data.specs.declared.leaf.IdentIsRaw.TheVariants.{No}
use Rattle.tt_data.specs.declared.leaf.Leaf.{Leaf}
use Rattle.tt_data.specs.declared.leaf.Leaf.TheVariants as as_leaf

-- the identifier `crate`, which isn't raw
abbrev pub is_crate : Leaf → Bool
is_crate (as_leaf.Ident i) = has_text (codes "crate") i
is_crate l = false

-- the identifier with this text, at the span of a leaf
abbrev pub root_at : List ℕ → Leaf → Leaf
root_at root l = as_leaf.Ident (record { sym = root; span = span_of l; is_raw = No })

-- the trees with one identifier for each `$crate`, at the `$`. A `$` behind a `$` stands for
-- itself, so it begins no `$crate`
abbrev pub rooted : List ℕ → Forest → Forest
rooted root empty = empty
rooted root (group d inner rest) = group d (rooted root inner) (rooted root rest)
rooted root (leaf l empty) = leaf l empty
rooted root (leaf l (group d inner rest)) = leaf l (group d (rooted root inner) (rooted root rest))
rooted root (leaf l (leaf m rest)) =
    if is_punct "$" l && is_crate m then leaf (root_at root l) (rooted root rest)
    else if is_punct "$" l && is_punct "$" m then leaf l (leaf m (rooted root rest))
    else leaf l (rooted root (leaf m rest))
