-- Leaves whose text is no longer than a text may be.
use Rattle.std.specs.Prelude.{◌<◌, ◌^◌, List, [], ◌∷◌, length, ⊤}
use Rattle.tt_data.specs.Displayed.{displayed_leaf}
use Rattle.tt_data.specs.Walk.{Step, at_leaf, opens, closes}
use Rattle.tt_data.specs.declared.leaf.Leaf.{Leaf}
use Rattle.tt_data.specs.declared.leaf.Leaf.TheVariants as as_leaf

-- the displayed text of a name or literal is no longer than a text may be; a punct always is so
abbrev pub IsShort : Leaf → Type 0
IsShort (as_leaf.Punct p) = ⊤
IsShort l = length (displayed_leaf l) < 2 ^ 32

-- so is each leaf of a walk
abbrev pub AreShort : List Step → Type 0
AreShort [] = ⊤
AreShort (at_leaf l ∷ more) = IsShort l × AreShort more
AreShort (opens kind span ∷ more) = AreShort more
AreShort (closes kind span ∷ more) = AreShort more
