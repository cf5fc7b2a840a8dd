-- Trees at the front of a list, by their number; and trees without their spans.
use Rattle.std.specs.Prelude.{ℕ, suc, List, [], ◌∷◌}
use Rattle.tt_data.specs.Forest.{Forest, empty, leaf, group}
use Rattle.tt_data.specs.declared.leaf.Leaf.{Leaf}
use Rattle.tt_data.specs.declared.leaf.Leaf.TheVariants as as_leaf
use Rattle.tt_data.specs.declared.leaf.Punct.{Punct}

-- the first n trees of a list
abbrev pub before : ℕ → Forest → Forest
before (suc n) (leaf l rest) = leaf l (before n rest)
before (suc n) (group d inner rest) = group d inner (before n rest)
before _ f = empty

-- the trees after the first n
abbrev pub past : ℕ → Forest → Forest
past (suc n) (leaf l rest) = past n rest
past (suc n) (group d inner rest) = past n rest
past _ f = f

-- the first n trees of a list, up to the first that is no punct
abbrev pub first_puncts : ℕ → Forest → List Punct
first_puncts (suc n) (leaf (as_leaf.Punct p) rest) = p ∷ first_puncts n rest
first_puncts _ f = []

-- the trees inside a list's first group
abbrev pub inside : Forest → Forest
inside (group d inner rest) = inner
inside f = empty

-- ---- trees without their spans

-- a tree without its span: a name, a literal, a character of punctuation, or some group
pub data Sign : Type 0 where
  name : List ℕ → Sign
  literal : (text suffix : List ℕ) → Sign
  punct : ℕ → Sign
  bracketed : Sign

-- a leaf without its span
abbrev pub sign_of : Leaf → Sign
sign_of (as_leaf.Ident i) = name i.sym
sign_of (as_leaf.Literal l) = literal l.text l.suffix
sign_of (as_leaf.Punct p) = punct p.char

-- the signs of a list's trees, in order
abbrev pub signs : Forest → List Sign
signs empty = []
signs (leaf l rest) = sign_of l ∷ signs rest
signs (group d inner rest) = bracketed ∷ signs rest
