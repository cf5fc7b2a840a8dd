-- A position in a list of trees: between two trees of the list, or of a group in it.
use Rattle.std.specs.Prelude.{◌≡◌, List, [], ◌∷◌, ◌++◌, refl, Option, Some, None}
use Rattle.std.specs.Coded.{Coded, code_by, coded_list, coded×}
use Rattle.tt_data.specs.declared.delimiter.Delimiter.{Delimiter}
use Rattle.tt_data.specs.declared.leaf.Leaf.{Leaf}
use Rattle.tt_data.specs.declared.tree.Subtree.{Subtree}
use Rattle.tt_data.specs.declared.tree.TokenTree.{TokenTree}
use Rattle.tt_data.specs.declared.tree.TokenTree.TheVariants as token
use Rattle.tt_data.specs.contracts.delimiter.Delimiter as delimiter_row
use Rattle.tt_data.specs.Coded.{forest_code}
use Rattle.tt_data.specs.Forest.{Forest, empty, leaf, group, joined, size, head_of}
use Rattle.tt_data.specs.Walk.{Step, opens, closes, walk}

-- a group that the position is in, with the trees before and after it in its list
pub record Around : Type 0 where
  pub delimiter : Delimiter
  pub before : Forest
  pub after : Forest

-- the groups around the position, innermost first, and the trees before and after it in its list
pub record Place : Type 0 where
  pub around : List Around
  pub before : Forest
  pub after : Forest

-- before the first tree
abbrev pub beginning : Forest → Place
beginning f = record { around = []; before = empty; after = f }

-- after the last tree, in no group
abbrev pub IsEnd : Place → Type 0
IsEnd p = (p.around ≡ []) × (p.after ≡ empty)

-- the token that a forest begins with: for a group its head
abbrev pub first_token : Forest → Option TokenTree
first_token empty = None
first_token (leaf l rest) = Some (token.Leaf l)
first_token (group d inner rest) = Some (head_of d (size inner))

-- a position moved past the leaf that these trees begin with, or into the group
abbrev pub bumped_at : Place → Forest → Place
bumped_at p empty = p
bumped_at p (leaf l rest) = record p { before = joined p.before (leaf l empty); after = rest }
bumped_at p (group d inner rest) =
    record { around = record { delimiter = d; before = p.before; after = rest } ∷ p.around; before = empty; after = inner }

-- past the leaf that comes next, or into the group
abbrev pub bumped : Place → Place
bumped p = bumped_at p p.after

-- a position moved out of the first of these groups, past it
abbrev pub ended_in : List Around → Place → Place
ended_in [] p = p
ended_in (a ∷ outer) p =
    record { around = outer; before = joined a.before (group a.delimiter (joined p.before p.after) empty); after = a.after }

-- out of the innermost group, past it
abbrev pub ended : Place → Place
ended p = ended_in p.around p

-- the next position: past a leaf, into a group, or out of the innermost one
abbrev pub moved_at : Place → Forest → Place
moved_at p empty = ended p
moved_at p f = bumped_at p f

abbrev pub moved : Place → Place
moved p = moved_at p p.after

-- the head of the first of these groups, in which the position is
abbrev pub head_around : List Around → Place → Option Subtree
head_around [] p = None
head_around (a ∷ outer) p = Some (record { delimiter = a.delimiter; len = size (joined p.before p.after) })

-- the head of the innermost group around a position, if there is one
abbrev pub innermost_head : Place → Option Subtree
innermost_head p = head_around p.around p

-- the first two trees of a forest, if both are leaves
abbrev pub two_leaves : Forest → Option (List Leaf)
two_leaves (leaf a (leaf b rest)) = Some (a ∷ b ∷ [])
two_leaves f = None

-- the events before a position: those of the trees before each group around it, each with the
-- group's opening, and those before it in its list
abbrev pub steps_before_in : List Around → Forest → List Step
steps_before_in [] before = walk before
steps_before_in (a ∷ outer) before = steps_before_in outer a.before ++ (opens a.delimiter.kind a.delimiter.open_span ∷ walk before)

abbrev pub steps_before : Place → List Step
steps_before p = steps_before_in p.around p.before

-- the events after it: the rest of its list, then for each group around it the closing and the
-- rest of that list
abbrev pub steps_after_in : List Around → Forest → List Step
steps_after_in [] after = walk after
steps_after_in (a ∷ outer) after = walk after ++ (closes a.delimiter.kind a.delimiter.close_span ∷ steps_after_in outer a.after)

abbrev pub steps_after : Place → List Step
steps_after p = steps_after_in p.around p.after

-- the second position is one event further in the traversal than the first
abbrev pub IsStep : Place → Place → Type 0
IsStep p q = (s : Step) × (steps_before q ≡ steps_before p ++ s ∷ []) × (steps_after p ≡ s ∷ steps_after q)

-- a group around a position is coded as its parts, and so is a position
abbrev pub around_code : Coded Around
around_code =
    code_by (Delimiter × (Forest × Forest)) (coded× delimiter_row.the_row.coded (coded× forest_code forest_code))
    (λ a. (a.delimiter, (a.before, a.after))) (λ p. record { delimiter = p.0; before = p.1.0; after = p.1.1 }) (λ _. refl)

abbrev pub place_code : Coded Place
place_code =
    code_by (List Around × (Forest × Forest)) (coded× (coded_list around_code) (coded× forest_code forest_code))
    (λ p. (p.around, (p.before, p.after))) (λ q. record { around = q.0; before = q.1.0; after = q.1.1 }) (λ _. refl)
