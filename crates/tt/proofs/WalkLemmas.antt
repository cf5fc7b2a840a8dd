-- Each move of a position passes one event of the walk.
use Rattle.std.proofs.Common.{◌≡◌, ◌<◌, List, [], ◌∷◌, ◌++◌, length, ap, arith, refl, sym, ◌∙◌, append_assoc, Option, Some, None}
use Rattle.tt_data.specs.declared.delimiter.Delimiter.{Delimiter}
use Rattle.tt_data.specs.declared.leaf.Leaf.{Leaf}
use Rattle.tt_data.specs.declared.tree.Subtree.{Subtree}
use Rattle.tt_data.specs.declared.tree.TokenTree.TheVariants as token
use Rattle.tt_data.specs.Forest.{Forest, empty, leaf, group, joined, size}
use Rattle.tt_data.specs.Flat.{joined-empty}
use Rattle.tt_data.specs.Walk.{Step, at_leaf, opens, closes, walk}
use Rattle.tt_data.proofs.ForestLemmas.{walk-joined}
use Rattle.tt.specs.Places.{Around, Place, IsEnd, first_token, bumped, ended, moved, innermost_head, steps_before_in, steps_after_in, steps_after, IsStep}

-- trees more before the place, or after it
before-joined : (around : List Around) (f g : Forest) → steps_before_in around (joined f g) ≡ steps_before_in around f ++ walk g
before-joined [] f g = walk-joined f g
before-joined (a ∷ outer) f g = rw walk-joined (sym (append_assoc (steps_before_in outer a.before) _ (walk g)))

after-joined : (around : List Around) (f g : Forest) → steps_after_in around (joined f g) ≡ walk f ++ steps_after_in around g
after-joined [] f g = walk-joined f g
after-joined (a ∷ outer) f g = rw walk-joined (append_assoc (walk f) (walk g) _)

-- the end of a list in a group
out_of : (a : Around) (outer : List Around) (before : Forest)
    → IsStep (record { around = a ∷ outer; before = before; after = empty }) (moved (record { around = a ∷ outer; before = before; after = empty }))
out_of a outer before = (
  closes a.delimiter.kind a.delimiter.close_span,
  rw joined-empty (before-joined outer a.before (group a.delimiter before empty) ∙ simp append_assoc),
  refl,
)

steps_on : (around : List Around) (before after : Forest) → (IsEnd (record { around = around; before = before; after = after }) → ⊥)
    → IsStep (record { around = around; before = before; after = after }) (moved (record { around = around; before = before; after = after }))
steps_on around before (leaf l rest) more = (
  at_leaf l,
  before-joined around before (leaf l empty),
  after-joined around (leaf l empty) rest,
)
steps_on around before (group d inner rest) more = (
  opens d.kind d.open_span,
  refl,
  after-joined around (group d inner empty) rest ∙ simp append_assoc,
)
steps_on [] before empty more = absurd (more (refl, refl))
steps_on (a ∷ outer) before empty more = out_of a outer before

pub step : (p : Place) → (IsEnd p → ⊥) → IsStep p (moved p)
step p more = steps_on p.around p.before p.after more

pub done : (p : Place) → IsEnd p → steps_after p ≡ []
done p e = rw (e.0, e.1) refl

-- the event is the leaf that comes next
leaf_first : (around : List Around) (before after : Forest) (l : Leaf) → Some (token.Leaf l) ≡ first_token after
    → steps_after_in around after ≡ at_leaf l ∷ steps_after (bumped (record { around = around; before = before; after = after }))
leaf_first around before empty l e = absurd cc
leaf_first around before (group d inner rest) l e = absurd cc
leaf_first around before (leaf m rest) l e =
    let same : l ≡ m = cc in
    rw same (after-joined around (leaf m empty) rest)

pub next_leaf : (p q : Place) (l : Leaf) → Some (token.Leaf l) ≡ first_token p.after → q ≡ bumped p → steps_after p ≡ at_leaf l ∷ steps_after q
next_leaf p q l e moves = rw moves (leaf_first p.around p.before p.after l e)

-- or the opening of the group that comes next
group_first : (around : List Around) (before after : Forest) (s : Subtree) → Some (token.Subtree s) ≡ first_token after
    → steps_after_in around after
    ≡ opens s.delimiter.kind s.delimiter.open_span ∷ steps_after (bumped (record { around = around; before = before; after = after }))
group_first around before empty s e = absurd cc
group_first around before (leaf m rest) s e = absurd cc
group_first around before (group d inner rest) s e =
    let same : s ≡ record { delimiter = d; len = size inner } = cc in
    rw same (after-joined around (group d inner empty) rest ∙ simp append_assoc)

pub next_opening : (p q : Place) (s : Subtree) → Some (token.Subtree s) ≡ first_token p.after → q ≡ bumped p
    → steps_after p ≡ opens s.delimiter.kind s.delimiter.open_span ∷ steps_after q
next_opening p q s e moves = rw moves (group_first p.around p.before p.after s e)

-- or the closing of the innermost group
abbrev delimiter_of : Subtree → Option Subtree → Delimiter
delimiter_of s None = s.delimiter
delimiter_of s (Some t) = t.delimiter

group_over : (around : List Around) (before after : Forest) (s : Subtree) → after ≡ empty
    → Some s ≡ innermost_head (record { around = around; before = before; after = after })
    → steps_after_in around after
    ≡ closes s.delimiter.kind s.delimiter.close_span ∷ steps_after (ended (record { around = around; before = before; after = after }))
group_over [] before after s none e = absurd cc
group_over (a ∷ outer) before after s none e =
    let same : s.delimiter ≡ a.delimiter = ap (delimiter_of s) e in
    rw (none, same) refl

pub next_closing : (p q : Place) (s : Subtree) → p.after ≡ empty → Some s ≡ innermost_head p → q ≡ ended p
    → steps_after p ≡ closes s.delimiter.kind s.delimiter.close_span ∷ steps_after q
next_closing p q s none e moves = rw moves (group_over p.around p.before p.after s none e)

-- the events left are one less
pub fewer : (s : Step) (now next : List Step) → now ≡ s ∷ next → length next < length now
fewer s now next e = omega (arith, ap length e)
