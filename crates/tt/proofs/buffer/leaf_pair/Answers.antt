-- The first two tokens of a list.
use Rattle.std.proofs.Common.{◌∙◌, refl}
use Rattle.tt.specs.Views.{forest}
use Rattle.tt.proofs.CursorReads.{no_leaf, one_leaf, both_leaves}
use Rattle.tt.proofs.buffer.leaf_pair.Goals as goal

pub returns-in_err-first : goal.returns-in_err-first
unfolding forest
returns-in_err-first c = c.from_residual.ensures ∙ no_leaf _ _ c.in_err-first.ensures refl

pub returns-in_err-second : goal.returns-in_err-second
unfolding forest
returns-in_err-second c =
    c.from_residual-in_err-second.ensures ∙ one_leaf _ _ _ _ c.in_ok-first.ensures c.in_err-second.ensures refl

pub returns : goal.returns
unfolding forest
returns c = both_leaves _ _ _ _ _ _ c.in_ok-first.ensures c.in_ok-second.ensures refl
