-- The trees of the pieces of a segment.
use Rattle.std.specs.Prelude.{ℕ, zero, suc, List, [], ◌∷◌}
use Rattle.std.specs.Rc.{rc_value}
use Rattle.tt.specs.Tops.{Top}
use Rattle.tt_data.specs.Forest.{empty}
use Rattle.expander_model.specs.HashedTrees.{own_top}
use Rattle.expander_reparse.specs.declared.segment.SegmentPart.{SegmentPart}

-- the tree of the piece at this index: an empty one where there are fewer
abbrev pub part_tree : List SegmentPart → ℕ → Top
part_tree [] i = own_top empty
part_tree (p ∷ parts) zero = rc_value (rc_value p.source).tree
part_tree (p ∷ parts) (suc i) = part_tree parts i
