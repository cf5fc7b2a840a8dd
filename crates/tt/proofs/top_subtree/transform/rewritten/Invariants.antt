use Rattle.std.proofs.Common.{List, ◌+◌, ◌*◌, length, reverse}
use Rattle.std.specs.List.{FoldsTo}
use Rattle.token_bytes.specs.Items.{items}
use Rattle.tt.specs.Rewriting.{Call, IsAnswered}
use Rattle.tt.specs.Views.{forest}
use Rattle.tt.specs.Walking.{IsNested, around_in, left_in}
use Rattle.tt.proofs.RewritingLemmas.{IsAt}
use Rattle.tt.proofs.top_subtree.transform.rewritten.Given as goal

-- the calls so far, and what is left of the walk, make the whole of it
abbrev pub invariant-turns : goal.invariant-turns
invariant-turns g l =
    goal.F-IsAlwaysCallable g l.callback
    × ((calls : List Call) × FoldsTo (IsAnswered g.F.FnMut) l.fn.callback calls l.callback
    × IsAt (forest l.fn.trees) l.fn.top calls (left_in (items l.walk.left) (reverse l.walk.outer.items)) (around_in (items l.walk.left) (reverse l.walk.outer.items)) l.walk.tree.tree)
    × IsNested (items l.walk.left) (reverse l.walk.outer.items)

abbrev pub decreases-turns : goal.decreases-turns
decreases-turns g l = 2 * length (items l.walk.left) + length l.walk.outer.items
