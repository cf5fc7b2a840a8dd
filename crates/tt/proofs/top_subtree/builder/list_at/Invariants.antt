use Rattle.std.proofs.Common.{◌≡◌, ◌≤◌, ◌^◌, reverse, length, take}
use Rattle.tt.specs.Building.{list_in}
use Rattle.token_bytes.specs.Items.{items}
use Rattle.tt.specs.BuilderTokens.{here_of, groups_of, AreHeads, IsHeld}
use Rattle.tt.proofs.top_subtree.builder.list_at.Given as goal

-- the list that is sought is the same in what is left
abbrev pub invariant-loop-around : goal.invariant-loop-around
invariant-loop-around l =
    IsHeld (items l.upto) (reverse l.around)
    × AreHeads l.tokens (reverse l.around)
    × (length (items l.upto) ≤ 2 ^ 32)
    × (items l.upto ≡ take (length (items l.upto)) l.tokens)
    × (list_in l.depth (groups_of (items l.upto) (reverse l.around)) (here_of (items l.upto) (reverse l.around))
    ≡ list_in l.depth (groups_of l.tokens (reverse l.openings)) (here_of l.tokens (reverse l.openings)))

abbrev pub decreases-loop-around : goal.decreases-loop-around
decreases-loop-around l = length l.around
