use Rattle.std.proofs.Common.{◌≡◌, ◌+◌, ◌*◌, ◌≤◌}
use Rattle.arrayvec.specs.ArrayVec.{array_vec_len}
use Rattle.tt_data.specs.Forest.{size}
use Rattle.small_grammar.specs.Levels.{left, outside, within, size_of, weight}
use Rattle.small_grammar.proofs.types.+types.Given as goal

-- each call is at fewer tokens, or at as many and further down in this order
abbrev pub decreases-complete : goal.decreases-complete
decreases-complete l = size_of l.begun * 16 + 8

abbrev pub decreases-pass_args : goal.decreases-pass_args
decreases-pass_args l = size l.trees * 16 + 7

abbrev pub decreases-pass_result : goal.decreases-pass_result
decreases-pass_result l = size l.trees * 16 + 7

abbrev pub decreases-generics : goal.decreases-generics
decreases-generics l = size l.trees.now * 16 + 6

abbrev pub decreases-ty : goal.decreases-ty
decreases-ty l = size l.trees.now * 16 + 6

-- what is left behind all that is open stays, and each step has a smaller number
abbrev pub invariant-complete-loop-at : goal.invariant-complete-loop-at
invariant-complete-loop-at l =
    (within (outside l.fn.is_arg) l.levels.items (left l.at) ≡ outside l.fn.is_arg (left l.fn.begun))
    × (size_of l.at ≤ size_of l.fn.begun)
    × (array_vec_len l.levels ≤ 128)

abbrev pub decreases-complete-loop-at : goal.decreases-complete-loop-at
decreases-complete-loop-at l = weight l.at + array_vec_len l.levels * 4
