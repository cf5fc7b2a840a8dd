use Rattle.std.proofs.Common.{◌≡◌, ◌∷◌, ◌++◌, [], ◌∙◌, ap, refl, arith}
use Rattle.tt_data.specs.Forest.{head_of}
use Rattle.tt.proofs.HeldMarks.{marks_begun}
use Rattle.tt.proofs.top_subtree.builder.TopSubtreeBuilder.within.Goals as goal

pub invariant_of-result : goal.invariant_of-result
invariant_of-result c =
    let first = head_of c.args.top 0 in
    let all : c.push.new.self ≡ first ∷ [] = c.in_ok-push.ensures.ok ∙ ap (λ t. t ++ first ∷ []) c.requires in
    rw (c.end-settled.ensures, all, c.new.ensures.items)
    ((omega arith, refl), omega arith, tt, (omega arith, refl), tt, marks_begun (record { delimiter = c.args.top; len = 0 }))
