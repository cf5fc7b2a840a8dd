use Rattle.std.proofs.Common.{◌≡◌, ◌∷◌, ◌++◌, [], ◌∙◌, ap, refl, arith, length}
use Rattle.tt_data.specs.Forest.{head_of}
use Rattle.token_bytes.specs.Items.{items}
use Rattle.tt.specs.Views.{forest}
use Rattle.tt.proofs.Groups.{grouped}
use Rattle.tt.proofs.Limits.{size-whole}
use Rattle.tt.proofs.top_subtree.TopSubtree.from_token_trees.Goals as goal

-- the group's own token, and then those of the trees
all_is : (c : goal.In_ok-extend)
    → c.extend.new.self ≡ head_of c.args.delimiter (length (items c.args.token_trees.tokens)) ∷ items c.args.token_trees.tokens
unfolding forest
all_is c =
    let tokens = items c.args.token_trees.tokens in
    let counts : c.in-Ok.len ≡ length tokens =
    c.in-Ok.ensures.1 ∙ (c.len.ensures.len ∙ size-whole tokens c.args.token_trees.whole) in
    c.in_ok-extend.ensures.ok
    ∙ ap (λ t. t ++ tokens) (c.in_ok-push.ensures.ok ∙ ap (λ t. t ++ head_of c.args.delimiter c.in-Ok.len ∷ []) c.new-tokens.ensures)
    ∙ ap (λ n. head_of c.args.delimiter n ∷ tokens) counts

pub extend-requires : goal.extend-requires
unfolding forest
extend-requires c =
    let tokens = items c.args.token_trees.tokens in
    let counts : c.in-Ok.len ≡ length tokens = c.in-Ok.ensures.1 ∙ (c.len.ensures.len ∙ size-whole tokens c.args.token_trees.whole) in
    let head = c.in_ok-push.ensures.ok ∙ ap (λ t. t ++ head_of c.args.delimiter c.in-Ok.len ∷ []) c.new-tokens.ensures in
    record { room = omega (arith, counts, ap length head) }

pub invariant_of-result : goal.invariant_of-result
unfolding forest
invariant_of-result c =
    let tokens = items c.args.token_trees.tokens in
    let counts : c.in-Ok.len ≡ length tokens = c.in-Ok.ensures.1 ∙ (c.len.ensures.len ∙ size-whole tokens c.args.token_trees.whole) in
    rw (all_is c) (grouped c.args.delimiter tokens c.args.token_trees.whole, omega (arith, counts))

pub returns-clause-ok : goal.returns-clause-ok
unfolding forest
returns-clause-ok c = rw (all_is c) refl
