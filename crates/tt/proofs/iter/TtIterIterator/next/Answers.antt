use Rattle.std.proofs.Common.{◌∷◌, length, arith, ap, sym, ◌∙◌}
use Rattle.tt.specs.Elements.{elements}
use Rattle.token_bytes.specs.Items.{items}
use Rattle.tt.proofs.Steps.{Step, step, fits}
use Rattle.tt.proofs.iter.TtIterIterator.next.Goals as goal

pub split_at-requires : goal.split_at-requires
split_at-requires c = rw c.usize_len.ensures (fits _ _ _ c.self.invariant (c.in_ok-first.ensures ∙ ap (λ t. t ∷ items c.in_ok-first.more) c.in-Subtree.is))

-- the group was passed, with what it has inside
taken : (c : goal.After-self-in-Subtree-1) → Step c.in-Subtree.subtree (items c.self.inside.tokens) (items c.split_at.result.0) (items c.split_at.result.1)
taken c =
    let all = c.in_ok-first.ensures ∙ ap (λ t. t ∷ items c.in_ok-first.more) c.in-Subtree.is in
    step _ _ _ _ _ c.self.invariant all (rw c.usize_len.ensures at c.split_at.ensures.front) (rw c.usize_len.ensures at c.split_at.ensures.back)

pub invariant_of-result : goal.invariant_of-result
invariant_of-result c = (taken c).inner_whole

pub invariant_of-self-in-Subtree : goal.invariant_of-self-in-Subtree
invariant_of-self-in-Subtree c = (taken c).rest_whole

pub returns-in-Subtree-clause-steps : goal.returns-in-Subtree-clause-steps
returns-in-Subtree-clause-steps c = (sym c.self.view_is ∙ (taken c).next.0, (taken c).next.1)

pub returns-in-Subtree-clause-goes : goal.returns-in-Subtree-clause-goes
returns-in-Subtree-clause-goes c = record {
  on = λ _. (_, _, omega (arith, ap length (ap elements (sym c.self.view_is) ∙ (taken c).gives)));
  keeps = _;
  rests = λ _. _;
}
