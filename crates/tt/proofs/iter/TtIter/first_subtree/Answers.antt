use Rattle.std.proofs.Common.{ℕ, Some, ap, sym, ◌∙◌}
use Rattle.tt_data.specs.Forest.{forest_of}
use Rattle.tt.specs.FirstTrees.{first_subtree}
use Rattle.token_bytes.specs.Items.{items}
use Rattle.tt.proofs.RecordLemmas.{head_in-is, no_head-subtree}
use Rattle.tt.proofs.Steps.{Step, step, fits}
use Rattle.tt.proofs.iter.TtIter.first_subtree.Goals as goal

pub returns-in_err-head : goal.returns-in_err-head
returns-in_err-head c = c.from_residual.ensures ∙ no_head-subtree _ _ c.in_err-head.ensures c.self.view_is

pub split_at-requires : goal.split_at-requires
split_at-requires c = rw c.usize_len.ensures (fits _ _ _ c.self.invariant (head_in-is _ _ _ c.in_ok-head.ensures))

-- the group begins the list, with what it has inside
ahead : (c : goal.After-rest-1) → Step c.in_ok-head.head (items c.self.inside.tokens) (items c.split_at.result.0) (items c.split_at.result.1)
ahead c = step _ _ _ _ _ c.self.invariant (head_in-is _ _ _ c.in_ok-head.ensures) (rw c.usize_len.ensures at c.split_at.ensures.front) (rw c.usize_len.ensures at c.split_at.ensures.back)

pub invariant_of-result : goal.invariant_of-result
invariant_of-result c = (ahead c).inner_whole

pub invariant_of-result-2 : goal.invariant_of-result-2
invariant_of-result-2 c = (ahead c).rest_whole

pub returns : goal.returns
returns c =
    let s = c.in_ok-head.head in
    ap (λ (n : ℕ). Some (record { delimiter = s.delimiter; len = n }, forest_of (items c.split_at.result.0), forest_of (items c.split_at.result.1))) (ahead c).next.1
    ∙ sym (ap first_subtree (sym c.self.view_is ∙ (ahead c).next.0))
