use Rattle.std.proofs.Common.{sym, ◌∙◌, ap, option_map}
use Rattle.tt.specs.Views.{forest, top_of}
use Rattle.tt.proofs.GroupLemmas.{counts_all, counts_fewer, only_is}
use Rattle.tt.proofs.RecordLemmas.{head_in-is, no_head-only}
use Rattle.tt.proofs.view.TokenTreesView.try_into_subtree.Goals as goal

pub returns-in_err-head : goal.returns-in_err-head
unfolding forest
returns-in_err-head c = ap (option_map top_of) c.from_residual.ensures ∙ no_head-only _ c.in_err-head.ensures

pub returns-then-usize_len-len : goal.returns-then-usize_len-len
unfolding forest
returns-then-usize_len-len c =
    let all = head_in-is _ _ _ c.in_ok-head.ensures in
    counts_fewer _ _ _ c.args.self.whole all (λ e. c.if-usize_len-len.true (c.usize_len.ensures ∙ e ∙ sym c.len.ensures.len))

pub invariant_of-result : goal.invariant_of-result
invariant_of-result c =
    let all = head_in-is _ _ _ c.in_ok-head.ensures in
    record {
      whole = c.args.self.whole;
      one = counts_all _ _ _ c.args.self.whole all (sym c.usize_len.ensures ∙ c.if-usize_len-len.false ∙ c.len.ensures.len);
    }

pub returns : goal.returns
unfolding forest top_of
returns c =
    let all = head_in-is _ _ _ c.in_ok-head.ensures in
    only_is _ (counts_all _ _ _ c.args.self.whole all (sym c.usize_len.ensures ∙ c.if-usize_len-len.false ∙ c.len.ensures.len))
