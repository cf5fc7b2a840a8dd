use Rattle.std.proofs.Common.{◌≡◌, ◌∙◌, [], ap, sym, subst, nat_eq}
use Rattle.std.specs.List.{IsDistinct}
use Rattle.tt_data.specs.Forest.{preorder}
use Rattle.tt.specs.Anchors.{Tells}
use Rattle.token_bytes.specs.Items.{items}
use Rattle.tt.specs.Relabelling.{anchors_in, anchors_of, anchors_of_brackets, met_after, by_first_use}
use Rattle.tt.specs.Views.{forest, top_of}
use Rattle.tt.proofs.RelabellingLemmas.{met_after-append, nothing_tells, no_repeats}
use Rattle.tt.proofs.top_subtree.relabel.met_in.Goals as goal

pub meet_all-requires : goal.meet_all-requires
meet_all-requires c = (
  subst (IsDistinct nat_eq) (sym c.new.ensures.items) no_repeats,
  subst (λ xs. Tells xs [] c.new-2.result) (sym c.new.ensures.items) (nothing_tells c.new-2.result c.new-2.ensures.empty),
)

pub returns-clause-met : goal.returns-clause-met
unfolding forest top_of
returns-clause-met c =
    let t = top_of c.view-view.result in
    let inside = items c.token_trees.result.tokens in
    let tokens : inside ≡ preorder t.inner = sym c.token_trees.result.whole ∙ ap preorder c.token_trees.ensures in
    let first = c.in_ok-meet_all.ensures.met
    ∙ ap (λ met. met_after met (anchors_in inside)) c.new.ensures.items
    ∙ ap (λ ts. met_after [] (anchors_in ts)) tokens in
    c.in_ok-meet_brackets.ensures.met
    ∙ ap (λ met. met_after met (anchors_of_brackets c.top_subtree.result.delimiter)) first
    ∙ ap (λ (h : _). met_after (met_after [] (anchors_in (preorder t.inner))) (anchors_of_brackets h.delimiter)) c.top_subtree.ensures
    ∙ sym (met_after-append [] (anchors_in (preorder t.inner)) (anchors_of_brackets t.delimiter))
    ∙ ap (λ t. by_first_use (anchors_of t)) c.view-view.ensures
