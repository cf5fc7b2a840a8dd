-- The tree is what its tokens hold, and each token has the anchor that the entries give.
use Rattle.std.proofs.Common.{◌≡◌, ◌∙◌, ℕ, List, ap}
use Rattle.std.proofs.lemmas.List.{length-map}
use Rattle.token_bytes.specs.Anchors.{answer_in, answer_of}
use Rattle.tt.specs.Relabelling.{anchors_of, relabelled, renamed}
use Rattle.tt_data.specs.Spans.{anchor_with}
use Rattle.tt.specs.Tops.{tree_of}
use Rattle.tt.proofs.RelabellingLemmas.{IsOneGroup-token_with, agree_everywhere, by_rule, same_relabelled, tree_of-token_with}
use Rattle.tt.proofs.top_subtree.TopSubtree.change_every_ast_id.Given.{Over}
use Rattle.tt.proofs.top_subtree.TopSubtree.change_every_ast_id.Goals as goal

pub invariant_of-self : goal.invariant_of-self
invariant_of-self g c =
    let m = anchor_with (answer_of c.new-renaming.result) in
    rw c.relabel.ensures (IsOneGroup-token_with m c.self.inside.tokens c.self.invariant.0, rw length-map c.self.invariant.1)

-- the new tree has what the entries say
relabelled_is : (g : Over) (c : goal.After-drop-renaming g) (entries : List (ℕ × ℕ)) → ((a : ℕ) → answer_in c.answered.result a ≡ renamed entries a)
    → tree_of c.relabel.new.self ≡ relabelled (renamed entries) c.args.self.now
relabelled_is g c entries tell =
    let r = c.new-renaming.result in
    let t = tree_of c.self.inside.tokens in
    let same : (a : ℕ) → answer_of r a ≡ renamed entries a = λ a. ap (λ table. answer_in table a) c.new-renaming.ensures.table ∙ tell a in
    ap tree_of c.relabel.ensures
    ∙ tree_of-token_with (anchor_with (answer_of r)) c.self.inside.tokens c.self.invariant.0
    ∙ same_relabelled (answer_of r) (renamed entries) t (agree_everywhere (answer_of r) (renamed entries) (anchors_of t) same)
    ∙ ap (relabelled (renamed entries)) c.self.view_is

pub returns-clause-ok : goal.returns-clause-ok
returns-clause-ok g c =
    let (entries, last, made, are, tell) = c.answered.ensures in
    (entries, last, made, are ∙ c.in_ok-anchors.ensures.met, relabelled_is g c entries tell)

pub returns-clause-by_rule : goal.returns-clause-by_rule
returns-clause-by_rule g c = λ h rule.
    let (entries, last, made, are, tell) = c.answered.ensures in
    relabelled_is g c entries tell
    ∙ by_rule g.F.FnMut h c.args.f entries last c.args.self.now rule made (are ∙ c.in_ok-anchors.ensures.met)
