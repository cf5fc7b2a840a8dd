use Rattle.std.proofs.Common.{◌∷◌, [], refl, sym, subst, ◌∙◌, ap}
use Rattle.tt_data.specs.Lent.{leaf_lent}
use Rattle.tt_data.specs.Walk.{at_leaf}
use Rattle.bridge.specs.Edges.{leaf_edge}
use Rattle.bridge.specs.PrintStates.{PutsNext, state_of, token_behind}
use Rattle.bridge.proofs.PrintStepLemmas.{carried}
use Rattle.bridge.proofs.PutLemmas.{token_put}
use Rattle.bridge.proofs.printing.state.put_spelled.Goals as goal

pub returns-clause-puts : goal.returns-clause-puts
returns-clause-puts c =
    let leaf = leaf_lent c.args.leaf in
    let old = state_of c.args.out.now in
    let text = c.args.text.now in
    carried c.add.result _ _
    (λ same. subst (λ new. PutsNext old new (at_leaf leaf ∷ []))
    (sym (same ∙ (ap (λ e. token_behind old e c.span.result text) c.leaf_edge.ensures ∙ ap (λ s. token_behind old (leaf_edge leaf) s text) c.span.ensures)))
    (token_put old (at_leaf leaf) text c.requires.ready refl c.requires.spelled))
    c.add.ensures.ok
