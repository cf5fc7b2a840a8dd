use Rattle.std.proofs.Common.{◌∷◌, [], refl, sym, subst, ◌∙◌, ap}
use Rattle.std.specs.Prelude.{encode_utf8}
use Rattle.tt_data.specs.Walk.{at_leaf}
use Rattle.tt_data.specs.declared.leaf.Leaf.TheVariants as as_leaf
use Rattle.bridge.specs.PrintStates.{PutsNext, state_of, token_behind}
use Rattle.bridge.proofs.FastSpellingLemmas.{mark_printed}
use Rattle.bridge.proofs.PrintStepLemmas.{carried}
use Rattle.bridge.proofs.PutLemmas.{token_put}
use Rattle.bridge.proofs.printing.state.put_mark.Goals as goal

pub returns-clause-puts : goal.returns-clause-puts
returns-clause-puts c =
    let p = c.args.punct.now in
    let old = state_of c.args.out.now in
    let step = at_leaf (as_leaf.Punct p) in
    let text = encode_utf8 p.char in
    carried c.add.result _ _
    (λ same. subst (λ new. PutsNext old new (step ∷ []))
    (sym (same ∙ ap (λ e. token_behind old e p.span text) c.leaf_edge-edge.ensures))
    (token_put old step text c.requires.ready refl (λ more. mark_printed p more c.requires.mark)))
    c.add.ensures.ok
