use Rattle.std.proofs.Common.{◌∷◌, [], refl, sym, subst}
use Rattle.tt_data.specs.Lent.{leaf_lent}
use Rattle.tt_data.specs.Walk.{at_leaf}
use Rattle.bridge.specs.PrintStates.{PutsNext, state_of}
use Rattle.bridge.proofs.PrintStepLemmas.{carried}
use Rattle.bridge.proofs.PutLemmas.{none_put}
use Rattle.bridge.proofs.printing.state.put_unspelled.Goals as goal

pub returns-clause-puts : goal.returns-clause-puts
returns-clause-puts c =
    let leaf = leaf_lent c.args.leaf in
    let old = state_of c.args.out.now in
    carried c.leave_out.result _ _
    (λ same. subst (λ new. PutsNext old new (at_leaf leaf ∷ [])) (sym same)
    (none_put old (at_leaf leaf) c.requires.ready refl c.requires.unspelled))
    c.leave_out.ensures.ok
