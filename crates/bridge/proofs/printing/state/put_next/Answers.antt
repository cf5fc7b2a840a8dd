use Rattle.std.proofs.Common.{◌∷◌, [], refl, sym, subst}
use Rattle.tt_data.specs.Lent.{ident_lent}
use Rattle.tt_data.specs.Walk.{at_leaf}
use Rattle.tt_data.specs.declared.leaf.Leaf.TheVariants as as_leaf
use Rattle.bridge.specs.PrintStates.{PutsNext, state_of}
use Rattle.bridge.proofs.PrintStepLemmas.{carried}
use Rattle.bridge.proofs.PutLemmas.{token_put}
use Rattle.bridge.proofs.printing.state.put_next.Goals as goal

pub returns-then-is_mark-clause-puts : goal.returns-then-is_mark-clause-puts
returns-then-is_mark-clause-puts c = rw (c.in-Leaf.is, c.in-Punct.is) c.put_mark.ensures.puts

pub returns-in-Some-clause-puts : goal.returns-in-Some-clause-puts
returns-in-Some-clause-puts c =
    let old = state_of c.args.out.now in
    let step = at_leaf (as_leaf.Ident (ident_lent c.in-Ident.ident)) in
    rw (c.in-Leaf.is, c.in-Ident.is)
    (carried c.add_word.result _ _
    (λ same. subst (λ new. PutsNext old new (step ∷ [])) (sym same)
    (token_put old step c.in-Some.name.now c.requires.ready refl (λ more. c.in-Some.ensures)))
    c.add_word.ensures.ok)
