use Rattle.std.proofs.Common.{◌∷◌, [], refl, sym, subst, ◌∙◌, ap}
use Rattle.tt_data.specs.Lent.{ident_lent, literal_lent}
use Rattle.tt_data.specs.Walk.{at_leaf}
use Rattle.tt_data.specs.declared.leaf.Leaf.TheVariants as as_leaf
use Rattle.bridge.specs.PrintStates.{PutsNext, state_of, token_behind}
use Rattle.bridge.specs.declared.printing.spacing.Edge.TheVariants.{Other}
use Rattle.bridge.proofs.PrintStepLemmas.{carried}
use Rattle.bridge.proofs.PutLemmas.{token_put}
use Rattle.bridge.proofs.printing.state.put_other.Goals as goal

pub returns-in-Some-clause-puts : goal.returns-in-Some-clause-puts
returns-in-Some-clause-puts c =
    let old = state_of c.args.out.now in
    let step = at_leaf (as_leaf.Ident (ident_lent c.in-Ident.ident)) in
    rw c.in-Ident.is
    (carried c.add_word.result _ _
    (λ same. subst (λ new. PutsNext old new (step ∷ [])) (sym same)
    (token_put old step c.in-Some.text.now c.requires.ready refl (λ more. c.in-Some.ensures)))
    c.add_word.ensures.ok)

pub returns-in-Some-number_text-clause-puts : goal.returns-in-Some-number_text-clause-puts
returns-in-Some-number_text-clause-puts c =
    let old = state_of c.args.out.now in
    let text = c.in-Some-number_text.text.now in
    let step = at_leaf (as_leaf.Literal (literal_lent c.in-Literal.literal)) in
    rw c.in-Literal.is
    (carried c.add_word-in-Some-number_text.result _ _
    (λ same. subst (λ new. PutsNext old new (step ∷ [])) (sym (same ∙ ap (λ s. token_behind old Other s text) c.span.ensures))
    (token_put old step text c.requires.ready refl (λ more. c.in-Some-number_text.ensures)))
    c.add_word-in-Some-number_text.ensures.ok)
