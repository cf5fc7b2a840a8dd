use Rattle.std.proofs.Common.{◌≡◌, ◌∷◌, [], true, false, sym, ◌∙◌, subst, refl}
use Rattle.tt_data.specs.Walk.{at_leaf}
use Rattle.tt_data.specs.declared.leaf.Leaf.TheVariants as as_leaf
use Rattle.tt.specs.Glued.{is_joint}
use Rattle.bridge.specs.PrintStates.{PutsNext, state_of}
use Rattle.bridge.proofs.PrintStepLemmas.{carried, quote_apart}
use Rattle.bridge.proofs.PutLemmas.{none_put, quote_put}
use Rattle.bridge.proofs.printing.state.put_quote.Goals as goal

pub returns-then-is_joint-clause-puts : goal.returns-then-is_joint-clause-puts
returns-then-is_joint-clause-puts c =
    let joint : is_joint c.args.punct.spacing ≡ true = sym c.is_joint.ensures ∙ c.if-is_joint.true in
    quote_put (state_of c.args.out.now) c.args.punct c.requires.ready c.requires.quote joint

pub returns-clause-puts : goal.returns-clause-puts
returns-clause-puts c =
    let quote = c.args.punct in
    let old = state_of c.args.out.now in
    let apart : is_joint quote.spacing ≡ false = sym c.is_joint.ensures ∙ c.if-is_joint.false in
    let step = at_leaf (as_leaf.Punct quote) in
    carried c.leave_out.result _ _
    (λ same. subst (λ new. PutsNext old new (step ∷ [])) (sym same)
    (none_put old step c.requires.ready refl (λ more. quote_apart quote more c.requires.quote apart)))
    c.leave_out.ensures.ok
