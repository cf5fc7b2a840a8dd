use Rattle.std.proofs.Common.{subst}
use Rattle.tt.specs.Views.{forest}
use Rattle.mbe.specs.Macros.{rules_of}
use Rattle.mbe.specs.mbe_transcriber.Markers.{is_name}
use Rattle.mbe_explain.specs.Rules.{AreTold, of_style}
use Rattle.mbe_explain.proofs.RulesLemmas.{first-fits}
use Rattle.mbe_explain.proofs.rules.explain_call.Goals as goal

pub returns-clause-fit : goal.returns-clause-fit
returns-clause-fit g c = λ mark.
    let gr = g.G.FragmentGrammar.answer c.args.grammar.now in
    let argument = forest c.args.argument in
    let told = c.in_ok-rules.rules.items in
    first-fits is_name gr argument c.args.style mark 0 (rules_of c.args.definition.now).list told
    (subst (λ rules. AreTold is_name gr argument (of_style c.args.style 0 rules) told) c.rules.ensures.rules c.in_ok-rules.ensures.told)
