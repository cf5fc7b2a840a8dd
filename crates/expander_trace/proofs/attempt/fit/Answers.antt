use Rattle.std.proofs.Common.{rules}
use Rattle.std.proofs.lemmas.Option.{IfSome_then}
use Rattle.mbe.specs.Markers.{is_name}
use Rattle.mbe.specs.Macros.{rules_of}
use Rattle.mbe_rules.specs.declared.macro_call_style.MacroCallStyle.TheVariants.{FnLike}
use Rattle.expander_model.specs.World.{made}
use Rattle.expander_trace.proofs.AttemptLemmas.{passes_limit, trees_are}
use Rattle.expander_trace.proofs.attempt.fit.Goals as goal

pub returns-in-Ok-clause-given : goal.returns-in-Ok-clause-given
returns-in-Ok-clause-given g c =
    IfSome_then c.in-Ok.tried ((rw c.remaining-argument.ensures at c.in-Ok.ensures.fit) made (λ s t w. w.1)) (λ t h. trees_are _ _ t.given h)

pub returns-in-Err-Tokens-clause-left : goal.returns-in-Err-Tokens-clause-left
returns-in-Err-Tokens-clause-left g c =
    let many = (rw c.remaining-argument.ensures at c.fit_within.ensures.tokens) made (λ s t w. w.1) (search rules) in
    passes_limit is_name (g.G.FragmentGrammar.answer c.args.grammar.now) made FnLike c.args.argument.now (rules_of c.args.rules.now).list c.args.most c.ranges.most.fits many
