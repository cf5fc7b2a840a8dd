use Rattle.std.proofs.Common.{◌≡◌, Err, sym, ap, ◌∙◌}
use Rattle.std.specs.Prelude.{is_some}
use Rattle.tt.specs.Views.{forest}
use Rattle.tt_data.specs.declared.span.Span.{Span}
use Rattle.tt_data.specs.fault.TtFault.TheVariants.{Tokens}
use Rattle.mbe_rules.specs.Ops.{rule_of}
use Rattle.mbe.specs.mbe_transcriber.Markers.{is_name}
use Rattle.mbe.specs.Answers.{within}
use Rattle.mbe.specs.Fit.{rule_fit}
use Rattle.mbe_explain.proofs.FilledLemmas.{alike-mapped, fits-alike}
use Rattle.mbe_explain.proofs.rules.fits.Goals as goal

pub returns-clause-fits : goal.returns-clause-fits
returns-clause-fits g c = λ mark.
    let gr = g.G.FragmentGrammar.answer c.args.grammar.now in
    let rule = rule_of c.args.rule.now in
    let argument = forest c.args.argument in
    let same = λ (s : Span). s in
    c.is_some.ensures ∙ ap is_some (c.in_ok-given.ensures.tree same (λ s t w. w.1))
    ∙ alike-mapped (within c.invisible_spanned-top.result) (rule_fit is_name gr same rule argument)
    ∙ fits-alike is_name gr same mark rule argument

pub returns-in_err-given-clause-tokens : goal.returns-in_err-given-clause-tokens
returns-in_err-given-clause-tokens g c = λ e.
    let given = rw e at c.from_residual.ensures in
    let fault : c.in_err-given.field-0.0 ≡ Tokens = sym given.1 in
    c.in_err-given.ensures.tokens (λ (s : Span). s) (λ s t w. w.1) (ap Err fault)
