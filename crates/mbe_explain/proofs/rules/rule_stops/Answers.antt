use Rattle.std.proofs.Common.{◌≡◌, Err, true, ap, sym, rules, arith}
use Rattle.tt.specs.Views.{forest}
use Rattle.tt_data.specs.fault.TtFault.TheVariants.{Tokens}
use Rattle.mbe_rules.specs.Items.{has_empty_round}
use Rattle.mbe_rules.specs.Ops.{rule_of}
use Rattle.mbe.specs.mbe_transcriber.Markers.{is_name}
use Rattle.mbe.proofs.FirstFitLemmas.{none-at}
use Rattle.mbe.specs.Bursts.{rule_bursts}
use Rattle.mbe.specs.Fit.{same_style}
use Rattle.mbe_explain.proofs.RulesLemmas.{all-told, any-at, bursts-here}
use Rattle.mbe_explain.proofs.rules.rule_stops.Goals as goal

pub rule_stop-requires : goal.rule_stop-requires
rule_stop-requires g c =
    none-at (λ r. has_empty_round r.pattern) rule_of c.args.rules.now c.loop-index.index c.index-rules-index.result c.requires c.loop-index-test.true
    c.index-rules-index.is

pub returns-clause-told : goal.returns-clause-told
returns-clause-told g c =
    all-told is_name (g.G.FragmentGrammar.answer c.args.grammar.now) (forest c.args.argument) c.args.style c.args.rules.now c.loop-index.index
    c.loop-index.told.items (omega (arith, c.loop-index-test.false)) c.loop-index.invariant

pub returns-in_err-stop-clause-tokens : goal.returns-in_err-stop-clause-tokens
returns-in_err-stop-clause-tokens g c = λ e.
    let gr = g.G.FragmentGrammar.answer c.args.grammar.now in
    let argument = forest c.args.argument in
    let rule = c.index-rules-index.result in
    let test = c.if-eq.true in
    let told = c.eq.ensures in
    let same : same_style c.args.style rule.style ≡ true = search rules in
    let given = rw e at c.from_residual.ensures in
    let fault : c.in_err-stop.field-0.0 ≡ Tokens = sym given.1 in
    any-at (λ r. rule_bursts is_name gr (λ s. s) c.args.style r argument) rule_of c.args.rules.now c.loop-index.index rule c.loop-index-test.true
    c.index-rules-index.is (bursts-here is_name gr argument c.args.style (rule_of rule) same (c.in_err-stop.ensures.tokens (ap Err fault)))
