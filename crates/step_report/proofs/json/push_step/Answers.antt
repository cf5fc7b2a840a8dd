use Rattle.std.proofs.Common.{◌∙◌, ap}
use Rattle.serde_json.specs.Written.{has_float}
use Rattle.expander_trace.specs.Given.{step_in}
use Rattle.step_report.specs.Bound.{context_by}
use Rattle.step_report.specs.Texts.{texts_in}
use Rattle.step_report.proofs.FloatLemmas.{step_has_no_float}
use Rattle.step_report.proofs.json.push_step.Goals as goal

pub push_line-requires : goal.push_line-requires
push_line-requires g c =
    ap has_float c.in_ok-value.ensures
    ∙ step_has_no_float (context_by (texts_in c.args.context.now.texts.now) (g.G.FragmentGrammar.answer c.args.context.now.grammar.now) c.args.context.now.edition) c.args.index c.args.parent (step_in c.args.it.now)
