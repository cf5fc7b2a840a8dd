use Rattle.std.proofs.Common.{false, ap, ◌∙◌}
use Rattle.tt.specs.Views.{forest}
use Rattle.test_grammars.specs.FakeLaws.{all_steps-is}
use Rattle.test_grammars.proofs.AllStepsFragmentGrammar.prefix.Goals as goal

pub returns : goal.returns
returns c =
    ap (λ n. record { tokens = n; fault = false }) c.steps.ensures
    ∙ all_steps-is c.args.entry (forest c.args.input) (λ e. let t = c.if-is_empty.ensures.1 e in cc)
