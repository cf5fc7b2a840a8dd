use Rattle.tt.specs.Views.{forest}
use Rattle.test_grammars.specs.FakeLaws.{one_step-is}
use Rattle.test_grammars.proofs.OneStepFragmentGrammar.prefix.Goals as goal

pub returns : goal.returns
returns c = one_step-is c.args.entry (forest c.args.input) (λ e. let t = c.if-is_empty.ensures.1 e in cc)
