use Rattle.textual_scope.proofs.LimitLemmas.{within_more}
use Rattle.expander_model.specs.Limits.{definition, noted, noted_attempt}
use Rattle.textual_scope.proofs.laws.larger_limits_refuse_less.Goals as goal

pub returns : goal.returns
returns c = λ dialect world local scope less more n d around site p q e.
    within_more (noted_attempt dialect world local scope (noted dialect world local scope n) (definition d) around site).given.outcome.finds less.calls more.calls less.tokens more.tokens p q e
