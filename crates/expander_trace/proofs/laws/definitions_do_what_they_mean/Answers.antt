use Rattle.std.proofs.Common.{ap, refl}
use Rattle.std.specs.Prelude.{None}
use Rattle.expander_model.specs.Scoping.{Scoped}
use Rattle.expander_model.specs.Dialects.{top_level}
use Rattle.expander_model.specs.Definitions.{Definition}
use Rattle.expander_model.specs.World.{world}
use Rattle.expander_model.specs.declared.scope_rules.Standing.TheVariants.{Top}
use Rattle.expander_trace.proofs.laws.definitions_do_what_they_mean.Goals as goal

pub returns-clause-means : goal.returns-clause-means
returns-clause-means c = λ grammar edition dialect. record { broken = λ d. refl; fit = λ d argument. refl }

pub returns-clause-top_level : goal.returns-clause-top_level
returns-clause-top_level c = λ grammar edition scope depth f.
    ap (λ (a : Scoped Definition). a.outcome) (c.top_level_scope_is_as_before.ensures.lists (world grammar edition top_level) (λ d. d) scope depth Top None f)
