use Rattle.std.proofs.Common.{refl, false, None}
use Rattle.expander_model.specs.declared.scope_rules.ScopeRules.TheVariants.{Rust}
use Rattle.textual_scope.proofs.RuleLemmas.{no_keyword_in, same_meaning}
use Rattle.textual_scope.proofs.laws.without_keywords_both_rules_agree.Goals as goal

pub returns-clause-lists : goal.returns-clause-lists
returns-clause-lists c = λ world local scope depth standing outer f adds h. no_keyword_in world local scope adds (record { scope = Rust; items = false; cfg = None; limits = None; excuses = false }) refl refl refl depth standing outer f h

pub returns-clause-texts : goal.returns-clause-texts
returns-clause-texts c = λ layers depth initial text f keeps tells whole free read adds nests. same_meaning layers depth keeps tells whole free initial text f read adds nests
