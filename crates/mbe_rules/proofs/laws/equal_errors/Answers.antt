use Rattle.std.proofs.Common.{rules}
use Rattle.mbe_rules.proofs.ErrorLemmas.{pairs}
use Rattle.tt_data.proofs.EqualityLemmas.{IsEquality}
use Rattle.mbe_rules.specs.contracts.errors.ExpandErrorKindPartialEq.TheImpl as of_kind
use Rattle.mbe_rules.proofs.laws.equal_errors.Goals as goal

kinds : IsEquality of_kind.ghosts.eq
kinds a b = search rules

pub returns-clause-expansion : goal.returns-clause-expansion
returns-clause-expansion c = pairs _ _ c.equal_tokens.ensures.spans kinds
