use Rattle.tt_data.proofs.EqualityLemmas.{literals, leaves, tokens}
use Rattle.tt_data.proofs.laws.equal_tokens.Goals as goal

pub returns-clause-literals : goal.returns-clause-literals
returns-clause-literals c = literals

pub returns-clause-leaves : goal.returns-clause-leaves
returns-clause-leaves c = leaves

pub returns-clause-tokens : goal.returns-clause-tokens
returns-clause-tokens c = tokens
