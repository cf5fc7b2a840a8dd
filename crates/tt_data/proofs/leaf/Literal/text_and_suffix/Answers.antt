use Rattle.std.proofs.Common.{rules}
use Rattle.tt_data.proofs.leaf.Literal.text_and_suffix.Goals as goal

pub returns-clause-text : goal.returns-clause-text
returns-clause-text c = search rules

pub returns-clause-suffix : goal.returns-clause-suffix
returns-clause-suffix c = search rules
