use Rattle.expander.proofs.SearchLemmas.{plain_output, plain_faults, wordless_output, wordless_faults}
use Rattle.expander.proofs.laws.without_definitions_nothing_changes.Goals as goal

pub returns-clause-output : goal.returns-clause-output
returns-clause-output c = plain_output

pub returns-clause-faults : goal.returns-clause-faults
returns-clause-faults c = plain_faults

pub returns-clause-wordless_output : goal.returns-clause-wordless_output
returns-clause-wordless_output c = wordless_output

pub returns-clause-wordless_faults : goal.returns-clause-wordless_faults
returns-clause-wordless_faults c = wordless_faults
