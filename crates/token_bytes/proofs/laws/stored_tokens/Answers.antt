use Rattle.token_bytes.proofs.EqualLemmas.{same_stored}
use Rattle.token_bytes.proofs.PackingLemmas.{added, length-records, records-append, table_after-added, table_after-append, tokens_in-records}
use Rattle.token_bytes.proofs.laws.stored_tokens.Goals as goal

pub returns-clause-back : goal.returns-clause-back
returns-clause-back c = tokens_in-records

pub returns-clause-appended : goal.returns-clause-appended
returns-clause-appended c = records-append

pub returns-clause-table_appended : goal.returns-clause-table_appended
returns-clause-table_appended c = table_after-append

pub returns-clause-table_begins : goal.returns-clause-table_begins
returns-clause-table_begins c = λ table ts. (added table ts, table_after-added table ts)

pub returns-clause-size : goal.returns-clause-size
returns-clause-size c = length-records

pub returns-clause-same : goal.returns-clause-same
returns-clause-same c = same_stored
