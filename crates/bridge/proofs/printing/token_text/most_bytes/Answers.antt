use Rattle.std.proofs.Common.{arith}
use Rattle.bridge.proofs.PutLemmas.{short_mark}
use Rattle.bridge.proofs.printing.token_text.most_bytes.Goals as goal

pub returns-in-Mark : goal.returns-in-Mark
returns-in-Mark c = rw c.in-Mark.is (let short = short_mark c.in-Mark.field-0 in omega arith)
