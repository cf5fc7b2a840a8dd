use Rattle.std.proofs.Common.{arith}
use Rattle.replay_script.proofs.EditLemmas.{is_empty}
use Rattle.replay_script.proofs.script.next_line.Goals as goal

pub returns-in-Ok-eq0-clause-line : goal.returns-in-Ok-eq0-clause-line
returns-in-Ok-eq0-clause-line g c = (
  is_empty c.read_until.new.buf.items (omega (arith, c.in-Ok-eq0.ensures.ok, c.clear.ensures.len, c.in-Ok-eq0.field-0-test)),
  c.in-Ok-eq0.ensures.«end» c.in-Ok-eq0.field-0-test,
)
