use Rattle.replay_script.proofs.line.edit_of.Goals as goal

pub returns-in-None : goal.returns-in-None
returns-in-None c = (
  _,
  _,
  _,
  _,
  c.in-Some.ensures,
  c.in-Some-number_before.ensures,
  rw c.in-None.is at c.in_ok-replacement.ensures,
)
