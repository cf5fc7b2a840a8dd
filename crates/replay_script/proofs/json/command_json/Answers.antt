use Rattle.replay_script.proofs.json.command_json.Goals as goal

pub returns-in-BadEdit : goal.returns-in-BadEdit
returns-in-BadEdit c = rw (c.in-BadEdit.is) c.bare_line-in-BadEdit.ensures
