use Rattle.replay_script.proofs.json.json_line.Goals as goal

pub returns-in-Unread : goal.returns-in-Unread
returns-in-Unread c = rw (c.in-Unread.is) (rw (c.as_str.ensures.value) at c.source_unread_line.ensures)

pub returns-in-BadPrelude : goal.returns-in-BadPrelude
returns-in-BadPrelude c = rw (c.in-BadPrelude.is) c.bare_line.ensures
