use Rattle.replay_script.proofs.json.reply_line.Goals as goal

pub returns-in-Unread : goal.returns-in-Unread
returns-in-Unread c = rw (c.in-Unread.is) c.unread_line.ensures
