-- Each step leads on.
use Rattle.std.proofs.lemmas.Result.{on_ok_weaker}
use Rattle.crate_walk.proofs.WalkLemmas.{turn_end, turn_full, turn_inline, turn_item}
use Rattle.crate_walk.proofs.walk.advance.Goals as goal

pub returns-in-End : goal.returns-in-End
returns-in-End g c = on_ok_weaker c.leave.result
    (turn_end (g.F.Files.finds c.args.files.now) (g.F.Files.reads c.args.files.now)
    c.args.progress.now c.leave.new.self c.args.frame
    c.requires.right c.requires.read (rw c.in-End.is at c.requires.next)) c.leave.ensures

pub returns-in-Item : goal.returns-in-Item
returns-in-Item g c = on_ok_weaker c.pass_item.result
    (turn_item (g.F.Files.finds c.args.files.now) (g.F.Files.reads c.args.files.now)
    c.args.progress.now c.pass_item.new.progress c.args.frame
    c.requires.right c.requires.read (rw c.in-Item.is at c.requires.next)) c.pass_item.ensures

pub returns-in-Inline : goal.returns-in-Inline
returns-in-Inline g c = on_ok_weaker c.enter_inline.result
    (turn_inline (g.F.Files.finds c.args.files.now) (g.F.Files.reads c.args.files.now)
    c.args.progress.now c.enter_inline.new.progress c.args.frame c.in-Inline.folder c.in-Inline.count
    c.requires.right c.requires.read (rw c.in-Inline.is at c.requires.next)) c.enter_inline.ensures

pub returns-in-TooMany : goal.returns-in-TooMany
returns-in-TooMany g c = on_ok_weaker c.pass_over.result
    (turn_full (g.F.Files.finds c.args.files.now) (g.F.Files.reads c.args.files.now)
    c.args.progress.now c.pass_over.new.progress c.args.frame
    c.requires.right c.requires.read (rw c.in-TooMany.is at c.requires.next)
    (rw c.in-TooMany.is at c.requires.left)) c.pass_over.ensures
