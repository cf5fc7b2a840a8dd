-- A file is entered, or the module is passed over.
use Rattle.std.proofs.Common.{arith}
use Rattle.std.proofs.lemmas.Result.{on_ok_weaker}
use Rattle.crate_walk.proofs.WalkLemmas.{turn_file, turn_over}
use Rattle.crate_walk.proofs.walk.enter_outline.Goals as goal

pub returns-in-File : goal.returns-in-File
returns-in-File g c = on_ok_weaker c.enter_file.result
    (turn_file (g.F.Files.finds c.args.files.now) (g.F.Files.reads c.args.files.now)
    c.args.progress.now c.entry_of.new.progress c.enter_file.new.progress c.args.frame
    c.args.sought c.in-File.file c.in-File.count c.in-File.folder c.requires.next c.requires.read
    c.requires.left (omega arith) c.in_ok-file.ensures.same c.in_ok-file.ensures.more c.in_ok-file.ensures.right
    (rw c.in-File.is at c.in_ok-file.ensures.entry)) c.enter_file.ensures

pub returns-in-Lack : goal.returns-in-Lack
returns-in-Lack g c = on_ok_weaker c.pass_over.result
    (turn_over (g.F.Files.finds c.args.files.now) (g.F.Files.reads c.args.files.now)
    c.args.progress.now c.entry_of.new.progress c.pass_over.new.progress c.args.frame
    c.args.sought c.in-Lack.why c.requires.next c.requires.read
    c.in_ok-file.ensures.same c.in_ok-file.ensures.more c.in_ok-file.ensures.right
    (rw c.in-Lack.is at c.in_ok-file.ensures.entry)) c.pass_over.ensures
