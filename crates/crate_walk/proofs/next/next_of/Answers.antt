-- What comes next is the event of the frame.
use Rattle.std.proofs.Common.{sym}
use Rattle.std.proofs.lemmas.Result.{IfOk-weaker}
use Rattle.crate_walk.proofs.WalkLemmas.{next_from}
use Rattle.crate_walk.specs.Frames.{IsNext, IsNextOf}
use Rattle.crate_walk.specs.Files.{files_in}
use Rattle.crate_walk.proofs.next.next_of.Goals as goal

pub returns-in-Some-clause-next : goal.returns-in-Some-clause-next
returns-in-Some-clause-next g c =
    IfOk-weaker c.next_at.result (IsNextOf (g.F.Files.finds c.args.files.now) c.args.frame.now.folder c.in-Some.event.now)
    (IsNext (g.F.Files.finds c.args.files.now) (files_in c.args.table.now) c.args.frame.now)
    (λ n h. next_from (g.F.Files.finds c.args.files.now) (files_in c.args.table.now) c.args.frame.now c.in-Some.event.now n (sym c.in-Some.ensures) h)
    c.next_at.ensures.next
