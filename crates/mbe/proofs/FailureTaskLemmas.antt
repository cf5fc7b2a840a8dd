-- How many tasks remain when a transcriber is transcribed on after faults.
use Rattle.std.proofs.Common.{◌≡◌, ap, ◌+◌, ◌<◌, List, ◌∷◌, arith}
use Rattle.std.specs.Borrow.{Bor}
use Rattle.std.specs.Prelude.{OnOk, Result, Ok, Err}
use Rattle.tt_data.specs.fault.TtFault.{TtFault}
use Rattle.mbe_rules.specs.Items.{done}
use Rattle.mbe_rules.specs.Ops.{put_op}
use Rattle.mbe_rules.specs.declared.parser.Op.{Op}
use Rattle.mbe.specs.FailureTasks.{tasks_of, tasks_of_all}
use Rattle.mbe_transcriber.specs.Tasks.{work_of}
use Rattle.mbe.specs.declared.recovery.items.RecoveryTask.{RecoveryTask}
use Rattle.mbe.specs.declared.recovery.items.RecoveryTask.TheVariants.{Items}
use Rattle.mbe_transcriber.proofs.FillTaskLemmas.{work-more}

-- the first items, with those after them put down before
pub items-fewer : {A : Type 0} (r : Result A TtFault) (ts us vs : List RecoveryTask) (t : RecoveryTask) (ops rest : Bor (List Op)) (o : Op) → t ≡ Items ops → ops.now ≡ o ∷ rest.now →
    tasks_of_all us ≡ tasks_of_all ts + tasks_of (Items rest) → OnOk r (tasks_of_all vs < tasks_of_all us + work_of (put_op o done)) →
    OnOk r (tasks_of_all vs < tasks_of_all ts + tasks_of t)
items-fewer (Err x) ts us vs t ops rest o is e f h = tt
items-fewer (Ok b) ts us vs t ops rest o is e f h =
    let a = work-more o ops.now rest.now e in
    let c = ap tasks_of is in
    omega (arith, a, c, f, h)
