-- How many tasks come of transcription that goes on after faults.
use Rattle.std.specs.Prelude.{ℕ, ◌+◌, ◌-◌, ◌*◌, List, sum_by}
use Rattle.mbe_rules.specs.Ops.{items_of}
use Rattle.mbe_transcriber.specs.Tasks.{work_of}
use Rattle.mbe.specs.declared.recovery.items.RecoveryTask.{RecoveryTask}
use Rattle.mbe.specs.declared.recovery.items.RecoveryTask.TheVariants.{Items, Close, Round}

-- the tasks that come of a task, itself included
abbrev pub tasks_of : RecoveryTask → ℕ
tasks_of (Items ops) = 1 + work_of (items_of ops.now)
tasks_of (Close s) = 1
tasks_of (Round x) = 1 + (65535 - x.round) * (work_of (items_of x.body.now) + 3)

-- the tasks that come of these tasks
abbrev pub tasks_of_all : List RecoveryTask → ℕ
tasks_of_all ts = sum_by tasks_of ts
