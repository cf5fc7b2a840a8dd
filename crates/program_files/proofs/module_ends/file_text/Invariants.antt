-- The ends of the events so far.
use Rattle.std.proofs.Common.{take}
use Rattle.std.specs.List.{AllZip}
use Rattle.program_files.specs.ModuleEnds.{IsEndOf}
use Rattle.program_files.proofs.module_ends.file_text.Given as goal

abbrev pub invariant-loop-event : goal.invariant-loop-event
invariant-loop-event l = AllZip (IsEndOf l.expansion) (take l.event-index l.events) l.ends.items
