use Rattle.std.proofs.Common.{List, ◌++◌, length}
use Rattle.tt.specs.Views.{forest}
use Rattle.tt_data.specs.Walk.{Step, walk}
use Rattle.bridge.specs.PrintStates.{Fits, Grows, state_of}
use Rattle.bridge.specs.Printers.{Continues}
use Rattle.bridge.specs.Printing.{Print, visible}
use Rattle.bridge.specs.PrintSteps.{steps_left}
use Rattle.bridge.proofs.printing.printer.put_trees.Given as goal

abbrev pub invariant-loop-left : goal.invariant-loop-left
invariant-loop-left l = record {
  fits : Fits (state_of l.out);
  puts : (more : List Step) (all : Print) → Continues (state_of l.initial.out) (visible (walk (forest l.fn.view) ++ more)) all
      → Continues (state_of l.out) (visible (steps_left l.left ++ more)) all;
  grows : Grows (state_of l.initial.out) (state_of l.out);
}

abbrev pub decreases-loop-left : goal.decreases-loop-left
decreases-loop-left l = length (steps_left l.left)
