use Rattle.std.proofs.Common.{◌++◌, subst}
use Rattle.bridge.specs.PrintStates.{state_of}
use Rattle.bridge.specs.Printers.{Continues}
use Rattle.bridge.specs.Printing.{visible}
use Rattle.bridge.specs.PrintSteps.{Gives, steps_left}
use Rattle.bridge.proofs.PrintStepLemmas.{grows_twice}
use Rattle.bridge.proofs.printing.printer.put_trees.Goals as goal

pub loop-left-preserved : goal.loop-left-preserved
loop-left-preserved c =
    let out = state_of c.loop-left.out in
    let taken = subst (λ o. Gives (steps_left c.loop-left.left) o (steps_left c.next_event.new.left)) c.in-Some.is c.in_ok-step.ensures.gives in
    record {
      fits = c.in_ok-put_event.ensures.fits;
      puts = λ more all p. c.in_ok-put_event.ensures.puts (steps_left c.next_event.new.left ++ more) all
          (subst (λ steps. Continues out (visible (steps ++ more)) all) taken (c.loop-left.invariant.puts more all p));
      grows = grows_twice (state_of c.args.out.now) out (state_of c.put_event.new.out) c.loop-left.invariant.grows c.put_event.ensures.grows;
    }

pub returns-clause-puts : goal.returns-clause-puts
returns-clause-puts c = λ more all p.
    let none = subst (λ o. Gives (steps_left c.loop-left.left) o (steps_left c.next_event.new.left)) c.in_default.is c.in_ok-step.ensures.gives in
    subst (λ steps. Continues (state_of c.loop-left.out) (visible (steps ++ more)) all) none.0 (c.loop-left.invariant.puts more all p)
