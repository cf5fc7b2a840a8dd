use Rattle.std.proofs.Common.{◌≡◌, ◌∷◌, [], true, rules}
use Rattle.bridge.specs.PrintStates.{state_of}
use Rattle.bridge.specs.Printing.{is_visible_step}
use Rattle.bridge.specs.TokenEvents.{step_of}
use Rattle.bridge.proofs.PrintStepLemmas.{carried, grows_twice}
use Rattle.bridge.proofs.PutLemmas.{grows_next, settled_put}
use Rattle.bridge.proofs.printing.state.put_event.Goals as goal

pub returns-clause-puts : goal.returns-clause-puts
returns-clause-puts c =
    let step = step_of c.args.step.now in
    let sees : is_visible_step step ≡ true = search rules in
    carried c.put_next-2.result _ _
    (settled_put (state_of c.args.out.now) (state_of c.settle.new.out) (state_of c.put_next-2.new.out) step _
    sees c.in_ok-is_name.ensures.name c.in_ok-settle.ensures.settled)
    c.put_next-2.ensures.puts

pub returns-clause-grows : goal.returns-clause-grows
returns-clause-grows c =
    let settled = state_of c.settle.new.out in
    grows_twice (state_of c.args.out.now) settled (state_of c.put_next-2.new.out) c.in_ok-settle.ensures.settled.grows
    (grows_next c.put_next-2.result settled (state_of c.put_next-2.new.out) (step_of c.args.step.now ∷ []) c.put_next-2.ensures.puts c.put_next-2.ensures.err)
