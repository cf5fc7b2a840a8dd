use Rattle.std.proofs.Common.{◌<◌, ◌+◌, ◌^◌, ◌-◌, arith}
use Rattle.mbe_rules.specs.Ops.{items_of}
use Rattle.mbe_matcher.specs.Bound.{map_of}
use Rattle.mbe_transcriber.specs.Filling.{filled}
use Rattle.mbe_transcriber.specs.Limits.{most_rounds}
use Rattle.mbe_transcriber.specs.Markers.{is_name}
use Rattle.mbe_transcriber.specs.Output.{output}
use Rattle.mbe_transcriber.proofs.FillTaskLemmas.{filled-fault, filled-whole}
use Rattle.mbe_transcriber.proofs.transcriber.fill.Goals as goal

pub returns-in-Whole-clause-filled : goal.returns-in-Whole-clause-filled
returns-in-Whole-clause-filled g c = λ mark is.
    filled-whole c.args.out.now.tree c.fill_within.new.out.tree (filled is_name most_rounds mark (map_of c.args.bindings.now) (items_of c.args.template.now))
    (output is_name most_rounds mark (map_of c.args.bindings.now) (items_of c.args.template.now)) (2 ^ 64 - 1)
    ((rw c.in-Whole.is at c.in_ok-fill_within.ensures.ends) mark is)

pub returns-in-Fault-clause-filled : goal.returns-in-Fault-clause-filled
returns-in-Fault-clause-filled g c = λ mark is.
    filled-fault c.args.out.now.tree c.fill_within.new.out.tree (filled is_name most_rounds mark (map_of c.args.bindings.now) (items_of c.args.template.now))
    (output is_name most_rounds mark (map_of c.args.bindings.now) (items_of c.args.template.now)) (2 ^ 64 - 1)
    ((rw c.in-Fault.is at c.in_ok-fill_within.ensures.ends) mark is)

pub returns-in-Passed-clause-tokens : goal.returns-in-Passed-clause-tokens
returns-in-Passed-clause-tokens g c = λ mark is e.
    let over = (rw c.in-Passed.is at c.in_ok-fill_within.ensures.ends) mark is in
    omega (arith, over)
