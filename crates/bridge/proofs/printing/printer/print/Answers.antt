use Rattle.std.proofs.Common.{[]}
use Rattle.tt.specs.Views.{forest}
use Rattle.tt_data.specs.Walk.{walk}
use Rattle.bridge.proofs.printing.printer.print.Goals as goal

pub returns-in-Ok-clause-printed : goal.returns-in-Ok-clause-printed
returns-in-Ok-clause-printed c = c.in-Ok.ensures.ok (walk (forest c.args.view)) (c.in_ok-put.ensures.ok [] c.new-printer.ensures)
