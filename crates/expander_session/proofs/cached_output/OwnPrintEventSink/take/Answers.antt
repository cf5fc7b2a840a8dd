use Rattle.std.proofs.Common.{refl}
use Rattle.bridge.specs.TokenEvents.{step_of}
use Rattle.expander_session.proofs.PartLemmas.{prints_step}
use Rattle.expander_session.proofs.cached_output.OwnPrintEventSink.take.Goals as goal

pub returns-in-Ok : goal.returns-in-Ok
returns-in-Ok c = prints_step c.args.self.now _ (record { step = step_of c.args.step.now; outer = c.args.outer }) refl refl c.in-Ok.ensures.ok c.in_ok-add_word.ensures
