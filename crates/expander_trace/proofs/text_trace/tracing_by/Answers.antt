use Rattle.std.proofs.Common.{arith}
use Rattle.expander_trace.proofs.text_trace.tracing_by.Goals as goal

pub returns-clause-counted : goal.returns-clause-counted
returns-clause-counted g c = omega (arith, c.ranges.depth.fits)
