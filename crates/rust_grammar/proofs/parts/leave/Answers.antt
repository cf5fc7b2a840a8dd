use Rattle.std.proofs.Common.{refl}
use Rattle.tt.specs.Views.{forest}
use Rattle.rust_grammar.specs.Frames.{frame}
use Rattle.rust_grammar.proofs.parts.leave.Goals as goal

pub returns-in-Then : goal.returns-in-Then
returns-in-Then c = λ ed k frs. c.leave_then.ensures ed (frame c.args.at k (forest c.args.trees)) frs refl
