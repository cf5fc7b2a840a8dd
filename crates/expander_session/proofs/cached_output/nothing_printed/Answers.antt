use Rattle.std.proofs.Common.{refl, rules}
use Rattle.expander_session.proofs.cached_output.nothing_printed.Goals as goal

pub returns : goal.returns
returns c = λ whole. record { printer = c.in_ok-printer.ensures; words = search rules; none = λ e. refl }
