use Rattle.std.proofs.Common.{subst, sym}
use Rattle.std.specs.Prelude.{All}
use Rattle.expander_sources.specs.Imports.{IsImport}
use Rattle.expander_sources.proofs.PreludeLemmas.{all_and}
use Rattle.expander_sources.proofs.prelude.Prelude.add.Goals as goal

pub invariant_of-self-2 : goal.invariant_of-self-2
invariant_of-self-2 c = subst (All IsImport) (sym c.in_ok-push.ensures.items) (all_and IsImport c.self.inside.imports.items c.args.import c.self.invariant c.requires)
