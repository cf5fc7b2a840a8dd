use Rattle.std.proofs.Common.{refl}
use Rattle.expander_sources.proofs.ImportLemmas.{same_import}
use Rattle.expander_sources.proofs.prelude.same_import.Goals as goal

pub returns-clause-right : goal.returns-clause-right
returns-clause-right c = (same_import c.args.import.now (record { place = c.args.import.now.place; tree = c.in_ok-clone.field-0 }) c.requires refl c.in_ok-clone.ensures.cases).0

pub returns-clause-piece : goal.returns-clause-piece
returns-clause-piece c = (same_import c.args.import.now (record { place = c.args.import.now.place; tree = c.in_ok-clone.field-0 }) c.requires refl c.in_ok-clone.ensures.cases).1
