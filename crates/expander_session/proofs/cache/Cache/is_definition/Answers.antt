use Rattle.std.proofs.Common.{sym}
use Rattle.expander_reparse.specs.RelativePieces.{tree_at}
use Rattle.expander_session.proofs.ScopePieceLemmas.{definition_here, plain_here}
use Rattle.expander_session.proofs.cache.Cache.is_definition.Goals as goal

pub returns-in-Some-Plain : goal.returns-in-Some-Plain
returns-in-Some-Plain c =
    let which = rw c.in-Some-Plain.is at c.in-Some-Plain.field-0-is in
    sym (plain_here c.args.self.now.plains.items _ (tree_at c.args.own.now) c.requires.plain (rw which at (rw c.in-Some-Plain.is at c.requires.link)))

pub returns-in-Some-Definition : goal.returns-in-Some-Definition
returns-in-Some-Definition c =
    let which = rw c.in-Some-Definition.is at c.in-Some-Definition.field-0-is in
    sym (definition_here c.args.self.now.definitions.items _ (tree_at c.args.own.now) (rw which at (rw c.in-Some-Definition.is at c.requires.link)))
