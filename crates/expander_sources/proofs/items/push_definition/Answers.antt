use Rattle.std.proofs.Common.{◌∙◌, ◌++◌, List, ap, append-nil, sym}
use Rattle.std.specs.Prelude.{is_some, not}
use Rattle.bridge.specs.RelativeSpans.{moved_to}
use Rattle.expander_sources.specs.Sources.{Item}
use Rattle.expander_sources.proofs.ImportLemmas.{own_absent}
use Rattle.expander_sources.proofs.items.push_definition.Goals as goal

pub returns-then-is_none-clause-ok : goal.returns-then-is_none-clause-ok
returns-then-is_none-clause-ok c =
    sym (append-nil c.args.items.now.items)
    ∙ ap (λ (xs : List Item). c.args.items.now.items ++ xs)
    (sym (own_absent (moved_to c.args.base) c.args.modules.now.items c.args.piece.now
    (ap is_some (sym c.definition_of.ensures) ∙ c.is_none.ensures ∙ ap not c.if-is_none.true)))
