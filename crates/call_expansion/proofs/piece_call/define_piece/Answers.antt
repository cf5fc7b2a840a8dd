use Rattle.std.proofs.Common.{◌≡◌, false, rules}
use Rattle.std.specs.Prelude.{is_some}
use Rattle.expander_model.specs.Definitions.{definition_of}
use Rattle.expander_reparse.specs.RelativePieces.{piece_at}
use Rattle.call_expansion.proofs.LastLemmas.{plain_stays}
use Rattle.call_expansion.proofs.piece_call.define_piece.Goals as goal

pub returns-then-not-is_definition-clause-met : goal.returns-then-not-is_definition-clause-met
returns-then-not-is_definition-clause-met c = λ before has.
    let plain : is_some (definition_of (piece_at c.args.piece.now)) ≡ false = search rules in
    plain_stays c.args.dialect.now c.args.scope.now (piece_at c.args.piece.now) before plain has
