use Rattle.std.proofs.Common.{◌∙◌, List, ℕ, subst}
use Rattle.std.specs.Prelude.{Some}
use Rattle.bridge.specs.TokenSteps.{text_steps}
use Rattle.expander_reparse.specs.ParsedTexts.{IsReadInPieces}
use Rattle.expander_reparse.specs.declared.parse.Parsed.TheVariants.{Pieces}
use Rattle.pieced_text.specs.TextPieces.{IsInPieces}
use Rattle.pieced_text.proofs.PieceLemmas.{pieces_are}
use Rattle.pieced_text.proofs.text.PiecedText.pieces.Goals as goal

pub returns-in-Pieces-clause-pieces : goal.returns-in-Pieces-clause-pieces
returns-in-Pieces-clause-pieces c =
    let text : List ℕ = c.text-text.result.now in
    let found : IsReadInPieces text (Pieces c.in-Pieces.pieces c.in-Pieces.cached) =
    rw c.in-Pieces.is at c.in_ok-_fault.ensures.read in
    let is_read = c.reading_is_a_relation.ensures.walk (text_steps text) found.0 found.1 in
    let are = pieces_are found.0 c.in-Pieces.pieces.items
    (c.tokens_follow_one_another.ensures.text text found.0 c.text-text.utf8 is_read)
    (c.tokens_are_written.ensures text found.0 is_read) found.2 in
    subst (λ (t : List ℕ). IsInPieces t (Some c.in-Pieces.pieces.items)) (c.text-text.ensures ∙ c.self.view_is)
    (found.0, found.1, are.0, are.1)
