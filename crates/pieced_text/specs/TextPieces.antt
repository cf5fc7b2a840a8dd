-- The pieces of a text. (Of this project.)
use Rattle.std.specs.Prelude.{◌≡◌, ℕ, List, All, map, Option, Some, None, Ok, Err}
use Rattle.bridge.specs.TokenSteps.{text_reading}
use Rattle.bridge.specs.declared.reading.outcome.ReadFault.{ReadFault}
use Rattle.tt_data.specs.Forest.{Forest}
use Rattle.expander_sources.specs.expander_model.Pieces.{pieces}
use Rattle.expander_reparse.specs.RelativePieces.{IsOwnPiece, piece_at}
use Rattle.expander_reparse.specs.declared.piece.Piece.{Piece}

-- a text is read as these pieces, in order, each where the text has it; or it cannot be read
abbrev pub IsInPieces : List ℕ → Option (List Piece) → Type 0
IsInPieces text (Some own) = (f : Forest) × (text_reading text ≡ Ok f)
    × (map piece_at own ≡ pieces f) × All IsOwnPiece own
IsInPieces text None = (fault : ReadFault) × (text_reading text ≡ Err fault)
