-- A text as its pieces.
use Rattle.std.specs.Prelude.{◌≡◌, ℕ, List, Ok, Err, ⊤}
use Rattle.bridge.specs.TokenSteps.{text_reading}
use Rattle.bridge.specs.declared.reading.outcome.Read.{Read}
use Rattle.bridge.specs.declared.reading.outcome.Read.TheVariants as whole
use Rattle.tt_data.specs.Forest.{Forest}
use Rattle.expander_reparse.specs.RelativePieces.{AreOwn}
use Rattle.expander_reparse.specs.Reparsing.{AreMet, AreTheirs}
use Rattle.expander_model.specs.Pieces.{pieces, separated}
use Rattle.expander_reparse.specs.Segments.{AreSegments}
use Rattle.expander_reparse.specs.declared.segment.Segments.{Segments}
use Rattle.expander_reparse.specs.declared.parse.Parsed.{Parsed}
use Rattle.expander_reparse.specs.declared.parse.Parsed.TheVariants.{Fault, Pieces}

-- the trees of a text, each `;` between pieces with spacing `Alone`, or its reading fault
abbrev pub IsReadApart : List ℕ → Read → Type 0
IsReadApart text (whole.Tree t) = (f : Forest) × (text_reading text ≡ Ok f)
    × (t.inner ≡ separated f)
IsReadApart text (whole.Fault fault) = text_reading text ≡ Err fault

-- the pieces of a text with what can be cached of them, or its reading fault
abbrev pub IsReadInPieces : List ℕ → Parsed → Type 0
IsReadInPieces text (Pieces own sources) =
    (f : Forest) × (text_reading text ≡ Ok f) × AreOwn (pieces f) own.items × AreSegments sources
IsReadInPieces text (Fault fault) = text_reading text ≡ Err fault

-- each piece has the tree of the cached piece that it names, if it names one
abbrev pub HaveMet : Segments → Parsed → Type 0
HaveMet held (Pieces own sources) = AreMet held own.items
HaveMet held (Fault fault) = ⊤

-- the pieces that are cached anew have the trees of the text's pieces
abbrev pub HaveTheirs : Parsed → Type 0
HaveTheirs (Pieces own sources) = AreTheirs sources own.items
HaveTheirs (Fault fault) = ⊤
