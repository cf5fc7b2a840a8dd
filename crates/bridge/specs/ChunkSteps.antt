-- What the functions that append chunks promise each other.
use Rattle.std.specs.Prelude.{◌≡◌, ℕ, Bool, true, false, List, [], ◌++◌, Option, Some, None}
use Rattle.tt_data.specs.declared.span.Span.{Span}
use Rattle.bridge.specs.declared.printing.spacing.Edge.{Edge}
use Rattle.bridge.specs.Edges.{gap_outside}
use Rattle.bridge.specs.PrintedChunks.{ChunkState}
use Rattle.bridge.specs.Printers.{PrinterState}

-- the gap after the token printed last, if there is one, whatever follows
abbrev pub one_gap : Option Edge → List ℕ
one_gap None = []
one_gap (Some last) = gap_outside last

-- a chunk after what was printed, with its tokens at these spans
abbrev pub chunk_behind : PrinterState → ChunkState → List Span → PrinterState
chunk_behind s chunk spans = record s { text = (s.text ++ one_gap s.last) ++ chunk.text; tokens = s.tokens ++ spans; last = Some chunk.last }

-- the chunk was appended so; or nothing was changed
abbrev pub AppendsChunk : PrinterState → PrinterState → ChunkState → List Span → Bool → Type 0
AppendsChunk old new chunk spans true = new ≡ chunk_behind old chunk spans
AppendsChunk old new chunk spans false = new ≡ old

-- only the chunk's text after what was printed
abbrev pub text_behind : PrinterState → ChunkState → PrinterState
text_behind s chunk = record s { text = (s.text ++ one_gap s.last) ++ chunk.text; last = Some chunk.last }
