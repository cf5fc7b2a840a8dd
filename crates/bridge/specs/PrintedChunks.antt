-- Chunks: token events printed by themselves, to be appended to what was printed before.
use Rattle.std.specs.Prelude.{◌≡◌, ℕ, List, [], ◌++◌, Bool, true, false, not, ◌&&◌, Option, Some, None, is_some, length, map, nat_eq}
use Rattle.tt_data.specs.Walk.{Step, step_with}
use Rattle.tt_data.specs.declared.span.Span.{Span}
use Rattle.bridge.specs.declared.printing.spacing.Edge.{Edge}
use Rattle.bridge.specs.Edges.{has_one_gap}
use Rattle.bridge.specs.Printers.{HasPut, PrinterState}

-- what events print by themselves
pub record ChunkState : Type 0 where
  pub text : List ℕ
  pub tokens : List Span
  -- the token printed last
  pub last : Edge

-- the state of a printer that printed only the chunk
abbrev pub just_chunk : ChunkState → PrinterState
just_chunk chunk = record { text = chunk.text; tokens = chunk.tokens; left_out = []; depth = 0; last = Some chunk.last; waiting = None }

-- exactly these events were printed, whole: nothing is omitted, and all groups are closed
abbrev pub IsChunkOf : ChunkState → List Step → Type 0
IsChunkOf chunk steps = HasPut (just_chunk chunk) steps

-- what was printed is a chunk: not empty, nothing omitted, no group open, no quote pending
abbrev pub is_chunk : PrinterState → Bool
is_chunk s = nat_eq s.depth 0 && (not (is_some s.waiting) && (nat_eq (length s.left_out) 0 && is_some s.last))

-- the gap after the token printed last, if there is one, is the same whatever follows
abbrev pub has_last_gap : Option Edge → Bool
has_last_gap None = true
has_last_gap (Some last) = has_one_gap last

-- whether a chunk may be appended: no group is open, no quote is pending, and the gap after the
-- token printed last does not depend on what follows
abbrev pub takes_chunks : PrinterState → Bool
takes_chunks s = nat_eq s.depth 0 && (not (is_some s.waiting) && has_last_gap s.last)

-- the chunk was appended with its tokens at these spans; or nothing was changed
abbrev pub PutsChunk : PrinterState → PrinterState → ChunkState → List Span → Bool → Type 0
PutsChunk old new chunk spans true = (before steps : List Step) (f : Span → Span) → IsChunkOf chunk steps → spans ≡ map f chunk.tokens
    → HasPut old before → HasPut new (before ++ map (step_with f) steps)
PutsChunk old new chunk spans false = new ≡ old
