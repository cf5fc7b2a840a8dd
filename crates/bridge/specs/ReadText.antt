-- What `read` answers: the tree of a text, or its first fault.
use Rattle.std.specs.Prelude.{◌≡◌, ◌⊎◌, ◌+◌, ◌<◌, List, ◌++◌, map}
use Rattle.tt.specs.Building.{Opened, count_in, most_tokens}
use Rattle.tt_data.specs.Forest.{Forest, size}
use Rattle.tt_data.specs.declared.delimiter.Delimiter.{Delimiter}
use Rattle.tt_data.specs.declared.delimiter.DelimiterKind.TheVariants.{Invisible}
use Rattle.tt_data.specs.fault.TtFault.{TtFault}
use Rattle.tt_data.specs.fault.TtFault.TheVariants.{Memory, Tokens}
use Rattle.bridge.specs.Reading.{IsFault, IsReading, TextStep, step, walk_open, written_at}
use Rattle.bridge.specs.declared.reading.outcome.Read.{Read}
use Rattle.bridge.specs.declared.reading.outcome.Read.TheVariants.{Tree, Fault}

-- the top of a text: no brackets, with spans at its first byte
abbrev pub text_top : Delimiter
text_top = record {
  open_span = written_at (record { start = 0; «end» = 0 });
  close_span = written_at (record { start = 0; «end» = 0 });
  kind = Invisible;
}

-- the tree whose traversal is exactly these events, or their first fault
abbrev pub IsRead : List TextStep → Read → Type 0
IsRead steps (Tree t) = (t.delimiter ≡ text_top) × IsReading steps t.inner
IsRead steps (Fault fault) = IsFault steps fault

-- the tree read from some of the first events has more tokens than a tree has room for
pub record HasTooMany (steps : List TextStep) : Type 0 where
  pub groups : List Opened
  pub here : Forest
  pub more : List TextStep
  pub read : steps ≡ map step (walk_open groups here) ++ more
  pub many : most_tokens < size here + count_in groups

-- why reading is refused: memory ran out, or there are too many tokens before any fault
abbrev pub IsReadRefusal : List TextStep → TtFault → Type 0
IsReadRefusal steps e = (e ≡ Memory) ⊎ ((e ≡ Tokens) × HasTooMany steps)
