-- A definition of another text, as a prelude has it.
use Rattle.std.specs.Prelude.{◌≡◌, List, map, is_some, true}
use Rattle.std.specs.Rc.{rc_value}
use Rattle.bridge.specs.RelativeSpans.{moved_to}
use Rattle.tt_data.specs.Forest.{Forest, map_spans}
use Rattle.expander_model.specs.Definitions.{definition_of}
use Rattle.expander_model.specs.HashedTrees.{own_top}
use Rattle.expander_model.specs.Held.{Stands, first_place}
use Rattle.expander_model.specs.Pieces.{relative}
use Rattle.expander_sources.specs.declared.import.Import.{Import}

-- the piece of its text that an import is
abbrev pub import_piece : Import → Forest
import_piece i = map_spans (moved_to i.place) (rc_value i.tree).inner

-- the pieces that imports are
abbrev pub import_pieces : List Import → List Forest
import_pieces imports = map import_piece imports

-- it is a definition, written in one text, and its tree has piece-relative spans
pub record IsImport (i : Import) : Type 0 where
  pub stands : Stands (import_piece i)
  pub place : i.place ≡ first_place (import_piece i)
  pub tree : rc_value i.tree ≡ own_top (relative (import_piece i))
  pub definition : is_some (definition_of (relative (import_piece i))) ≡ true
