-- Bytes of a text whose positions are kept. (Of this project.)
use Rattle.std.specs.Prelude.{ℕ, List, All}
use Rattle.line_index.specs.Lines.{IsSpot}
use Rattle.call_json.specs.declared.spots.Spots.{Spots}

-- each is a spot of this text
abbrev pub AreOf : List ℕ → Spots → Type 0
AreOf text spots = All (IsSpot text) spots.list.items
