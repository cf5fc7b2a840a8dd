-- What a prelude gets of a whole source. (Of this project.)
use Rattle.std.specs.Prelude.{Bool, not, ◌&&◌, ◌==◌, List, [], ◌∷◌, ◌++◌, Option, Some, None}
use Rattle.std.specs.Prelude.{codes, filter, flat_map, length}
use Rattle.tt_data.specs.Forest.{Forest}
use Rattle.expander_sources.specs.Homes.{Home}
use Rattle.expander_sources.specs.Picks.{picked, rooted_picks}
use Rattle.expander_sources.specs.Sources.{Item, Source}
use Rattle.expander_sources.specs.expander_model.Definitions.{has_attribute}

-- a definition is in no inline module, and the compiler does not have it built in
abbrev pub is_open : Item → Bool
is_open i = not (has_attribute (codes "rustc_builtin_macro") i.piece) && length i.modules == 0

-- such definitions of a source, in order, seen by their names
abbrev pub open_picks : Source → List Forest
open_picks s = flat_map (λ i. picked s.home i.piece ∷ []) (filter is_open s.items)

-- all its definitions behind its own root, if it has one
abbrev pub rooted_by : Option Home → List Item → List Forest
rooted_by None items = []
rooted_by (Some home) items = rooted_picks home.root (Some home) items

abbrev pub behind_own : Source → List Forest
behind_own s = rooted_by s.home s.items

-- all of a source: by their names, and behind its own root
abbrev pub picks_of_source : Source → List Forest
picks_of_source s = open_picks s ++ behind_own s
