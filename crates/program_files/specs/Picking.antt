-- Which definitions of libraries a text is expanded after. (Of this project.)
use Rattle.std.specs.Prelude.{Bool, true, false, not, ◌&&◌, List, [], ◌∷◌, ◌++◌, codes, filter}
use Rattle.std.specs.Prelude.{flat_map, Option, Some, None}
use Rattle.std.specs.Str.{bytes_eq}
use Rattle.tt_data.specs.Forest.{Forest}
use Rattle.expander_sources.specs.Homes.{Home}
use Rattle.expander_sources.specs.Picks.{picked, rooted_picks}
use Rattle.expander_sources.specs.Sources.{Item, Source}
use Rattle.expander_model.specs.Definitions.{has_attribute}

-- a definition is exported by its crate, and the compiler does not have it built in
abbrev pub is_exported : Item → Bool
is_exported i =
    not (has_attribute (codes "rustc_builtin_macro") i.piece)
    && has_attribute (codes "macro_export") i.piece

-- such definitions of a source, in order, seen by their names
abbrev pub exports_of : Source → List Forest
exports_of s = flat_map (λ i. picked s.home i.piece ∷ []) (filter is_exported s.items)

-- the definitions of a source behind a root
abbrev pub behind : Home → Source → List Forest
behind root s = rooted_picks root.root s.home s.items

-- a source is of the crate with this root
abbrev pub is_at : Home → Option Home → Bool
is_at root None = false
is_at root (Some home) = bytes_eq home.root root.root

abbrev pub is_of : Home → Source → Bool
is_of root s = is_at root s.home

-- it is, or it is not
abbrev pub is_at_side : Bool → Home → Source → Bool
is_at_side true root s = is_of root s
is_at_side false root s = not (is_of root s)

-- the definitions behind a root of those of the sources that are of its crate, or that are not
abbrev pub picks_at_side : Bool → List Source → Home → List Forest
picks_at_side own sources root = flat_map (behind root) (filter (is_at_side own root) sources)

-- the definitions of sources behind a root: those of its own crate are nearest
abbrev pub picks_behind : List Source → Home → List Forest
picks_behind sources root = picks_at_side false sources root ++ picks_at_side true sources root

-- those of libraries that export one another's: by their names, and behind the root of each
abbrev pub picks_of_library : List Source → List Home → List Forest
picks_of_library sources roots =
    flat_map exports_of sources ++ flat_map (picks_behind sources) roots
