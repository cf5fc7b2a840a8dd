-- The trees of a text's definitions, with piece-relative spans.
use Rattle.std.specs.Prelude.{List, [], ◌∷◌, Option, Some, None, filter_map, if◌then◌else◌, is_some}
use Rattle.tt_data.specs.Forest.{Forest}
use Rattle.expander_model.specs.Definitions.{definition_of}
use Rattle.expander_model.specs.Meaning.{Member, plain, defining}
use Rattle.expander_model.specs.Pieces.{relative}

-- the trees of those pieces that are definitions, with piece-relative spans
abbrev pub definition_trees : List Forest → List Forest
definition_trees [] = []
definition_trees (p ∷ ps) = if is_some (definition_of (relative p))
    then relative p ∷ definition_trees ps else definition_trees ps

-- the tree of a definition of a text, with piece-relative spans
abbrev pub defining_tree : Member → Option Forest
defining_tree (plain piece outcome) = None
defining_tree (defining d) = Some (relative d.piece)

-- the trees of all definitions of a text
abbrev pub trees_in : List Member → List Forest
trees_in ms = filter_map defining_tree ms
