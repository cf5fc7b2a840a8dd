-- The trees of a text's pieces, as a session sees them.
use Rattle.tt_data.specs.Forest.{Forest}
use Rattle.expander_model.specs.Meaning.{Member, plain, defining}
use Rattle.expander_model.specs.Pieces.{relative}

-- a member's tree, with piece-relative spans: of a plain piece the count sees it, of a definition
-- the ids
abbrev pub own_tree : Member → Forest
own_tree (plain piece outcome) = relative piece
own_tree (defining d) = relative d.piece
