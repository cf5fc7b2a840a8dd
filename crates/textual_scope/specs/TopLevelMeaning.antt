-- The meaning of a text in which a name finds pieces of texts alone: no list in a piece has a
-- definition. (Of this project.)
use Rattle.std.specs.Prelude.{ℕ, List, [], ◌∷◌, Option, Some, None, Result, Ok, Err}
use Rattle.tt_data.specs.Forest.{Forest}
use Rattle.bridge.specs.declared.reading.outcome.ReadFault.{ReadFault}
use Rattle.expander_model.specs.Definitions.{Definition, definition_of, nearest}
use Rattle.expander_model.specs.Expansion.{expansion}
use Rattle.expander_model.specs.Meaning.{Layers, Member, plain, defining, ReadMeaning}
use Rattle.expander_model.specs.Meaning.{with_definition, meaning_of}
use Rattle.expander_model.specs.Pieces.{pieces}

module _ (layers : Layers) (depth : ℕ) where
  -- a piece in the scope of the definitions before it, which are given nearest first
  abbrev pub top_member : List Definition → Forest → Option Definition → Member
  top_member before piece (Some d) = defining d
  top_member before piece None =
      plain piece (expansion layers.world (nearest before) depth None piece)

  -- the pieces in order, each in the scope of those before it
  abbrev pub top_members : List Definition → List Forest → List Member
  top_members before [] = []
  top_members before (p ∷ ps) =
      let d : Option Definition = definition_of p in
      top_member before p d ∷ top_members (with_definition d before) ps

  -- the meaning of what was read
  abbrev pub top_over : List Definition → Result Forest ReadFault → Result ReadMeaning ReadFault
  top_over initial (Err fault) = Err fault
  top_over initial (Ok f) = Ok (meaning_of layers (top_members initial (pieces f)))

  -- the meaning of a text after these definitions of other texts, the nearest first
  abbrev pub top_meaning : List Definition → List ℕ → Result ReadMeaning ReadFault
  top_meaning initial text = top_over initial (layers.read text)
