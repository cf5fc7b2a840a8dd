-- The definitions of a text's top level, as a client is told of them. (LSP 3.17, "DocumentSymbol".)
use Rattle.std.specs.Prelude.{◌≡◌, ◌⊎◌, ℕ, List, codes, filter_map, if◌then◌else◌, map, Option}
use Rattle.std.specs.Prelude.{Some, None, Ok, Err}
use Rattle.serde_json.specs.Data.{Data, array, no_items, number, object, string, member}
use Rattle.serde_json.specs.Data.{no_members, unsigned}
use Rattle.serde_json.specs.View.{items_of}
use Rattle.bridge.specs.ReadText.{HasTooMany}
use Rattle.bridge.specs.TokenSteps.{text_reading, text_steps}
use Rattle.bridge.specs.declared.reading.outcome.ReadFault.{ReadFault}
use Rattle.expander_model.specs.Definitions.{Definition, definition_of}
use Rattle.expander_model.specs.Pieces.{pieces}
use Rattle.expander_sources.specs.Sources.{range_of}
use Rattle.tt_data.specs.Forest.{Forest}
use Rattle.session_workspace.specs.Ranges.{range_data}

-- a definition whose bytes and whose name are at these ranges: its name, what it is written with,
-- 12 for a function, and the ranges
abbrev pub symbol_at : (all name : Data) → Definition → Data
symbol_at all name d =
    object (member (codes "detail")
    (string (if d.is_macro then codes "macro" else codes "macro_rules!"))
    (member (codes "kind") (number (unsigned 12)) (member (codes "name") (string d.name.sym)
    (member (codes "range") all (member (codes "selectionRange") name no_members)))))

-- a definition where it is in a text
abbrev pub symbol : List ℕ → Definition → Data
symbol text d =
    symbol_at (range_data text (range_of d.piece)) (range_data text d.name.span.range) d

-- those among pieces, in order
abbrev pub symbols_among : List ℕ → List Forest → List Data
symbols_among text ps = map (symbol text) (filter_map definition_of ps)

-- a text cannot be read, or it has more tokens than a tree has room for
abbrev pub IsUnread : List ℕ → Type 0
IsUnread text =
    ((fault : ReadFault) × (text_reading text ≡ Err fault)) ⊎ HasTooMany (text_steps text)

-- a text is read as these trees, if it can be
abbrev pub IsReadAs : List ℕ → Option Forest → Type 0
IsReadAs text (Some f) = text_reading text ≡ Ok f
IsReadAs text None = IsUnread text

-- an answer lists the definitions of a text's top level, and none of a text that is not read
abbrev pub ListsSymbols : List ℕ → Data → Type 0
ListsSymbols text answer = ((f : Forest) × (text_reading text ≡ Ok f)
    × (answer ≡ array (items_of (symbols_among text (pieces f)))))
    ⊎ (IsUnread text × (answer ≡ array no_items))
