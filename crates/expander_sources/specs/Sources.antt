-- Sources: texts that were read for their definitions.
use Rattle.std.specs.Prelude.{ℕ, zero, suc, Bool, false, ◌&&◌, ◌||◌, List, [], ◌∷◌, ◌++◌, codes}
use Rattle.std.specs.Prelude.{flat_map, get_or, map, Option, Some, None, option_map, is_some}
use Rattle.std.specs.Prelude.{unwrap_or, Result, Ok, Err, if◌then◌else◌, refl}
use Rattle.std.specs.Coded.{Coded, code_by, coded×, coded_ℕ, coded_list, coded_option}
use Rattle.bridge.specs.Text.{is_char, same_kind}
use Rattle.bridge.specs.declared.reading.outcome.ReadFault.{ReadFault}
use Rattle.small_grammar.specs.Text.{◌>>=◌, ◌>>◌, is_empty}
use Rattle.tt.specs.FirstTrees.{first_group, first_ident, first_punct}
use Rattle.tt_data.specs.Coded.{forest_code}
use Rattle.tt_data.specs.Forest.{Forest, empty, leaf, group, map_spans}
use Rattle.tt_data.specs.Spans.{span_of}
use Rattle.tt_data.specs.declared.delimiter.Delimiter.{Delimiter}
use Rattle.tt_data.specs.declared.delimiter.DelimiterKind.TheVariants.{Brace, Bracket}
use Rattle.tt_data.specs.declared.leaf.Ident.{Ident}
use Rattle.tt_data.specs.declared.leaf.Leaf.TheVariants as as_leaf
use Rattle.tt_data.specs.declared.span.Span.{Span}
use Rattle.tt_data.specs.declared.span.TextRange.{TextRange}
use Rattle.expander_model.specs.Definitions.{after_attributes, after_pub, after_word, definition_of}
use Rattle.expander_model.specs.Pieces.{cut, first_start, pieces}
use Rattle.expander_sources.specs.Homes.{Home, home_code}

-- a span of the text of this number
abbrev pub of_text : ℕ → Span → Span
of_text t s = record s { anchor = t }

-- ---- what a piece is

-- a module ends with a brace group
abbrev pub ends_module : Delimiter → Forest → Bool
ends_module d rest = same_kind d.kind Brace && is_empty rest

-- the name of an inline module and the trees in it, if a piece is one: `mod name { .. }` behind
-- attributes and a visibility (The Rust Reference, "Modules")
abbrev pub module_of : Forest → Option (Ident × Forest)
module_of piece = do
  behind ← after_word (codes "mod")
      (unwrap_or (after_pub (after_attributes piece)) (after_attributes piece))
  (name, after_name) ← first_ident behind
  (d, inner, rest) ← first_group after_name
  ends_module d rest
  Some (name, inner)

-- a piece begins with `pub` behind its attributes
abbrev pub is_public : Forest → Bool
is_public piece = is_some (after_word (codes "pub") (after_attributes piece))

-- the name of the definition that a piece is, and where it is written
abbrev pub name_of : Forest → Option (List ℕ)
name_of piece = option_map (λ d. d.name.sym) (definition_of piece)

abbrev pub name_range_of : Forest → Option TextRange
name_range_of piece = option_map (λ d. d.name.span.range) (definition_of piece)

-- the offset at which trees end, behind others that end at this one
abbrev pub end_behind : ℕ → Forest → ℕ
end_behind n empty = n
end_behind n (leaf l rest) = end_behind (span_of l).range.«end» rest
end_behind n (group d inner rest) = end_behind d.close_span.range.«end» rest

-- the bytes of a piece, from its first token's start to its last token's end
abbrev pub range_of : Forest → TextRange
range_of piece = record { start = first_start piece; «end» = end_behind 0 piece }

-- ---- the definitions of a text

-- a definition of a source: the names of the modules around it, outermost first, and its piece
pub record Item : Type 0 where
  pub modules : List (List ℕ)
  pub piece : Forest

-- a piece of these modules, if it is a definition
abbrev pub own_items : List (List ℕ) → Forest → List Item
own_items modules piece = if is_some (definition_of piece)
    then record { modules = modules; piece = piece } ∷ [] else []

-- what the pieces of a module have, if there is one
abbrev pub in_module : (List (List ℕ) → Forest → List Item) → List (List ℕ)
    → Option (Ident × Forest) → List Item
in_module has modules None = []
in_module has modules (Some m) = flat_map (has (modules ++ m.0.sym ∷ [])) (cut m.1)

-- the definitions of the module that a piece is, and of those in it, so many levels deep
abbrev pub inner_items : ℕ → List (List ℕ) → Forest → List Item
inner_items zero modules piece = []
inner_items (suc levels) modules piece =
    in_module (λ around p. own_items around p ++ inner_items levels around p) modules
    (module_of piece)

-- the definitions that a piece has: itself, or those of its modules, so many levels deep
abbrev pub items_of : ℕ → List (List ℕ) → Forest → List Item
items_of levels modules piece = own_items modules piece ++ inner_items levels modules piece

-- how many modules inside one another are looked into
abbrev pub most_modules : ℕ
most_modules = 64

-- the definitions of the text of this number that is read as these trees
abbrev pub source_items : ℕ → Forest → List Item
source_items t f = flat_map (items_of most_modules []) (pieces (map_spans (of_text t) f))

-- a text that was read: its number, the crate that it belongs to (none: the crate of the text that
-- is expanded), and its definitions in order
pub record Source : Type 0 where
  pub number : ℕ
  pub home : Option Home
  pub items : List Item

-- sources and their definitions are coded as their parts
abbrev pub item_code : Coded Item
item_code =
    code_by (List (List ℕ) × Forest) (coded× (coded_list (coded_list coded_ℕ)) forest_code)
    (λ i. (i.modules, i.piece))
    (λ p. record { modules = p.0; piece = p.1 }) (λ _. refl)

abbrev pub source_code : Coded Source
source_code =
    code_by (ℕ × (Option Home × List Item))
    (coded× coded_ℕ (coded× (coded_option home_code) (coded_list item_code)))
    (λ s. (s.number, (s.home, s.items)))
    (λ p. record { number = p.0; home = p.1.0; items = p.1.1 }) (λ _. refl)

-- the definition of this index: an empty piece where there are fewer
abbrev pub item_at : List Item → ℕ → Item
item_at items i = get_or items i (record { modules = []; piece = empty })

-- the pieces of a text of this number that are definitions, in order: none of a text that cannot be
-- read
abbrev pub source_pieces : ℕ → Result Forest ReadFault → List Forest
source_pieces t (Err fault) = []
source_pieces t (Ok f) = map (λ i. i.piece) (source_items t f)
