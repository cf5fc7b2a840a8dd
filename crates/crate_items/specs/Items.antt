-- What a text declares, item by item. (The Rust Reference, "Modules", "Macros By Example", "Extern
-- crate declarations".)
use Rattle.std.specs.Prelude.{ℕ, zero, suc, Bool, List, [], ◌∷◌, ◌++◌, codes, flat_map, length}
use Rattle.std.specs.Prelude.{map, Option, Some, None, is_some, option_map, string_bytes, Vec}
use Rattle.std.specs.Prelude.{if◌then◌else◌}
use Rattle.std.specs.Global.{Global}
use Rattle.cfg_options.specs.Conditions.{Options, is_kept}
use Rattle.cfg_options.specs.Strings.{string_text}
use Rattle.crate_items.specs.Attributes.{attribute_of, is_inner, path_of}
use Rattle.expander_model.specs.Definitions.{has_attribute}
use Rattle.crate_items.specs.ImportEvents.{import_of}
use Rattle.crate_items.specs.Imports.{Import, imports_of}
use Rattle.crate_items.specs.Heads.{braced, crate_alias, crate_head, module_head}
use Rattle.crate_walk.specs.declared.event.CrateItem.{CrateItem}
use Rattle.crate_walk.specs.declared.event.Event.{Event}
use Rattle.crate_walk.specs.declared.event.Event.TheVariants as event
use Rattle.crate_walk.specs.declared.event.MacroItem.{MacroItem}
use Rattle.crate_walk.specs.declared.event.ModuleItem.{ModuleItem}
use Rattle.expander_model.specs.Definitions.{Definition, definition_of, is_semicolon}
use Rattle.expander_model.specs.Pieces.{cut}
use Rattle.small_grammar.specs.Text.{◌>>=◌}
use Rattle.tt_data.specs.Forest.{Forest}
use Rattle.tt_data.specs.declared.leaf.Ident.{Ident}
use Rattle.tt_data.specs.declared.span.TextRange.{TextRange}

-- a module: its name, what its attribute `path` says, whether its definitions stay in scope after
-- it, and where its name is
pub record Module : Type 0 where
  pub name : List ℕ
  pub path : Option (List ℕ)
  pub keeps_macros : Bool
  pub range : TextRange

-- a definition: its name, whether it is exported, whether it is a `macro`, and where its name is
pub record Macro : Type 0 where
  pub name : List ℕ
  pub is_exported : Bool
  pub is_macro : Bool
  pub range : TextRange

-- another crate: its name, another that it has here, whether what it exports is in scope, and where
-- its name is
pub record Other : Type 0 where
  pub name : List ℕ
  pub alias : Option (List ℕ)
  pub keeps_macros : Bool
  pub range : TextRange

-- an item, or the attribute of a module by which its definitions stay in scope after it; an inline
-- module has so many of the next ones in it
pub data Item : Type 0 where
  outline : Module → Item
  inline : Module → ℕ → Item
  definition : Macro → Item
  import : Import → Item
  other : Other → Item
  macro_use : Item

-- ---- items as events

abbrev pub range_at : ℕ → ℕ → TextRange
range_at start last = record { start = start; «end» = last }

abbrev pub module_of : ModuleItem → Module
module_of m = record {
  name = string_bytes m.name;
  path = option_map string_bytes m.path;
  keeps_macros = m.keeps_macros;
  range = range_at m.start m.«end»;
}

abbrev pub macro_of : MacroItem → Macro
macro_of m = record {
  name = string_bytes m.name;
  is_exported = m.is_exported;
  is_macro = m.is_macro;
  range = range_at m.start m.«end»;
}

abbrev pub other_of : CrateItem → Other
other_of c = record {
  name = string_bytes c.name;
  alias = option_map string_bytes c.alias;
  keeps_macros = c.keeps_macros;
  range = range_at c.start c.«end»;
}

abbrev pub item_of : Event → Item
item_of (event.Outline m) = outline (module_of m)
item_of (event.Inline m n) = inline (module_of m) n
item_of (event.Macro m) = definition (macro_of m)
item_of (event.Import i) = import (import_of i)
item_of (event.Crate c) = other (other_of c)
item_of event.MacroUse = macro_use

-- a list of events
abbrev pub items_of_events : Vec Event Global → List Item
items_of_events events = map item_of events.items

-- ---- the items of a piece

-- a list of what is there
abbrev pub listed : {A : Type 0} → (A → Item) → Option A → List Item
listed f None = []
listed f (Some a) = f a ∷ []

-- the module of this name that a piece is
abbrev pub module_at : Options → Forest → Ident → Module
module_at options piece name = record {
  name = name.sym;
  path = path_of options piece;
  keeps_macros = is_some (attribute_of options (codes "macro_use") piece);
  range = name.span.range;
}

-- the definition that a piece is
abbrev pub macro_at : Forest → Definition → Macro
macro_at piece d = record {
  name = d.name.sym;
  is_exported = has_attribute (codes "macro_export") piece;
  is_macro = d.is_macro;
  range = d.name.span.range;
}

abbrev pub macro_in : Forest → Option Macro
macro_in piece = option_map (macro_at piece) (definition_of piece)

-- the other crate that a piece names
abbrev pub other_at : Forest → Ident → Option Ident → Other
other_at piece name alias = record {
  name = name.sym;
  alias = option_map (λ i. i.sym) alias;
  keeps_macros = has_attribute (codes "macro_use") piece;
  range = name.span.range;
}

abbrev pub other_in : Forest → Option Other
other_in piece = do
  (name, rest) ← crate_head piece
  alias ← crate_alias rest
  Some (other_at piece name alias)

-- an inline module and the items in it
abbrev pub around : Module → List Item → List Item
around m items = inline m (length items) ∷ items

-- a module and the items in its braces, if there are braces
abbrev pub in_braces : (Forest → List Item) → Module → Option Forest → List Item
in_braces items m None = []
in_braces items m (Some inner) = around m (items inner)

-- a module, by what stands behind its name: `;`, or items in braces
abbrev pub behind_name : (Forest → List Item) → Module → Forest → List Item
behind_name items m rest =
    if is_semicolon rest then outline m ∷ [] else in_braces items m (braced rest)

-- the module with this head that a piece is, if it has one
abbrev pub with_head : Options → (Forest → List Item) → Forest → Option (Ident × Forest) → List Item
with_head options items piece None = []
with_head options items piece (Some head) =
    behind_name items (module_at options piece head.0) head.1

-- the items that a piece is but for modules
abbrev pub own_items : Forest → List Item
own_items piece =
    listed definition (macro_in piece)
    ++ (listed other (other_in piece) ++ map import (imports_of piece))

-- the inner attribute that a piece is
abbrev pub inner_items : Options → Forest → List Item
inner_items options piece =
    if is_inner options (codes "macro_use") piece then macro_use ∷ [] else []

-- the items of a piece that is not left out, where `items` gives those of a module's trees
abbrev pub kept_items : Options → (Forest → List Item) → Forest → List Item
kept_items options items piece =
    own_items piece ++ (inner_items options piece
    ++ with_head options items piece (module_head piece))

module _ (options : Options) where
  -- the items of a piece: none if its attributes leave it out
  abbrev pub piece_items : (Forest → List Item) → Forest → List Item
  piece_items items piece =
      if is_kept options string_text piece then kept_items options items piece else []

  -- the items of some trees, with those of modules inside one another so many levels deep
  abbrev pub items_within : ℕ → Forest → List Item
  items_within zero trees = []
  items_within (suc levels) trees = flat_map (piece_items (items_within levels)) (cut trees)

  -- the items of a text that is read as these trees
  abbrev pub text_items : Forest → List Item
  text_items = items_within 65
