-- Worked examples of what texts declare, by computation.
use Rattle.std.proofs.Common.{◌≡◌, ℕ, true, false, List, [], ◌∷◌, Option, Some, None, map, refl}
use Rattle.std.specs.Prelude.{codes, Result, Ok, Err}
use Rattle.std.specs.Char.{encode_utf8}
use Rattle.std.specs.Str.{chars, is_utf8}
use Rattle.std.specs.Str.Lossy.{utf8_lossy}
use Rattle.ucd_derived.specs.Binary.{is_xid_start, is_xid_continue}
use Rattle.ucd_derived.specs.XidContinueRanges.{xid_continue_ranges}
use Rattle.ucd_derived.specs.XidStartRanges.{xid_start_ranges}
use Rattle.ucd_table.specs.Rows.{in_ranges}
use Rattle.bridge.specs.TokenSteps.{text_reading}
use Rattle.bridge.specs.declared.reading.outcome.ReadFault.{ReadFault}
use Rattle.cfg_options.specs.Conditions.{Options}
use Rattle.small_grammar.specs.Text.{same_text}
use Rattle.tt_data.specs.Forest.{Forest, empty}
use Rattle.crate_items.specs.Attributes.{found_in}
use Rattle.crate_items.specs.Extents.{call_extent, found_within, outline_extent}
use Rattle.crate_items.specs.Imports.{tree_imports}
use Rattle.crate_items.specs.Items.{Item, definition, import, inline, items_within, macro_use, other, outline, range_at}
use Rattle.crate_items.specs.Opened.{opened_byte}
use Rattle.crate_items.specs.declared.extents.Outline.{Outline}
use Rattle.tt_data.specs.declared.span.TextRange.{TextRange}

-- the trees of a text
abbrev trees : Result Forest ReadFault → Forest
trees (Ok f) = f
trees (Err fault) = empty

-- only the option `unix` is set
abbrev unix : Options
unix name value = same_text name (codes "unix")

-- what a text declares, in modules at most two deep
abbrev items : List ℕ → List Item
items text = items_within unix 3 (trees (text_reading text))

-- ---- modules

-- a module in a file of its own; its path is what the string stands for, and its name has no `r#`
modules_in_files :
    items (codes "#[path = \"x\\x2fy.rs\"] pub(crate) mod r#a;")
    ≡ outline (record { name = codes "a"; path = Some (utf8_lossy (codes "x/y.rs")); keeps_macros = false; range = record { start = 37; «end» = 40 } }) ∷ []
unfolding chars is_utf8 is_xid_start is_xid_continue in_ranges xid_start_ranges xid_continue_ranges encode_utf8 tree_imports found_in
modules_in_files = refl

-- an inline module, and how many items are in it
inline_modules :
    items (codes "#[macro_use] mod a { mod b { } fn f() { mod c; } } mod d;")
    ≡ inline (record { name = codes "a"; path = None; keeps_macros = true; range = record { start = 17; «end» = 18 } }) 1
    ∷ inline (record { name = codes "b"; path = None; keeps_macros = false; range = record { start = 25; «end» = 26 } }) 0
    ∷ outline (record { name = codes "d"; path = None; keeps_macros = false; range = record { start = 55; «end» = 56 } }) ∷ []
unfolding chars is_utf8 is_xid_start is_xid_continue in_ranges xid_start_ranges xid_continue_ranges encode_utf8 tree_imports found_in
inline_modules = refl

-- what `cfg` leaves out is not there
conditions :
    items (codes "#[cfg(windows)] mod a { mod b; } #[cfg(unix)] mod c;")
    ≡ outline (record { name = codes "c"; path = None; keeps_macros = false; range = record { start = 50; «end» = 51 } }) ∷ []
unfolding chars is_utf8 is_xid_start is_xid_continue in_ranges xid_start_ranges xid_continue_ranges encode_utf8 tree_imports found_in
conditions = refl

-- a `cfg_attr` stands for its attributes where its predicate is true
paths_under_conditions :
    items (codes "#[cfg_attr(unix, path = \"u\")] mod a; #[cfg_attr(windows, path = \"w\")] mod b;")
    ≡ outline (record { name = codes "a"; path = Some (utf8_lossy (codes "u")); keeps_macros = false; range = record { start = 34; «end» = 35 } })
    ∷ outline (record { name = codes "b"; path = None; keeps_macros = false; range = record { start = 74; «end» = 75 } }) ∷ []
unfolding chars is_utf8 is_xid_start is_xid_continue in_ranges xid_start_ranges xid_continue_ranges encode_utf8 tree_imports found_in
paths_under_conditions = refl

-- an inner attribute is an item of the module that it is in
inner_attributes :
    items (codes "#![macro_use] mod a { }")
    ≡ macro_use ∷ inline (record { name = codes "a"; path = None; keeps_macros = false; range = record { start = 18; «end» = 19 } }) 0 ∷ []
unfolding chars is_utf8 is_xid_start is_xid_continue in_ranges xid_start_ranges xid_continue_ranges encode_utf8 tree_imports found_in
inner_attributes = refl

-- ---- definitions and other crates

definitions :
    items (codes "#[macro_export] macro_rules! a { } pub macro b() { }")
    ≡ definition (record { name = codes "a"; is_exported = true; is_macro = false; range = record { start = 29; «end» = 30 } })
    ∷ definition (record { name = codes "b"; is_exported = false; is_macro = true; range = record { start = 45; «end» = 46 } }) ∷ []
unfolding chars is_utf8 is_xid_start is_xid_continue in_ranges xid_start_ranges xid_continue_ranges encode_utf8 tree_imports
definitions = refl

other_crates :
    items (codes "#[macro_use] extern crate a; extern crate b as c; extern \"C\" { }")
    ≡ other (record { name = codes "a"; alias = None; keeps_macros = true; range = record { start = 26; «end» = 27 } })
    ∷ other (record { name = codes "b"; alias = Some (codes "c"); keeps_macros = false; range = record { start = 42; «end» = 43 } }) ∷ []
unfolding chars is_utf8 is_xid_start is_xid_continue in_ranges xid_start_ranges xid_continue_ranges encode_utf8 tree_imports
other_crates = refl

-- ---- names from elsewhere

-- the path and the name of each import
abbrev told : Item → List (List ℕ) × Option (List ℕ)
told (import i) = (i.path, i.name)
told i = ([], None)

one_name :
    map told (items (codes "pub(crate) use crate::a::m; use b as c;"))
    ≡ (codes "crate" ∷ codes "a" ∷ codes "m" ∷ [], Some (codes "m")) ∷ (codes "b" ∷ [], Some (codes "c")) ∷ []
unfolding chars is_utf8 is_xid_start is_xid_continue in_ranges xid_start_ranges xid_continue_ranges encode_utf8 tree_imports
one_name = refl

-- `self` in braces is the path before them; `_` is no name; `*` is all names
many_names :
    map told (items (codes "use a::{self, b::{c, d as e}, T as _, f::*};"))
    ≡ (codes "a" ∷ [], Some (codes "a"))
    ∷ (codes "a" ∷ codes "b" ∷ codes "c" ∷ [], Some (codes "c"))
    ∷ (codes "a" ∷ codes "b" ∷ codes "d" ∷ [], Some (codes "e"))
    ∷ (codes "a" ∷ codes "f" ∷ [], None) ∷ []
unfolding chars is_utf8 is_xid_start is_xid_continue in_ranges xid_start_ranges xid_continue_ranges encode_utf8 tree_imports
many_names = refl

-- ---- where calls and modules are

-- where calls are that are items, in modules at most two deep
abbrev calls : List ℕ → List TextRange
calls text = found_within unix call_extent 3 (trees (text_reading text))

-- where modules in files of their own are
abbrev outlines : List ℕ → List Outline
outlines text = found_within unix outline_extent 3 (trees (text_reading text))

-- a call is from its name to its bracket; what `cfg` leaves out is none
calls_are_items :
    calls (codes "m! { mod a; } #[cfg(windows)] n!{} mod i { o!(); } struct S;")
    ≡ range_at 0 13 ∷ range_at 43 47 ∷ []
unfolding chars is_utf8 is_xid_start is_xid_continue in_ranges xid_start_ranges xid_continue_ranges encode_utf8
calls_are_items = refl

-- a module is from its attributes to its `;`; what is in a call is none
modules_are_items :
    outlines (codes "#[path = \"x\"] pub mod a; m! { mod c; } mod i { mod b; }")
    ≡ record { name = 22; range = range_at 0 24 } ∷ record { name = 51; range = range_at 47 53 } ∷ []
unfolding chars is_utf8 is_xid_start is_xid_continue in_ranges xid_start_ranges xid_continue_ranges encode_utf8
modules_are_items = refl

-- in `m!{x \n}` a space stands for all but what is kept and the line end
bytes_of_a_call :
    map (λ i. opened_byte (range_at 0 7 ∷ []) (range_at 3 4 ∷ []) i 65) (0 ∷ 3 ∷ 6 ∷ 7 ∷ []) ≡ 32 ∷ 65 ∷ 32 ∷ 65 ∷ []
bytes_of_a_call = refl

line_ends_stay : opened_byte (range_at 0 7 ∷ []) [] 5 10 ≡ 10
line_ends_stay = refl
