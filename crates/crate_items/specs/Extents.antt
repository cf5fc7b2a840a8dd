-- Where calls and modules are that are items of a text. (The Rust Reference, "Macros": invocation,
-- "Modules": module source filenames.)
use Rattle.std.specs.Prelude.{◌≡◌, ◌⊎◌, ◌≤◌, ◌^◌, ℕ, zero, suc, List, [], ◌++◌, flat_map, length}
use Rattle.std.specs.Prelude.{Ok, Option, Some, None, option_to_list, if◌then◌else◌}
use Rattle.bridge.specs.ReadText.{HasTooMany}
use Rattle.bridge.specs.TokenSteps.{text_reading, text_steps}
use Rattle.cfg_options.specs.Conditions.{Options, is_kept}
use Rattle.cfg_options.specs.Strings.{string_text}
use Rattle.crate_items.specs.Heads.{braced, module_head}
use Rattle.crate_items.specs.Items.{range_at}
use Rattle.crate_items.specs.declared.extents.Extents.{Extents}
use Rattle.crate_items.specs.declared.extents.Outline.{Outline}
use Rattle.expander_model.specs.CallSteps.{call_at}
use Rattle.expander_model.specs.Definitions.{after_attributes, is_semicolon}
use Rattle.expander_model.specs.Pieces.{cut}
use Rattle.small_grammar.specs.Text.{◌>>=◌, ◌>>◌}
use Rattle.tt.specs.Elements.{first_place}
use Rattle.tt.specs.FirstTrees.{first_group}
use Rattle.tt_data.specs.Forest.{Forest}
use Rattle.tt_data.specs.declared.span.TextRange.{TextRange}

-- where the call is that a piece is behind its attributes: from its name to its closing bracket
abbrev pub call_extent : Forest → Option TextRange
call_extent piece = do
  c ← call_at (after_attributes piece)
  (brackets, argument, rest) ← first_group c.from_group
  Some (range_at c.name.span.range.start brackets.close_span.range.«end»)

-- where the module in a file of its own is that a piece is
abbrev pub outline_extent : Forest → Option Outline
outline_extent piece = do
  (name, rest) ← module_head piece
  is_semicolon rest
  first ← first_place piece
  last ← first_place rest
  Some (record {
    name = name.span.range.start;
    range = range_at first.range.start last.range.«end»;
  })

-- what is in the braces of the inline module that a piece is
abbrev pub inside : Forest → Option Forest
inside piece = do
  (name, rest) ← module_head piece
  braced rest

module _ {A : Type 0} (options : Options) (found : Forest → Option A) where
  -- what is found in the braces of a module, where `more` gives what is found in trees
  abbrev pub found_inside : (Forest → List A) → Option Forest → List A
  found_inside more None = []
  found_inside more (Some inner) = more inner

  -- what a piece is, and what is found inside it; nothing if its attributes leave it out
  abbrev pub piece_found : (Forest → List A) → Forest → List A
  piece_found more piece =
      if is_kept options string_text piece
      then option_to_list (found piece) ++ found_inside more (inside piece) else []

  -- what is found in some trees, with modules inside one another so many levels deep
  abbrev pub found_within : ℕ → Forest → List A
  found_within zero trees = []
  found_within (suc levels) trees = flat_map (piece_found (found_within levels)) (cut trees)

-- where the calls are that are items of a text that is read as these trees
abbrev pub call_extents : Options → Forest → List TextRange
call_extents options = found_within options call_extent 65

-- where its modules in files of their own are
abbrev pub outline_extents : Options → Forest → List Outline
outline_extents options = found_within options outline_extent 65

-- the extents of a text: of its trees, or none where it cannot be read or is too long
abbrev pub AreExtentsOf : Options → List ℕ → Option Extents → Type 0
AreExtentsOf options text (Some e) =
    (f : Forest) × (text_reading text ≡ Ok f) × (e.calls.items ≡ call_extents options f)
    × (e.outlines.items ≡ outline_extents options f)
AreExtentsOf options text None =
    (f : Forest) → text_reading text ≡ Ok f → (2 ^ 32 ≤ length text) ⊎ HasTooMany (text_steps text)
