-- Warnings: with options for conditional compilation, attributes that are not read, and so leave in
-- what they stand at; without them, definitions of one name under a `cfg`, of which the last one
-- counts. (Of this project.)
use Rattle.std.specs.Prelude.{ℕ, zero, suc, Bool, false, ◌&&◌, not, List, [], ◌∷◌, ◌++◌, flat_map}
use Rattle.std.specs.Prelude.{codes, Option, Some, None, is_some, Result, Ok, Err, if◌then◌else◌}
use Rattle.std.specs.List.{list_any}
use Rattle.std.specs.Option.{option_to_list}
use Rattle.bridge.specs.Reading.{reading}
use Rattle.bridge.specs.Text.{is_punct, same_kind}
use Rattle.bridge.specs.TokenSteps.{text_steps}
use Rattle.bridge.specs.declared.reading.outcome.ReadFault.{ReadFault}
use Rattle.tt_data.specs.Forest.{Forest, empty, leaf, group}
use Rattle.tt_data.specs.declared.delimiter.DelimiterKind.TheVariants.{Brace}
use Rattle.tt_data.specs.declared.leaf.Ident.{Ident}
use Rattle.tt_data.specs.declared.span.Span.{Span}
use Rattle.small_grammar.specs.Text.{same_text, ◌>>=◌, ◌>>◌}
use Rattle.cfg_options.specs.Conditions.{Options}
use Rattle.cfg_options.specs.Misread.{misread}
use Rattle.cfg_options.specs.Strings.{string_text}
use Rattle.expander_model.specs.Definitions.{definition_of, has_attribute}
use Rattle.expander_model.specs.Pieces.{cut}
use Rattle.expander_run.specs.Lines.{line_of}
use Rattle.program_files.specs.Shown.{shown}

-- the list in the braces of a piece, unless `!` is right before them; `bang` says that one is right
-- before the trees
abbrev pub braced : Bool → Forest → Option Forest
braced bang empty = None
braced bang (leaf l rest) = braced (is_punct "!" l) rest
braced bang (group d inner rest) =
    if same_kind d.kind Brace && not bang then Some inner else braced false rest

-- the list in which further pieces are: no body of a definition, and no argument of a call
abbrev pub body_of : Forest → Option Forest
body_of piece = if is_some (definition_of piece) then None else braced false piece

-- how many lists inside one another are looked into
abbrev pub most_lists : ℕ
most_lists = 64

-- the name of a definition under a `cfg`
abbrev pub conditional : Forest → Option Ident
conditional piece = do
  d ← definition_of piece
  has_attribute (codes "cfg") piece
  Some d.name

-- a name is among these
abbrev pub is_known : List (List ℕ) → Ident → Bool
is_known names n = list_any (same_text n.sym) names

-- where this name stands, if it is among these
abbrev pub repeated : List (List ℕ) → Option Ident → List Span
repeated names None = []
repeated names (Some n) = if is_known names n then n.span ∷ [] else []

-- these names, and this one if it is new
abbrev pub with_name : List (List ℕ) → Option Ident → List (List ℕ)
with_name names None = names
with_name names (Some n) = if is_known names n then names else names ++ n.sym ∷ []

-- where a piece is warned of, behind definitions of these names under a `cfg`: with options at the
-- first attribute that is not read, and without at the name of another such definition
abbrev pub warned_at : Option Options → List (List ℕ) → Forest → List Span
warned_at None names piece = repeated names (conditional piece)
warned_at (Some options) names piece = option_to_list (misread options string_text piece)

-- the names of such definitions behind a piece; with options none is asked for
abbrev pub names_after : Option Options → List (List ℕ) → Forest → List (List ℕ)
names_after None names piece = with_name names (conditional piece)
names_after (Some options) names piece = names

-- what `has` gives of the pieces of a list, if there is one
abbrev pub in_list : (List Forest → List Span) → Option Forest → List Span
in_list has None = []
in_list has (Some list) = has (cut list)

-- by these options or none
module _ (options : Option Options) where
  -- where the pieces of a list are warned of, and what is in each, by `inner`
  abbrev pub warned_in : (Forest → List Span) → List (List ℕ) → List Forest → List Span
  warned_in inner names [] = []
  warned_in inner names (p ∷ ps) =
      warned_at options names p
      ++ (inner p ++ warned_in inner (names_after options names p) ps)

  -- where the pieces in a piece are warned of, so many lists deep
  abbrev pub warned_inside : ℕ → Forest → List Span
  warned_inside zero piece = []
  warned_inside (suc levels) piece =
      in_list (warned_in (warned_inside levels) []) (body_of piece)

  -- where those of a list are, from left to right
  abbrev pub warned_of : Forest → List Span
  warned_of f = warned_in (warned_inside most_lists) [] (cut f)

  -- where those of what a text is read as are
  abbrev pub warned_read : Result Forest ReadFault → List Span
  warned_read (Ok f) = warned_of f
  warned_read (Err fault) = []

  -- where those of a text are
  abbrev pub warned_text : List ℕ → List Span
  warned_text text = warned_read (reading (text_steps text))

-- what is wrong there
abbrev pub warning_words : Option Options → List ℕ
warning_words None =
    codes "warning: this definition counts, and no earlier one of its name that is under a cfg too"
warning_words (Some options) =
    codes "warning: this condition cannot be read, so what is under it stays"

-- the line that warns of one, in a text whose file has this name
abbrev pub warning_line : Option Options → List ℕ → List ℕ → Span → List ℕ
warning_line options name text span =
    codes "filgordd: " ++ (shown name
    ++ (codes ": " ++ line_of text span.range.start (warning_words options)))

-- a line for each
abbrev pub warning_lines : Option Options → List ℕ → List ℕ → List Span → List ℕ
warning_lines options name text spans = flat_map (warning_line options name text) spans
