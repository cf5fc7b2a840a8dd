-- Definitions as preludes have them.
use Rattle.std.specs.Prelude.{ℕ, Bool, List, [], codes, filter_map, not, Option, Some, None}
use Rattle.std.specs.Prelude.{unwrap_or, if◌then◌else◌}
use Rattle.small_grammar.specs.Text.{◌>>=◌, ◌>>◌}
use Rattle.tt.specs.Elements.{first_place}
use Rattle.tt_data.specs.Forest.{Forest, empty, leaf, group, joined}
use Rattle.tt_data.specs.Spans.{no_span}
use Rattle.tt_data.specs.declared.delimiter.Delimiter.{Delimiter}
use Rattle.tt_data.specs.declared.delimiter.DelimiterKind.{DelimiterKind}
use Rattle.tt_data.specs.declared.delimiter.DelimiterKind.TheVariants.{Brace, Bracket, Parenthesis}
use Rattle.tt_data.specs.declared.edition.Edition.{Edition}
use Rattle.tt_data.specs.declared.leaf.IdentIsRaw.TheVariants.{No}
use Rattle.tt_data.specs.declared.leaf.Leaf.{Leaf}
use Rattle.tt_data.specs.declared.leaf.Leaf.TheVariants as as_leaf
use Rattle.tt_data.specs.declared.leaf.Spacing.TheVariants.{Alone}
use Rattle.tt_data.specs.declared.span.Span.{Span}
use Rattle.expander_model.specs.Calls.{key_behind}
use Rattle.expander_model.specs.Definitions.{Definition, definition_of}
use Rattle.expander_model.specs.EditionMarks.{edition_word}
use Rattle.expander_sources.specs.Homes.{Home, root_of}
use Rattle.expander_sources.specs.Rooting.{rooted}
use Rattle.expander_sources.specs.Sources.{Item}
use Rattle.expander_model.specs.Definitions.{has_attribute}

-- ---- new tokens

abbrev pub word_at : List ℕ → Span → Leaf
word_at word at = as_leaf.Ident (record { sym = word; span = at; is_raw = No })

abbrev pub punct_at : ℕ → Span → Leaf
punct_at char at = as_leaf.Punct (record { char = char; spacing = Alone; span = at })

abbrev pub brackets_at : DelimiterKind → Span → Delimiter
brackets_at kind at = record { open_span = at; close_span = at; kind = kind }

-- the span of the first token
abbrev pub first_span : Forest → Span
first_span f = unwrap_or (first_place f) no_span

-- ---- definitions of other crates

-- the mark of an edition, `# [ $2021 ]`, before trees
abbrev pub marked_with : Edition → Span → Forest → Forest
marked_with edition at rest =
    leaf (punct_at 35 at)
    (group (brackets_at Bracket at) (leaf (word_at (edition_word edition) at) empty) rest)

-- the arguments of a `macro` with a single rule
abbrev pub arguments_at : List ℕ → Option Forest → Span → Forest
arguments_at root None at = empty
arguments_at root (Some arguments) at = group (brackets_at Parenthesis at)
    (rooted root arguments) empty

-- the body of a definition
abbrev pub body_at : List ℕ → Forest → Span → Forest
body_at root body at = group (brackets_at Brace at) (rooted root body) empty

-- the keyword of a definition: `macro`, or `macro_rules !`
abbrev pub keyword_at : Bool → Span → Forest
keyword_at is_macro at =
    if is_macro then leaf (word_at (codes "macro") at) empty
    else leaf (word_at (codes "macro_rules") at) (leaf (punct_at 33 at) empty)

-- the keyword, and the name of the definition as this key, before trees
abbrev pub head_at : List ℕ → Definition → Span → Forest → Forest
head_at key d at rest = joined (keyword_at d.is_macro at)
    (leaf (as_leaf.Ident (record d.name { sym = key })) rest)

-- what a definition has before its body
abbrev pub own_arguments : List ℕ → Definition → Span → Forest
own_arguments root d at = if d.is_macro then arguments_at root d.arguments at else empty

-- what stands behind the name: `{ .. }`, or of a `macro` with a single rule `(..) { .. }`
abbrev pub groups_at : List ℕ → Definition → Span → Forest
groups_at root d at = joined (own_arguments root d at) (body_at root d.body at)

-- a definition of another crate, looked up by this key: with the mark of the crate's edition, its
-- `$crate` standing for the crate. New tokens have the span of the definition's first token
abbrev pub home_piece : Home → List ℕ → Definition → Forest
home_piece h key d =
    marked_with h.edition (first_span d.piece)
    (head_at key d (first_span d.piece) (groups_at (root_of h.root) d (first_span d.piece)))

-- ---- picks

-- the piece of a definition of another crate, seen by its own name
abbrev pub named_piece : Home → Forest → Option Definition → Forest
named_piece h piece None = piece
named_piece h piece (Some d) = home_piece h d.name.sym d

-- a definition as it is seen by its name: as it is, if it is of the crate of the text that is
-- expanded
abbrev pub picked : Option Home → Forest → Forest
picked None piece = piece
picked (Some h) piece = named_piece h piece (definition_of piece)

-- a definition of another crate as it is seen behind a root: none if the compiler has it built in
abbrev pub rooted_pick : List ℕ → Home → Item → Option Forest
rooted_pick root h item = do
  d ← definition_of item.piece
  not (has_attribute (codes "rustc_builtin_macro") item.piece)
  Some (home_piece h (key_behind (root_of root) d.name.sym) d)

-- the definitions of a source that are seen behind a root: none of the crate of the text that is
-- expanded, which has no root of its own
abbrev pub rooted_picks : List ℕ → Option Home → List Item → List Forest
rooted_picks root None items = []
rooted_picks root (Some h) items = filter_map (rooted_pick root h) items
