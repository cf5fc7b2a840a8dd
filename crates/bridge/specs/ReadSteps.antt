-- How the code reads: the events of a tree under construction, and what one token adds to them.
use Rattle.std.specs.Prelude.{◌≡◌, ◌⊎◌, ℕ, ◌+◌, ◌-◌, ◌<◌, ◌≤◌, List, [], ◌∷◌, ◌++◌, Bool, true, false, codes, length, map, Option, Some, None, take, drop, if◌then◌else◌}
use Rattle.std.specs.Str.{IsCharBoundary}
use Rattle.rustc_lexer.specs.declared.token.DocStyle.{DocStyle}
use Rattle.rustc_lexer.specs.declared.token.DocStyle.TheVariants.{Outer, Inner}
use Rattle.rustc_lexer.specs.declared.token.Token.{Token}
use Rattle.rustc_lexer.specs.declared.token.TokenKind.{TokenKind}
use Rattle.tt.specs.Building.{Building, closed, count_of, innermost_group, most_tokens}
use Rattle.tt.specs.TokenLiterals.{IsLiteralToken, literal_in}
use Rattle.tt_data.specs.Forest.{Forest, empty, leaf, group, joined}
use Rattle.tt_data.specs.Literals.{literal_of}
use Rattle.tt_data.specs.declared.delimiter.DelimiterKind.{DelimiterKind}
use Rattle.tt_data.specs.declared.delimiter.DelimiterKind.TheVariants.{Bracket}
use Rattle.tt_data.specs.fault.TtFault.{TtFault}
use Rattle.tt_data.specs.fault.TtFault.TheVariants.{Memory, Tokens}
use Rattle.tt_data.specs.declared.leaf.IdentIsRaw.TheVariants as is_raw
use Rattle.tt_data.specs.declared.leaf.Leaf.TheVariants as as_leaf
use Rattle.tt_data.specs.declared.leaf.LitKind.TheVariants as form
use Rattle.tt_data.specs.declared.leaf.Spacing.{Spacing}
use Rattle.tt_data.specs.declared.leaf.Spacing.TheVariants.{Alone, Joint}
use Rattle.tt_data.specs.declared.span.Span.{Span}
use Rattle.tt_data.specs.declared.span.TextRange.{TextRange}
use Rattle.bridge.specs.declared.reading.outcome.ReadFault.{ReadFault}
use Rattle.bridge.specs.declared.reading.classify.TokenClass.{TokenClass}
use Rattle.bridge.specs.declared.reading.classify.TokenClass.TheVariants.{Name, Mark, QuotedName, Doc, Value}
use Rattle.bridge.specs.Reading.{IsFault, PlacedToken, TextStep, placed_from, step, walk_open, written_at}
use Rattle.bridge.specs.Text.{char}
use Rattle.bridge.specs.TokenSteps.{doc_text, escaped, is_mark, mark_leaf, name_in, name_leaf, class_of, steps_of_class}

-- ---- the trees that are added for one token

-- a lifetime: the quote at the first byte, and the name
abbrev pub quoted_name : List ℕ → TextRange → Forest
quoted_name text range =
    leaf (mark_leaf (char "'") Joint (written_at (record { start = range.start; «end» = range.start + 1 })))
    (leaf (name_leaf (drop 1 text) is_raw.No (written_at (record { start = range.start + 1; «end» = range.«end» }))) empty)

-- the puncts before the brackets of an attribute
abbrev pub doc_puncts : DocStyle → Span → Forest
doc_puncts Outer span = leaf (mark_leaf (char "#") Alone span) empty
doc_puncts Inner span = leaf (mark_leaf (char "#") Alone span) (leaf (mark_leaf (char "!") Alone span) empty)

-- the tokens inside the brackets
abbrev pub doc_inside : List ℕ → Span → Forest
doc_inside text span =
    leaf (name_leaf (codes "doc") is_raw.No span)
    (leaf (mark_leaf (char "=") Alone span)
    (leaf (as_leaf.Literal (literal_of (escaped text) [] form.Str span)) empty))

-- a doc comment as an attribute
abbrev pub doc_trees : DocStyle → List ℕ → Span → Forest
doc_trees style text span =
    joined (doc_puncts style span) (group (record { open_span = span; close_span = span; kind = Bracket }) (doc_inside text span) empty)

-- a punct is `Joint` before another punct
abbrev pub is_next_mark : Option TokenKind → Bool
is_next_mark None = false
is_next_mark (Some kind) = is_mark (class_of kind)

abbrev pub spacing_at : Option TokenKind → Spacing
spacing_at next = if is_next_mark next then Joint else Alone

abbrev pub first_kind : List PlacedToken → Option TokenKind
first_kind [] = None
first_kind (t ∷ more) = Some t.kind

-- what a token is read as, before a token of the next kind: nothing for a bracket
abbrev pub trees_of : TokenClass → List ℕ → TextRange → Option TokenKind → Forest
trees_of (Name raw) text range next = leaf (name_leaf (name_in raw text) raw (written_at range)) empty
trees_of (Mark c) text range next = leaf (mark_leaf c (spacing_at next) (written_at range)) empty
trees_of QuotedName text range next = quoted_name text range
trees_of (Doc style is_block) text range next = doc_trees style (doc_text is_block text) (written_at range)
trees_of (Value f at) text range next = leaf (as_leaf.Literal (literal_in f at text (written_at range))) empty
trees_of _ text range next = empty

-- ---- where the text of a token may be cut

-- a block comment has room for what it begins and ends with
abbrev pub EndsBlock : Bool → List ℕ → Type 0
EndsBlock false text = Unit {0}
EndsBlock true text = (5 ≤ length text) × IsCharBoundary text (length text - 2)

-- the text of a token of this class can be cut as the class needs
abbrev pub MayCut : TokenClass → List ℕ → Type 0
MayCut (Name is_raw.Yes) text = IsCharBoundary text 2
MayCut QuotedName text = IsCharBoundary text 1
MayCut (Doc style is_block) text = IsCharBoundary text 3 × EndsBlock is_block text
MayCut (Value f at) text = IsCharBoundary text at × IsLiteralToken f at text
MayCut _ text = Unit {0}

-- ---- what one token of a text is read as

-- a token at its offset in the text
abbrev pub token_at : List ℕ → ℕ → Token → PlacedToken
token_at text start t = record { kind = t.kind; start = start; text = take t.len (drop start text) }

-- what the token is read as, before the others
abbrev pub steps_at : List ℕ → ℕ → Token → List Token → List TextStep
steps_at text start t more =
    steps_of_class (class_of t.kind) (token_at text start t) (placed_from (start + t.len) (drop t.len (drop start text)) more)

-- ---- how a tree under construction changes

-- the events that it has so far
abbrev pub steps_in : Building → List TextStep
steps_in b = map step (walk_open b.groups b.here)

-- the events are added, or there is a fault among them
abbrev pub Takes : List TextStep → Building → Building → Option ReadFault → Type 0
Takes steps old new None = (steps_in new ≡ steps_in old ++ steps) × (new.top ≡ old.top)
Takes steps old new (Some fault) = (more : List TextStep) → IsFault (steps_in old ++ (steps ++ more)) fault

-- the innermost open group is of this kind, and a closing at this range has closed it
abbrev pub IsClosed : DelimiterKind → TextRange → Building → Building → Type 0
IsClosed kind range old new = (place : Span) × (innermost_group old.groups ≡ Some (kind, place)) × (new ≡ closed old (written_at range))

-- memory ran out, or there is no room for so many tokens
abbrev pub IsRefusal : ℕ → TtFault → Type 0
IsRefusal tokens e = (e ≡ Memory) ⊎ ((e ≡ Tokens) × (most_tokens < tokens))

-- a tree with these events added has more tokens than there is room for
pub record Overfills (steps : List TextStep) (old : Building) : Type 0 where
  pub full : Building
  pub adds : steps_in full ≡ steps_in old ++ steps
  pub many : most_tokens < count_of full

-- memory ran out, or there is no room for the tokens of these events
abbrev pub IsStepRefusal : List TextStep → Building → TtFault → Type 0
IsStepRefusal steps old e = (e ≡ Memory) ⊎ ((e ≡ Tokens) × Overfills steps old)
