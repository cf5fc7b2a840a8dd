-- Worked examples of strings and of attributes that are not read, by computation.
use Rattle.std.proofs.Common.{◌≡◌, ℕ, false, List, [], ◌∷◌, ◌++◌, Option, Some, None, codes, refl}
use Rattle.std.specs.Prelude.{encode_utf8}
use Prim.Native.String.{String}
use Rattle.tt_data.specs.Forest.{Forest, empty, leaf, group}
use Rattle.tt_data.specs.Spans.{no_span}
use Rattle.tt_data.specs.Literals.{LiteralParts}
use Rattle.tt_data.specs.declared.delimiter.DelimiterKind.{DelimiterKind}
use Rattle.tt_data.specs.declared.delimiter.DelimiterKind.TheVariants.{Parenthesis, Bracket}
use Rattle.tt_data.specs.declared.leaf.IdentIsRaw.TheVariants as is_raw
use Rattle.tt_data.specs.declared.leaf.Leaf.TheVariants as as_leaf
use Rattle.tt_data.specs.declared.leaf.LitKind.{LitKind}
use Rattle.tt_data.specs.declared.leaf.LitKind.TheVariants.{ByteStr, CStr, Integer, Str, StrRaw}
use Rattle.tt_data.specs.declared.leaf.Spacing.TheVariants.{Alone}
use Rattle.tt_data.specs.declared.span.Span.{Span}
use Rattle.cfg_options.specs.Conditions.{Options}
use Rattle.cfg_options.specs.Misread.{misread}
use Rattle.cfg_options.specs.Strings.{string_text}

-- ---- strings

abbrev literal : LitKind → List ℕ → LiteralParts
literal kind text = record { text = text; suffix = []; kind = kind; span = no_span }

abbrev str : String → Option (List ℕ)
str text = string_text (literal Str (codes text))

no_escape : str "linux" ≡ Some (codes "linux")
no_escape = refl

short_escapes : str "\\n\\r\\t\\0\\\\\\'\\\"" ≡ Some (10 ∷ 13 ∷ 9 ∷ 0 ∷ 92 ∷ 39 ∷ 34 ∷ [])
short_escapes = refl

bytes_of_two_digits : str "l\\x69nux\\x7f" ≡ Some (codes "linux" ++ (127 ∷ []))
bytes_of_two_digits = refl

no_byte_above : str "\\x80" ≡ None
no_byte_above = refl

one_digit : str "\\x4" ≡ None
one_digit = refl

characters : str "\\u{41}\\u{e9}\\u{1_F_600_}" ≡ Some (encode_utf8 65 ++ (encode_utf8 233 ++ (encode_utf8 128512 ++ [])))
characters = refl

seven_digits : str "\\u{0000041}" ≡ None
seven_digits = refl

no_digit : str "\\u{}" ≡ None
no_digit = refl

underscore_first : str "\\u{_1}" ≡ None
underscore_first = refl

a_surrogate : str "\\u{d800}" ≡ None
a_surrogate = refl

too_large : str "\\u{110000}" ≡ None
too_large = refl

another_escape : str "\\q" ≡ None
another_escape = refl

-- a backslash, a line end, blanks with another line end
continued : string_text (literal Str (codes "a\\" ++ (13 ∷ 10 ∷ 32 ∷ 10 ∷ 9 ∷ 98 ∷ []))) ≡ Some (codes "ab")
continued = refl

line_ends : string_text (literal Str (97 ∷ 13 ∷ 10 ∷ 98 ∷ [])) ≡ Some (97 ∷ 10 ∷ 98 ∷ [])
line_ends = refl

a_bare_return : string_text (literal Str (97 ∷ 13 ∷ 98 ∷ [])) ≡ None
a_bare_return = refl

raw_strings : string_text (literal (StrRaw 1) (codes "a\\n\"")) ≡ Some (codes "a\\n\"")
raw_strings = refl

no_other_literals : string_text (literal ByteStr (codes "a")) ≡ None
no_other_literals = refl

no_c_strings : string_text (literal CStr (codes "a")) ≡ None
no_c_strings = refl

no_numbers : string_text (literal Integer (codes "1")) ≡ None
no_numbers = refl

no_suffixes : string_text (record { text = codes "a"; suffix = codes "b"; kind = Str; span = no_span }) ≡ None
no_suffixes = refl

-- ---- attributes that are not read

-- no option is set
abbrev options : Options
options name value = false

-- a span that starts at its index
abbrev at : ℕ → Span
at n = record no_span { range = record { start = n; «end» = n } }

abbrev name : ℕ → String → Forest → Forest
name n text rest = leaf (as_leaf.Ident (record { sym = codes text; span = at n; is_raw = is_raw.No })) rest

abbrev mark : ℕ → Forest → Forest
mark c rest = leaf (as_leaf.Punct (record { char = c; spacing = Alone; span = no_span })) rest

abbrev inside : DelimiterKind → Forest → Forest → Forest
inside kind f rest = group (record { open_span = no_span; close_span = no_span; kind = kind }) f rest

-- `#[..]`
abbrev attribute : Forest → Forest → Forest
attribute f rest = mark 35 (inside Bracket f rest)

-- `name(..)`
abbrev call : ℕ → String → Forest → Forest
call n text f = name n text (inside Parenthesis f empty)

abbrev found : Forest → Option Span
found = misread options string_text

a_predicate : found (attribute (call 1 "cfg" (name 2 "a" empty)) empty) ≡ None
a_predicate = refl

nothing_inside : found (attribute (call 1 "cfg" empty) empty) ≡ Some (at 1)
nothing_inside = refl

no_list : found (attribute (name 1 "x" empty) (attribute (name 3 "cfg" empty) empty)) ≡ Some (at 3)
no_list = refl

two_predicates : found (attribute (call 1 "cfg" (name 2 "a" (mark 44 (name 4 "b" empty)))) empty) ≡ Some (at 1)
two_predicates = refl

another_path : found (attribute (name 1 "cfg" (mark 58 (mark 58 (name 4 "b" empty)))) empty) ≡ None
another_path = refl

-- `#[cfg_attr(not(a), cfg())]`, and with a predicate that is false
inside_attributes : found (attribute (call 1 "cfg_attr" (name 2 "not" (inside Parenthesis (name 3 "a" empty) (mark 44 (call 5 "cfg" empty))))) empty) ≡ Some (at 5)
inside_attributes = refl

not_inside_others : found (attribute (call 1 "cfg_attr" (name 2 "a" (mark 44 (call 5 "cfg" empty)))) empty) ≡ None
not_inside_others = refl
