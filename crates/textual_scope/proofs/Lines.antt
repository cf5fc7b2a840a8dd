-- Lines as trees, for worked examples: words with spaces between them, each a token whose span
-- starts at its index.
use Rattle.std.proofs.Common.{ℕ, suc, Bool, List, [], ◌∷◌, ◌++◌, Option, Some, None, if◌then◌else◌}
use Rattle.std.specs.Prelude.{codes, nat_eq, nat_lt, ◌&&◌, ◌||◌}
use Prim.Native.String.{String}
use Rattle.tt_data.specs.Forest.{Forest, empty, leaf, group, joined}
use Rattle.tt_data.specs.Spans.{no_span}
use Rattle.tt_data.specs.Walk.{Step, at_leaf, opens, closes}
use Rattle.tt_data.specs.declared.delimiter.DelimiterKind.{DelimiterKind}
use Rattle.tt_data.specs.declared.delimiter.DelimiterKind.TheVariants.{Parenthesis, Brace, Bracket, Invisible}
use Rattle.tt_data.specs.declared.leaf.IdentIsRaw.TheVariants as is_raw
use Rattle.tt_data.specs.declared.leaf.Leaf.{Leaf}
use Rattle.tt_data.specs.declared.leaf.Leaf.TheVariants as as_leaf
use Rattle.tt_data.specs.declared.leaf.LitKind.TheVariants.{Str}
use Rattle.tt_data.specs.declared.leaf.Spacing.TheVariants.{Joint}
use Rattle.tt_data.specs.declared.span.Span.{Span}
use Rattle.small_grammar.specs.Text.{same_text}

-- the words so far, and the one that is begun, after one more character
abbrev with_char : ℕ → List (List ℕ) × List ℕ → List (List ℕ) × List ℕ
with_char c w = if nat_eq c 32 then (w.0 ++ w.1 ∷ [], []) else (w.0, w.1 ++ c ∷ [])

abbrev words_from : List (List ℕ) × List ℕ → List ℕ → List (List ℕ)
words_from w [] = w.0 ++ w.1 ∷ []
words_from w (c ∷ line) = words_from (with_char c w) line

abbrev pub words : String → List (List ℕ)
words line = words_from ([], []) (codes line)

abbrev at : ℕ → Span
at n = record no_span { range = record { start = n; «end» = suc n } }

-- names and numbers are identifiers, another character alone is a punct, and `'a` is the string "a"
abbrev is_letter : ℕ → Bool
is_letter c = (nat_lt 96 c && nat_lt c 123) || ((nat_lt 64 c && nat_lt c 91) || (nat_lt 47 c && nat_lt c 58))

abbrev word_leaf : ℕ → List ℕ → Leaf
word_leaf n (c ∷ []) =
    if is_letter c then as_leaf.Ident (record { sym = c ∷ []; span = at n; is_raw = is_raw.No })
    else as_leaf.Punct (record { char = c; spacing = Joint; span = at n })
word_leaf n (c ∷ word) =
    if nat_eq c 39 then as_leaf.Literal (record { text = word; suffix = []; kind = Str; span = at n })
    else as_leaf.Ident (record { sym = c ∷ word; span = at n; is_raw = is_raw.No })
word_leaf n [] = as_leaf.Ident (record { sym = []; span = at n; is_raw = is_raw.No })

-- brackets; `<|` and `|>` stand for invisible ones
abbrev kind_among : List (String × DelimiterKind) → List ℕ → Option DelimiterKind
kind_among [] word = None
kind_among (k ∷ ks) word = if same_text (codes k.0) word then Some k.1 else kind_among ks word

abbrev opening : List ℕ → Option DelimiterKind
opening = kind_among (("(", Parenthesis) ∷ ("{", Brace) ∷ ("[", Bracket) ∷ ("<|", Invisible) ∷ [])

abbrev closing : List ℕ → Option DelimiterKind
closing = kind_among ((")", Parenthesis) ∷ ("}", Brace) ∷ ("]", Bracket) ∷ ("|>", Invisible) ∷ [])

-- an open group: the index of its opening, and the trees before it
abbrev Open : Type 0
Open = ℕ × Forest

abbrev close : ℕ → DelimiterKind → Forest → List Open → Forest × List Open
close n kind here [] = (here, [])
close n kind here (o ∷ outer) = (joined o.1 (group (record { open_span = at o.0; close_span = at n; kind = kind }) here empty), outer)

abbrev with_token : ℕ → List ℕ → Option DelimiterKind → Option DelimiterKind → Forest × List Open → Forest × List Open
with_token n word (Some kind) _ t = (empty, (n, t.0) ∷ t.1)
with_token n word None (Some kind) t = close n kind t.0 t.1
with_token n word None None t = (joined t.0 (leaf (word_leaf n word) empty), t.1)

abbrev trees_from : ℕ → List (List ℕ) → Forest × List Open → Forest
trees_from n [] t = t.0
trees_from n (word ∷ more) t = trees_from (suc n) more (with_token n word (opening word) (closing word) t)

abbrev pub trees : String → Forest
trees line = trees_from 0 (words line) (empty, [])

-- the word of an event
abbrev bracket : DelimiterKind → String → String → String → String → List ℕ
bracket Parenthesis a b c d = codes a
bracket Brace a b c d = codes b
bracket Bracket a b c d = codes c
bracket Invisible a b c d = codes d

abbrev pub step_word : Step → List ℕ
step_word (at_leaf (as_leaf.Ident i)) = i.sym
step_word (at_leaf (as_leaf.Punct p)) = p.char ∷ []
step_word (at_leaf (as_leaf.Literal l)) = 39 ∷ l.text
step_word (opens kind span) = bracket kind "(" "{" "[" "<|"
step_word (closes kind span) = bracket kind ")" "}" "]" "|>"
