-- Trees as they are written, for the worked examples alone: identifiers, numbers with a suffix,
-- strings without escapes, brackets, and puncts. A punct is joint if another follows directly, and
-- a quote always is.
use Rattle.std.proofs.Common.{ℕ, suc, zero, ◌+◌, Bool, true, false, List, [], ◌∷◌, length, take, drop, codes, ◌&&◌, ◌||◌, not, nat_eq, nat_le, if◌then◌else◌}
use Rattle.std.specs.Prelude.{slice_index}
use Rattle.std.specs.List.{prefix_len, list_any, starts_with}
use Prim.Native.String.{String}
use Rattle.tt_data.specs.Forest.{Forest, empty, leaf, group}
use Rattle.tt_data.specs.Names.{ident_of}
use Rattle.tt_data.specs.Spans.{no_span}
use Rattle.tt_data.specs.declared.delimiter.DelimiterKind.{DelimiterKind}
use Rattle.tt_data.specs.declared.delimiter.DelimiterKind.TheVariants.{Parenthesis, Brace, Bracket}
use Rattle.tt_data.specs.declared.leaf.Leaf.{Leaf}
use Rattle.tt_data.specs.declared.leaf.Leaf.TheVariants as as_leaf
use Rattle.tt_data.specs.declared.leaf.LitKind.TheVariants.{Integer, Str}
use Rattle.tt_data.specs.declared.leaf.Spacing.TheVariants.{Alone, Joint}

abbrev is_of : String → ℕ → Bool
is_of cs c = list_any (nat_eq c) (codes cs)

abbrev is_digit : ℕ → Bool
is_digit c = nat_le 48 c && nat_le c 57

abbrev is_letter : ℕ → Bool
is_letter c = (nat_le 97 c && nat_le c 122) || ((nat_le 65 c && nat_le c 90) || is_of "_" c)

abbrev is_inside : ℕ → Bool
is_inside c = is_letter c || is_digit c

-- how many characters a word takes, a number without its suffix, its suffix, and a string between its quotes
abbrev word_size : List ℕ → ℕ
word_size cs = if starts_with nat_eq cs (codes "r#") then 2 + prefix_len is_inside (drop 2 cs) else prefix_len is_inside cs

abbrev digits_size : List ℕ → ℕ
digits_size cs = prefix_len is_digit cs

abbrev suffix_size : List ℕ → ℕ
suffix_size cs = prefix_len is_inside (drop (digits_size cs) cs)

abbrev string_size : List ℕ → ℕ
string_size cs = prefix_len (λ c. not (nat_eq c 34)) cs

abbrev pub word_of : List ℕ → Leaf
word_of text = as_leaf.Ident (ident_of text no_span)

abbrev pub number_of : List ℕ → List ℕ → Leaf
number_of text suffix = as_leaf.Literal (record { text = text; suffix = suffix; kind = Integer; span = no_span })

abbrev string_of : List ℕ → Leaf
string_of text = as_leaf.Literal (record { text = text; suffix = []; kind = Str; span = no_span })

abbrev punct_of : List ℕ → Leaf
punct_of cs =
    as_leaf.Punct (record {
      char = slice_index cs 0;
      spacing = if is_of "!#$%&*+,-./:;<=>?@^|~" (slice_index (drop 1 cs) 0) || is_of "'" (slice_index cs 0) then Joint else Alone;
      span = no_span;
    })

abbrev kind_of : ℕ → DelimiterKind
kind_of c = if is_of "(" c then Parenthesis else if is_of "{" c then Brace else Bracket

-- the leaf that begins with this character, and how many characters it takes; a string takes its quotes besides
abbrev leaf_at : ℕ → List ℕ → Leaf × ℕ
leaf_at c cs =
    if is_letter c then (word_of (take (word_size cs) cs), word_size cs)
    else if is_digit c then
    (number_of (take (digits_size cs) cs) (take (suffix_size cs) (drop (digits_size cs) cs)), digits_size cs + suffix_size cs)
    else if is_of "\"" c then (string_of (take (string_size (drop 1 cs)) (drop 1 cs)), 2 + string_size (drop 1 cs))
    else (punct_of cs, 1)

-- the trees up to a closing bracket, and the characters after it
abbrev read : ℕ → List ℕ → Forest × List ℕ
read zero cs = (empty, cs)
read (suc n) [] = (empty, [])
read (suc n) (c ∷ cs) =
    elim (is_of " " c) [
      | true ↦ read n cs
      | false ↦
          elim (is_of ")}]" c) [
            | true ↦ (empty, cs)
            | false ↦
                elim (is_of "({[" c) [
                  | true ↦
                      let inner : Forest × List ℕ = read n cs in
                      let rest : Forest × List ℕ = read n inner.1 in
                      (group (record { open_span = no_span; close_span = no_span; kind = kind_of c }) inner.0 rest.0, rest.1)
                  | false ↦
                      let first : Leaf × ℕ = leaf_at c (c ∷ cs) in
                      let rest : Forest × List ℕ = read n (drop first.1 (c ∷ cs)) in
                      (leaf first.0 rest.0, rest.1)
                ]
          ]
    ]

-- the trees of this text
abbrev pub trees : String → Forest
trees text = (read (suc (length (codes text))) (codes text)).0
