-- Definitions that all others share: texts, single characters, kinds of brackets.
use Rattle.std.specs.Prelude.{ℕ, Bool, true, false, ◌||◌, List, [], ◌∷◌, nat_eq, slice_index, codes}
use Rattle.std.specs.Str.{bytes_eq}
use Prim.Native.String.{String}
pub use Rattle.tt_data.specs.Delimiters.{same_kind}
use Rattle.tt_data.specs.declared.leaf.Ident.{Ident}
use Rattle.tt_data.specs.declared.leaf.Punct.{Punct}

-- two texts are equal
abbrev pub same_text : List ℕ → List ℕ → Bool
same_text = bytes_eq

-- the text is this word
abbrev pub is : String → List ℕ → Bool
is word text = same_text text (codes word)

-- the text is one of these
abbrev pub is_one_of : List (List ℕ) → List ℕ → Bool
is_one_of [] text = false
is_one_of (w ∷ ws) text = same_text text w || is_one_of ws text

-- `true` or `false`
abbrev pub is_truth : List ℕ → Bool
is_truth text = is "true" text || is "false" text

-- the identifier is this word; whether it is raw doesn't count
abbrev pub is_word : String → Ident → Bool
is_word word i = is word i.sym

-- the character is this one
abbrev pub is_character : String → ℕ → Bool
is_character written c = nat_eq c (slice_index (codes written) 0)

-- the punct is this character
abbrev pub is_char : String → Punct → Bool
is_char written p = is_character written p.char

-- the list is empty
abbrev pub is_nil : {A : Type 0} → List A → Bool
is_nil [] = true
is_nil _ = false
