-- The tokens that the rules ask for, by edition. (The Reference, "Keywords", "Tokens".)
use Rattle.std.specs.Prelude.{ℕ, Bool, true, false, ◌&&◌, ◌||◌, not, nat_lt, codes, List, Option, Some, None}
use Rattle.tt_data.specs.Editions.{year_of}
use Rattle.tt_data.specs.Forest.{Forest}
use Rattle.tt_data.specs.declared.delimiter.DelimiterKind.{DelimiterKind}
use Rattle.tt_data.specs.declared.delimiter.DelimiterKind.TheVariants.{Bracket}
use Rattle.tt_data.specs.declared.edition.Edition.{Edition}
use Rattle.tt_data.specs.declared.leaf.Ident.{Ident}
use Rattle.tt_data.specs.declared.leaf.LitKind.{LitKind}
use Rattle.tt_data.specs.declared.leaf.LitKind.TheVariants as lit_kind
use Rattle.tt.specs.FirstTrees.{first_ident}
use Rattle.small_grammar.specs.Text.{same_text, same_kind, is_raw_name, is_word, is_empty}
use Rattle.small_grammar.specs.Tokens as small

-- the edition is of an earlier year
abbrev pub is_before : Edition → ℕ → Bool
is_before edition year = nat_lt (year_of edition) year

-- words that edition 2018 reserves
abbrev pub is_of_2018 : List ℕ → Bool
is_of_2018 text =
    same_text text (codes "async")
    || (same_text text (codes "await") || (same_text text (codes "dyn") || same_text text (codes "try")))

-- words that are names in the edition, though a later one reserves them
abbrev pub is_not_yet_reserved : Edition → List ℕ → Bool
is_not_yet_reserved edition text =
    (is_before edition 2018 && is_of_2018 text) || (is_before edition 2024 && same_text text (codes "gen"))

-- words that the edition reserves
abbrev pub is_reserved : Edition → List ℕ → Bool
is_reserved edition text = small.is_among small.reserved text && not (is_not_yet_reserved edition text)

-- an identifier but `_` that is raw, or not reserved, or one of `self Self super crate`
abbrev pub is_name : Edition → Ident → Bool
is_name edition i =
    not (same_text i.sym (codes "_"))
    && (is_raw_name i || (not (is_reserved edition i.sym) || small.is_among small.path_words i.sym))

-- the literal is a C string
abbrev pub is_c_string : LitKind → Bool
is_c_string lit_kind.CStr = true
is_c_string (lit_kind.CStrRaw hashes) = true
is_c_string _ = false

-- one literal in the edition: before 2021 a C string is a name and a string
abbrev pub is_literal : Edition → LitKind → Bool
is_literal edition kind = not (is_before edition 2021 && is_c_string kind)

-- exactly the word `const`
abbrev pub is_lone_const : Option (Ident × Forest) → Bool
is_lone_const None = false
is_lone_const (Some (i, rest)) = is_empty rest && is_word "const" i

-- a bracket group of exactly `const`, as in the unstable bound `[const] Trait`
abbrev pub is_const_bracket : DelimiterKind → Forest → Bool
is_const_bracket kind inner = same_kind kind Bracket && is_lone_const (first_ident inner)

-- what a rule may ask for
pub data Token : Type 0 where
  -- a token that doesn't depend on the edition
  fixed : small.Token → Token
  a_name : Token
  a_literal : Token
  -- one of these operators, whose puncts are glued
  one_of : List (List ℕ) → Token
  a_const_bracket : Token

-- the trees after the token, or none if it does not fit
unfoldable pub token_at : Edition → Token → Forest → Option Forest
token_at edition (fixed t) f = small.token_at t f
token_at edition a_name f = small.ident_where (is_name edition) f
token_at edition a_literal f = small.literal_where (is_literal edition) f
token_at edition (one_of texts) f = small.operator_where (small.is_one_of_words texts) f
token_at edition a_const_bracket f = small.group_where is_const_bracket f
