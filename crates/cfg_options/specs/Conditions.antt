-- Conditional compilation: the value of a predicate, and what attributes keep. (The Rust Reference,
-- "Conditional compilation".)
use Rattle.std.specs.Prelude.{ℕ, zero, suc, Bool, true, false, ◌&&◌, ◌||◌, not, List, [], ◌∷◌, Option, Some, None, option_map, unwrap_or, codes, if◌then◌else◌}
use Rattle.std.specs.List.{list_all, list_any}
use Prim.Native.String.{String}
use Rattle.tt_data.specs.Forest.{Forest, empty, leaf, group, joined, size}
use Rattle.tt_data.specs.Literals.{LiteralParts}
use Rattle.tt_data.specs.declared.delimiter.DelimiterKind.TheVariants.{Parenthesis, Bracket}
use Rattle.tt_data.specs.declared.leaf.Ident.{Ident}
use Rattle.tt_data.specs.declared.leaf.Leaf.TheVariants as as_leaf
use Rattle.bridge.specs.tt.FirstTrees.{first_group, first_ident, first_punct}
use Rattle.bridge.specs.Text.{is_char, is_punct, same_kind}
use Rattle.small_grammar.specs.Text.{is_word, is_empty, is_raw_name, same_text, ◌>>=◌, ◌>>◌}
use Rattle.small_grammar.specs.Tokens.{is_among, path_words, reserved, words}

-- of two values that may be missing the first that is there
abbrev pub or_else : {X : Type 0} → Option X → Option X → Option X
or_else None y = y
or_else (Some x) y = Some x

-- which options are set: a name alone, or a name with a value
abbrev pub Options : Type 0
Options = List ℕ → Option (List ℕ) → Bool

-- trees cut at each comma, where `begun` came since the last one; one at the end cuts nothing off
abbrev pub cut_at_commas : Forest → Forest → List Forest
cut_at_commas empty empty = []
cut_at_commas empty begun = begun ∷ []
cut_at_commas (leaf l rest) begun =
    if is_punct "," l then begun ∷ cut_at_commas rest empty
    else cut_at_commas rest (joined begun (leaf l empty))
cut_at_commas (group d inner rest) begun = cut_at_commas rest (joined begun (group d inner empty))

-- the trees before the first comma
abbrev pub first_part : Forest → Forest
first_part empty = empty
first_part (leaf l rest) = if is_punct "," l then empty else leaf l (first_part rest)
first_part (group d inner rest) = group d inner (first_part rest)

-- the trees after it
abbrev pub after_part : Forest → Forest
after_part empty = empty
after_part (leaf l rest) = if is_punct "," l then rest else after_part rest
after_part (group d inner rest) = after_part rest

-- what is in the brackets of an outer attribute at the beginning, and what follows it
abbrev pub first_attribute : Forest → Option (Forest × Forest)
first_attribute f = do
  (p, after_pound) ← first_punct f
  is_char "#" p
  (d, inner, rest) ← first_group after_pound
  same_kind d.kind Bracket
  Some (inner, rest)

-- what follows the name with this text, raw or not, at the beginning
abbrev pub after_name : List ℕ → Forest → Option Forest
after_name text f = do
  (name, rest) ← first_ident f
  same_text name.sym text
  Some rest

-- what is in parentheses that are all of the trees
abbrev pub parenthesized : Forest → Option Forest
parenthesized f = do
  (d, inner, rest) ← first_group f
  same_kind d.kind Parenthesis && is_empty rest
  Some inner

-- what is in the parentheses after the name with this text, if nothing else is there
abbrev pub list_behind : List ℕ → Forest → Option Forest
list_behind text f = after_name text f >>= parenthesized

-- what is there between commas
abbrev pub listed : String → Forest → Option (List Forest)
listed word f = option_map (λ inner. cut_at_commas inner empty) (list_behind (codes word) f)

-- the values of all of these, if each has one
abbrev pub each_value : (Forest → Option Bool) → List Forest → Option (List Bool)
each_value value [] = Some []
each_value value (p ∷ ps) = do
  b ← value p
  bs ← each_value value ps
  Some (b ∷ bs)

-- the values of what is in the parentheses after this word, by `value`
abbrev pub listed_values : (Forest → Option Bool) → String → Forest → Option (List Bool)
listed_values value word f = listed word f >>= each_value value

-- of one value the other
abbrev pub negated : List Bool → Option Bool
negated (b ∷ []) = Some (not b)
negated _ = None

-- the words that later editions reserved: without an edition they are names
abbrev pub later_reserved : List (List ℕ)
later_reserved = words (codes "async await dyn try gen")

-- a name that an option can have: any but `_`, raw or not reserved
abbrev pub is_option_name : Ident → Bool
is_option_name name =
    not (same_text name.sym (codes "_"))
    && (if is_raw_name name then not (is_among path_words name.sym)
    else not (is_among reserved name.sym) || is_among later_reserved name.sym)

-- an option as it is written, where `text` is what a string literal stands for: a name, or a name,
-- `=` and a string
module _ (text : LiteralParts → Option (List ℕ)) where
  abbrev pub option_in : Forest → Option (List ℕ × Option (List ℕ))
  option_in (leaf (as_leaf.Ident name) empty) = is_option_name name >> Some (name.sym, None)
  option_in
      (leaf (as_leaf.Ident name) (leaf (as_leaf.Punct p) (leaf (as_leaf.Literal l) empty))) = do
        is_option_name name
        is_char "=" p
        value ← text l
        Some (name.sym, Some value)
  option_in _ = None

-- `true` or `false`
abbrev pub constant : Forest → Option Bool
constant (leaf (as_leaf.Ident name) empty) =
    if is_word "true" name then Some true else is_word "false" name >> Some false
constant _ = None

-- `options` are set; `text` is what a string literal stands for, and none of another literal
module _ (options : Options) (text : LiteralParts → Option (List ℕ)) where
  -- a constant, or whether an option is set
  abbrev pub option_value : Forest → Option Bool
  option_value p =
      or_else (constant p) (option_map (λ option. options option.0 option.1) (option_in text p))

  -- the value of a predicate, or none if it is no predicate; `n` bounds how deep lists nest
  abbrev pub value_within : ℕ → Forest → Option Bool
  value_within zero p = None
  value_within (suc n) p =
      or_else (option_value p)
      (or_else (option_map (list_all (λ b. b)) (listed_values (value_within n) "all" p))
      (or_else (option_map (list_any (λ b. b)) (listed_values (value_within n) "any" p))
      (listed_values (value_within n) "not" p >>= negated)))

  -- the value of a predicate: a list in it has fewer tokens, so its size is enough
  abbrev pub predicate_value : Forest → Option Bool
  predicate_value p = value_within (suc (size p)) p

  -- `cfg` keeps what its one predicate is true of; with anything else it keeps it
  abbrev pub cfg_keeps : Option (List Forest) → Bool
  cfg_keeps (Some (p ∷ [])) = unwrap_or (predicate_value p) true
  cfg_keeps _ = true

  -- `cfg_attr` stands for its attributes if its predicate is true, and for none else
  abbrev pub cfg_attr_keeps : (Forest → Bool) → Option (List Forest) → Bool
  cfg_attr_keeps keeps (Some (p ∷ attributes)) =
      not (unwrap_or (predicate_value p) false) || list_all keeps attributes
  cfg_attr_keeps keeps _ = true

  -- an attribute, by what is in its brackets, keeps what it stands at
  abbrev pub attribute_keeps : ℕ → Forest → Bool
  attribute_keeps zero a = true
  attribute_keeps (suc n) a =
      cfg_keeps (listed "cfg" a) && cfg_attr_keeps (attribute_keeps n) (listed "cfg_attr" a)

  -- each outer attribute at the beginning of a piece keeps it
  abbrev pub is_kept : Forest → Bool
  is_kept (leaf (as_leaf.Punct p) (group d inner rest)) =
      not (is_char "#" p && same_kind d.kind Bracket)
      || (attribute_keeps (suc (size inner)) inner && is_kept rest)
  is_kept _ = true
