-- Pieces that are one item, and those that conditional compilation leaves out of a list. (The Rust
-- Reference, "Items" and "Conditional compilation".)
use Rattle.std.specs.Prelude.{ℕ, suc, ◌-◌, Bool, false, ◌&&◌, ◌||◌, not, List, [], ◌∷◌, Option, Some, option_map, unwrap_or, is_some, codes, nat_eq, if◌then◌else◌}
use Rattle.std.specs.List.{list_any}
use Prim.Native.String.{String}
use Rattle.tt_data.specs.Forest.{Forest, empty, leaf, group}
use Rattle.tt_data.specs.Literals.{LiteralParts}
use Rattle.tt_data.specs.declared.delimiter.DelimiterKind.TheVariants.{Brace}
use Rattle.tt_data.specs.declared.leaf.Leaf.{Leaf}
use Rattle.tt_data.specs.declared.leaf.Leaf.TheVariants as as_leaf
use Rattle.tt.specs.FirstTrees.{first_group, first_punct}
use Rattle.bridge.specs.Text.{is_punct, same_kind}
use Rattle.cfg_options.specs.small_grammar.Text.{is_empty, ◌>>=◌, ◌>>◌}
use Rattle.expander_model.specs.Calls.{is_colons}
use Rattle.expander_model.specs.CallSteps.{bare_call}
use Rattle.expander_model.specs.Definitions.{Definition, after_attributes, after_pub, after_word, definition_of, is_semicolon}
use Rattle.cfg_options.specs.Conditions.{Options, is_kept}

-- how many `<` are open after a leaf, where `arrow` says that a `-` is right before it
abbrev pub opened_after : ℕ → Bool → Leaf → ℕ
opened_after n arrow l =
    if is_punct "<" l then suc n else (if is_punct ">" l && not arrow then n - 1 else n)

-- a brace group ends the trees, and no `<` is open before it
abbrev pub ends_in_body : ℕ → Bool → Forest → Bool
ends_in_body n arrow empty = false
ends_in_body n arrow (leaf l rest) = ends_in_body (opened_after n arrow l) (is_punct "-" l) rest
ends_in_body n arrow (group d inner empty) = nat_eq n 0 && same_kind d.kind Brace
ends_in_body n arrow (group d inner rest) = ends_in_body n false rest

-- `;` is the last tree
abbrev pub ends_in_semicolon : Forest → Bool
ends_in_semicolon empty = false
ends_in_semicolon (leaf l empty) = is_punct ";" l
ends_in_semicolon (leaf l rest) = ends_in_semicolon rest
ends_in_semicolon (group d inner rest) = ends_in_semicolon rest

-- one of these words, not raw, is at the beginning
abbrev pub begins_with : List String → Forest → Bool
begins_with words f = list_any (λ word. is_some (after_word (codes word) f)) words

-- what follows the words that may be before `fn`, `trait`, `impl` or `mod`, and an ABI
abbrev pub after_qualifiers : Forest → Forest
after_qualifiers (leaf (as_leaf.Ident w) rest) =
    if begins_with ("const" ∷ "async" ∷ "unsafe" ∷ "safe" ∷ "auto" ∷ "extern" ∷ [])
    (leaf (as_leaf.Ident w) empty)
    then after_qualifiers rest else leaf (as_leaf.Ident w) rest
after_qualifiers (leaf (as_leaf.Literal l) rest) = after_qualifiers rest
after_qualifiers f = f

-- an item with a body, or without one and with `;`
abbrev pub is_bodied : Forest → Bool
is_bodied f =
    begins_with ("fn" ∷ "struct" ∷ "enum" ∷ "union" ∷ "trait" ∷ "impl" ∷ "mod" ∷ [])
    (after_qualifiers f)
    && (ends_in_body 0 false f || ends_in_semicolon f)

-- `extern { .. }`, perhaps with `unsafe` and an ABI
abbrev pub is_extern_block : Forest → Bool
is_extern_block f =
    begins_with ("extern" ∷ []) (unwrap_or (after_word (codes "unsafe") f) f)
    && ends_in_body 0 false (after_qualifiers f) && is_some (first_group (after_qualifiers f))

-- an item that `;` ends
abbrev pub is_short : Forest → Bool
is_short f =
    begins_with ("use" ∷ "static" ∷ "type" ∷ "const" ∷ "extern" ∷ []) f
    && ends_in_semicolon f

-- what follows a `::` at the beginning
abbrev pub behind_colons : Forest → Option Forest
behind_colons f = do
  (first, after_first) ← first_punct f
  (second, rest) ← first_punct after_first
  is_colons first second
  Some rest

-- what follows the names at the beginning that have a `::` after them
abbrev pub after_path : Forest → Forest
after_path
    (leaf (as_leaf.Ident name) (leaf (as_leaf.Punct first) (leaf (as_leaf.Punct second) rest))) =
    if is_colons first second then after_path rest
    else leaf (as_leaf.Ident name) (leaf (as_leaf.Punct first) (leaf (as_leaf.Punct second) rest))
after_path f = f

-- what follows a call with which the trees begin
abbrev pub after_call : Forest → Option Forest
after_call f = option_map (λ call. call.rest) (bare_call f)

-- nothing, or `;`
abbrev pub is_end : Forest → Bool
is_end f = is_empty f || is_semicolon f

-- a call behind the names of a path, and nothing else, or `;`
abbrev pub is_path_call : Forest → Bool
is_path_call f = unwrap_or (option_map is_end (after_call (after_path f))) false

-- such a call, or one with a `::` before it
abbrev pub is_whole_call : Forest → Bool
is_whole_call f = is_path_call (unwrap_or (behind_colons f) f)

-- the piece is one item and no more: an item that a brace group cuts in two is none
abbrev pub is_whole_item : Forest → Bool
is_whole_item piece =
    let rest : Forest = after_attributes piece in
    let f : Forest = unwrap_or (after_pub rest) rest in
    is_bodied f || (is_extern_block f || (is_short f || is_whole_call f))

-- ---- what is left out

module _ (options : Options) (text : LiteralParts → Option (List ℕ)) where
  -- the definition that a piece is, if it is kept
  abbrev pub definition_under : Forest → Option Definition
  definition_under piece = is_kept options text piece >> definition_of piece

  -- a piece that is not kept is left out if it is a definition, or in a list of items a whole item
  abbrev pub is_configured_out : Bool → Forest → Bool
  is_configured_out items piece =
      not (is_kept options text piece)
      && (is_some (definition_of piece) || (items && is_whole_item piece))
