-- The names that a `use` brings. (The Rust Reference, "Use declarations".)
use Rattle.std.specs.Prelude.{ℕ, zero, suc, Bool, ◌&&◌, ◌||◌, not, List, [], ◌∷◌, ◌++◌, codes}
use Rattle.std.specs.Prelude.{flat_map, length, Option, Some, None, is_some, unwrap_or}
use Rattle.std.specs.Prelude.{if◌then◌else◌, ◌==◌, ◌-◌, get_or}
use Rattle.bridge.specs.Text.{is_char}
use Rattle.cfg_options.specs.Conditions.{cut_at_commas, or_else}
use Rattle.crate_items.specs.Heads.{behind_visibility, braced}
use Rattle.expander_model.specs.Definitions.{after_attributes, after_pub, after_word, is_semicolon}
use Rattle.small_grammar.specs.Text.{◌>>=◌, ◌>>◌, has_text, is_empty, same_text}
use Rattle.tt.specs.FirstTrees.{first_ident, first_punct}
use Rattle.tt_data.specs.Forest.{Forest, empty}
use Rattle.tt_data.specs.declared.leaf.Ident.{Ident}
use Rattle.tt_data.specs.declared.span.TextRange.{TextRange}

-- a name from elsewhere: its path, whether that begins with `::`, the name that it has here (none:
-- all names of the path), whether it is seen outside the module, and where its last name is
pub record Import : Type 0 where
  pub path : List (List ℕ)
  pub is_global : Bool
  pub name : Option (List ℕ)
  pub is_public : Bool
  pub range : TextRange

-- a `use`: whether its path begins with `::`, and whether it is seen outside the module
pub record Use : Type 0 where
  pub is_global : Bool
  pub is_public : Bool

-- nothing, or the `;` at the end
abbrev pub is_end : Forest → Bool
is_end f = is_empty f || is_semicolon f

-- what follows `::` at the beginning
abbrev pub after_colons : Forest → Option Forest
after_colons f = do
  (p, after) ← first_punct f
  is_char ":" p
  (q, behind) ← first_punct after
  is_char ":" q
  Some behind

-- a name that `::` follows, and what follows that
abbrev pub first_segment : Forest → Option (Ident × Forest)
first_segment f = do
  (name, rest) ← first_ident f
  behind ← after_colons rest
  Some (name, behind)

-- the last name of a path
abbrev pub last_of : List (List ℕ) → List ℕ
last_of path = get_or path (length path - 1) []

-- the path with a name: `self` behind other names stands for these
abbrev pub with_name : List (List ℕ) → Ident → List (List ℕ)
with_name path name =
    if has_text (codes "self") name && not (length path == 0) then path else path ++ name.sym ∷ []

-- the other name that follows: none at the end
abbrev pub use_alias : Forest → Option (Option Ident)
use_alias rest = if is_end rest then Some None else (do
  behind ← after_word (codes "as") rest
  (alias, last) ← first_ident behind
  is_end last
  Some (Some alias))

module _ (u : Use) where
  -- all names of a path, by `*`
  abbrev pub all_of : List (List ℕ) → Forest → Option Import
  all_of path f = do
    (p, rest) ← first_punct f
    is_char "*" p
    is_end rest
    Some (record {
      path = path;
      is_global = u.is_global;
      name = None;
      is_public = u.is_public;
      range = p.span.range;
    })

  -- the name at the end of a path, under this name
  abbrev pub import_as : List (List ℕ) → Ident → List ℕ → Import
  import_as path name shown = record {
    path = path;
    is_global = u.is_global;
    name = Some shown;
    is_public = u.is_public;
    range = name.span.range;
  }

  -- under its own name, or under another: `_` is none
  abbrev pub import_at : List (List ℕ) → Ident → Option Ident → Option Import
  import_at path name None = Some (import_as path name (last_of path))
  import_at path name (Some alias) =
      not (same_text alias.sym (codes "_")) >> Some (import_as path name alias.sym)

  -- a name, with another or without
  abbrev pub one_of : List (List ℕ) → Forest → Option Import
  one_of path f = do
    (name, rest) ← first_ident f
    alias ← use_alias rest
    import_at (with_name path name) name alias

  -- one name, or all
  abbrev pub import_in : List (List ℕ) → Forest → Option Import
  import_in path f = or_else (all_of path f) (one_of path f)

  -- a list of what is there
  abbrev pub as_list : Option Import → List Import
  as_list None = []
  as_list (Some i) = i ∷ []

  -- the names of the trees in braces, or of a path that ends here
  abbrev pub tree_end : (List (List ℕ) → Forest → List Import) → List (List ℕ) → Forest
      → Option Forest → List Import
  tree_end below path f None = as_list (import_in path f)
  tree_end below path f (Some inner) = flat_map (below path) (cut_at_commas inner empty)

  -- the names behind a first one, or of what ends here
  abbrev pub tree_step : (List (List ℕ) → Forest → List Import) → List (List ℕ) → Forest
      → Option (Ident × Forest) → List Import
  tree_step below path f None = tree_end below path f (braced f)
  tree_step below path f (Some s) = below (path ++ s.0.sym ∷ []) s.1

  -- the names that a tree brings, behind the names of a path: names and braces that follow one
  -- another are read so many levels deep
  unfoldable pub tree_imports : ℕ → List (List ℕ) → Forest → List Import
  tree_imports zero path f = []
  tree_imports (suc n) path f = tree_step (tree_imports n) path f (first_segment f)

-- the names of what follows a `use`: 64 names and braces may follow one another
abbrev pub behind_use : Bool → Option Forest → List Import
behind_use is_public None = []
behind_use is_public (Some f) =
    tree_imports (record { is_global = is_some (after_colons f); is_public = is_public }) 64 []
    (unwrap_or (after_colons f) f)

-- the names that a piece brings
abbrev pub imports_of : Forest → List Import
imports_of piece =
    behind_use (is_some (after_pub (after_attributes piece)))
    (after_word (codes "use") (behind_visibility piece))
