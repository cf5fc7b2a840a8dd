-- What a piece begins with, behind its attributes and its visibility. (The Rust Reference,
-- "Modules", "Extern crate declarations".)
use Rattle.std.specs.Prelude.{◌&&◌, codes, Option, Some, None, unwrap_or, if◌then◌else◌}
use Rattle.expander_model.specs.Definitions.{after_attributes, after_pub, after_word, is_semicolon}
use Rattle.small_grammar.specs.Text.{◌>>=◌, ◌>>◌, is_empty, same_kind}
use Rattle.tt.specs.FirstTrees.{first_group, first_ident}
use Rattle.tt_data.specs.Forest.{Forest}
use Rattle.tt_data.specs.declared.delimiter.DelimiterKind.TheVariants.{Brace}
use Rattle.tt_data.specs.declared.leaf.Ident.{Ident}

-- what follows the attributes and the visibility of a piece
abbrev pub behind_visibility : Forest → Forest
behind_visibility piece = unwrap_or (after_pub (after_attributes piece)) (after_attributes piece)

-- the name behind `mod`, and what follows it
abbrev pub module_head : Forest → Option (Ident × Forest)
module_head piece = after_word (codes "mod") (behind_visibility piece) >>= first_ident

-- what is in braces that are all of the trees
abbrev pub braced : Forest → Option Forest
braced f = do
  (d, inner, rest) ← first_group f
  same_kind d.kind Brace && is_empty rest
  Some inner

-- the name behind `extern crate`, and what follows it
abbrev pub crate_head : Forest → Option (Ident × Forest)
crate_head piece = do
  behind ← after_word (codes "extern") (behind_visibility piece)
  after ← after_word (codes "crate") behind
  first_ident after

-- the other name that a crate has here, by what follows its name: none before a `;`
abbrev pub crate_alias : Forest → Option (Option Ident)
crate_alias rest = if is_semicolon rest then Some None else (do
  behind ← after_word (codes "as") rest
  (alias, end) ← first_ident behind
  is_semicolon end
  Some (Some alias))
