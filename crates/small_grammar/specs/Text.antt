-- Definitions that all others share: options one after another, texts, kinds of brackets.
use Rattle.std.specs.Prelude.{ℕ, Bool, true, false, ◌&&◌, not, List, codes, Option, None, option_and_then, if◌then◌else◌}
use Rattle.std.specs.Str.{bytes_eq}
use Prim.Native.String.{String}
pub use Rattle.tt_data.specs.Delimiters.{same_kind}
use Rattle.tt_data.specs.Forest.{Forest, empty}
use Rattle.tt_data.specs.declared.leaf.Ident.{Ident}
use Rattle.tt_data.specs.declared.leaf.IdentIsRaw.{IdentIsRaw}
use Rattle.tt_data.specs.declared.leaf.IdentIsRaw.TheVariants as is_raw

-- one step after another; none if a step gives none
infixl 10 ◌>>=◌
abbrev pub ◌>>=◌ : {A B : Type 0} → Option A → (A → Option B) → Option B
o >>= f = option_and_then f o

-- the rest, if a test holds
infixl 10 ◌>>◌
abbrev pub ◌>>◌ : {B : Type 0} → Bool → Option B → Option B
test >> rest = if test then rest else None

-- no trees
abbrev pub is_empty : Forest → Bool
is_empty empty = true
is_empty _ = false

-- two texts are equal
abbrev pub same_text : List ℕ → List ℕ → Bool
same_text = bytes_eq

-- a name is written with `r#`
abbrev pub has_prefix : IdentIsRaw → Bool
has_prefix is_raw.No = false
has_prefix is_raw.Yes = true

-- an identifier written with `r#`
abbrev pub is_raw_name : Ident → Bool
is_raw_name i = has_prefix i.is_raw

-- the identifier has this text, and isn't raw
abbrev pub has_text : List ℕ → Ident → Bool
has_text word i = not (is_raw_name i) && same_text i.sym word

-- the identifier is this word, and isn't raw
abbrev pub is_word : String → Ident → Bool
is_word word i = has_text (codes word) i
