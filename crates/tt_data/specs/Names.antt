-- Names as they are written: a raw one has `r#` before it.
use Rattle.std.specs.Prelude.{ℕ, List, [], codes, drop, nat_eq, if◌then◌else◌}
use Rattle.std.specs.List.{starts_with}
use Rattle.tt_data.specs.declared.span.Span.{Span}
use Rattle.tt_data.specs.declared.leaf.Ident.{Ident}
use Rattle.tt_data.specs.declared.leaf.IdentIsRaw.{IdentIsRaw}
use Rattle.tt_data.specs.declared.leaf.IdentIsRaw.TheVariants as is_raw

-- what is written before a name
abbrev pub prefix_of : IdentIsRaw → List ℕ
prefix_of is_raw.No = []
prefix_of is_raw.Yes = codes "r#"

-- whether a written name is raw
abbrev pub rawness : List ℕ → IdentIsRaw
rawness text = if starts_with nat_eq text (codes "r#") then is_raw.Yes else is_raw.No

-- a written name without its `r#`
abbrev pub bare_name : List ℕ → List ℕ
bare_name text = if starts_with nat_eq text (codes "r#") then drop 2 text else text

-- the identifier that is written so
abbrev pub ident_of : List ℕ → Span → Ident
ident_of text span = record { sym = bare_name text; span = span; is_raw = rawness text }
