-- When two separators are alike: they are of one sort and have the same text, and literals the
-- same suffix; spans, spacing, rawness and the forms of literals don't count.
use Rattle.std.specs.Prelude.{ℕ, Bool, ◌&&◌, ◌==◌, List, []}
use Rattle.std.specs.Str.{bytes_eq}
use Rattle.tt.specs.Glued.{characters}
use Rattle.mbe_rules.specs.declared.parser.Separator.{Separator}
use Rattle.mbe_rules.specs.declared.parser.Separator.TheVariants as separator

-- the number of a separator's sort
abbrev pub sort_of : Separator → ℕ
sort_of (separator.Literal l) = 0
sort_of (separator.Ident i) = 1
sort_of (separator.Lifetime p i) = 2
sort_of (separator.Puncts ps) = 3

-- its text: that of the name for a lifetime
abbrev pub text_between : Separator → List ℕ
text_between (separator.Literal l) = l.text
text_between (separator.Ident i) = i.sym
text_between (separator.Lifetime p i) = i.sym
text_between (separator.Puncts ps) = characters ps.items

-- its suffix, which only a literal has
abbrev pub suffix_between : Separator → List ℕ
suffix_between (separator.Literal l) = l.suffix
suffix_between _ = []

-- the two separators are alike
abbrev pub same_separator : Separator → Separator → Bool
same_separator a b = (sort_of a == sort_of b) && (bytes_eq (text_between a) (text_between b) && bytes_eq (suffix_between a) (suffix_between b))
