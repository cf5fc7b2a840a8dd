-- Worked examples, by computation: `a(,b)`.
use Rattle.std.proofs.Common.{◌≡◌, ℕ, ◌+◌, List, refl, codes}
use Rattle.tt_data.specs.declared.span.Span.{Span}
use Rattle.tt_data.specs.declared.span.SyntaxContext.TheVariants.{Written}
use Rattle.tt_data.specs.declared.delimiter.DelimiterKind.TheVariants.{Parenthesis}
use Rattle.tt_data.specs.declared.leaf.Leaf.{Leaf}
use Rattle.tt_data.specs.declared.leaf.Leaf.TheVariants as as_leaf
use Rattle.tt_data.specs.declared.leaf.Spacing.TheVariants.{Alone}
use Rattle.tt_data.specs.Forest.{Forest, empty, leaf, group}
use Rattle.tt_data.specs.Names.{ident_of}
use Rattle.tt_tests.specs.Walks.{leaf_count}

-- one byte of the text, as it was written
abbrev at : ℕ → Span
at n = record { range = record { start = n; «end» = n + 1 }; anchor = 0; ctx = Written }

abbrev name : List ℕ → ℕ → Leaf
name text n = as_leaf.Ident (ident_of text (at n))

abbrev comma : ℕ → Leaf
comma n = as_leaf.Punct (record { char = 44; spacing = Alone; span = at n })

abbrev trees : Forest
trees =
    leaf (name (codes "a") 0)
    (group (record { open_span = at 1; close_span = at 4; kind = Parenthesis }) (leaf (comma 2) (leaf (name (codes "b") 3) empty)) empty)

-- a group is no leaf, what it has inside is
leaves_row : leaf_count trees ≡ 3
leaves_row = refl

no_leaves_row : leaf_count empty ≡ 0
no_leaves_row = refl
