-- Lists of trees that are one group.
use Rattle.std.specs.Prelude.{Bool, true, false}
use Rattle.tt_data.specs.declared.delimiter.DelimiterKind.{DelimiterKind}
use Rattle.tt_data.specs.declared.delimiter.DelimiterKind.TheVariants.{Invisible}
use Rattle.tt_data.specs.Forest.{Forest, empty, group}
use Rattle.tt_data.specs.Spans.{no_span}
use Rattle.tt.specs.Tops.{Top}

-- the group that a list of trees begins with; or, if it begins with none, the list in no brackets
abbrev pub group_in : Forest → Top
group_in (group d inner rest) = record { delimiter = d; inner = inner }
group_in f = record { delimiter = record { open_span = no_span; close_span = no_span; kind = Invisible }; inner = f }

-- whether a list of trees is one group
abbrev pub is_one_group : Forest → Bool
is_one_group (group d inner empty) = true
is_one_group f = false

-- the trees inside if the brackets are invisible, else the list
abbrev pub without_invisible : DelimiterKind → Forest → Forest → Forest
without_invisible Invisible inner f = inner
without_invisible kind inner f = f

-- the trees inside if a list of trees is one invisible group, else the list
abbrev pub stripped : Forest → Forest
stripped (group d inner empty) = without_invisible d.kind inner (group d inner empty)
stripped f = f
