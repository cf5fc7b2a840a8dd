-- Where a rule stops in a call. (The Rust Reference, "Tokens": a lifetime and an operator are one
-- token each; of this project: the ranges.)
use Rattle.std.specs.Prelude.{ℕ, zero, suc, ◌-◌, Bool, false, ◌&&◌, if◌then◌else◌, nat_le}
use Rattle.std.specs.Prelude.{Option, Some, None, is_some, option_and_then, option_map, unwrap_or}
use Rattle.tt.specs.Elements.{first_place}
use Rattle.tt.specs.FirstTrees.{first_group, first_ident}
use Rattle.tt.specs.Glued.{glued_count}
use Rattle.tt_data.specs.Forest.{Forest, empty, leaf, group}
use Rattle.tt_data.specs.declared.leaf.Leaf.TheVariants as as_leaf
use Rattle.tt_data.specs.declared.span.Span.{Span}
use Rattle.tt_data.specs.declared.span.TextRange.{TextRange}
use Rattle.mbe_rules.specs.Text.{is_char}
use Rattle.mbe_matcher.specs.Places.{place_of}
use Rattle.mbe_matcher.specs.Readings.{trees_here}
use Rattle.mbe_explain.specs.declared.rules.RuleStop.{RuleStop}
use Rattle.expander_model.specs.declared.call.Call.{Call}

-- a list begins with a lifetime: a quote and a name
abbrev pub begins_lifetime : Forest → Bool
begins_lifetime (leaf (as_leaf.Punct p) rest) = is_char "'" p && is_some (first_ident rest)
begins_lifetime _ = false

-- how many trees the lifetime or the operator has that a list begins with; another tree counts as
-- none
abbrev pub unit_trees : Forest → ℕ
unit_trees trees = if begins_lifetime trees then 2 else glued_count trees

-- the trees after the first one
abbrev pub after_first : Forest → Option Forest
after_first empty = None
after_first (leaf l rest) = Some rest
after_first (group d inner rest) = Some rest

-- where the tree behind so many others stands
abbrev pub place_behind : ℕ → Forest → Option Span
place_behind zero trees = first_place trees
place_behind (suc n) trees = option_and_then (place_behind n) (after_first trees)

-- where the last tree of the unit stands that a list begins with
abbrev pub unit_end : Forest → Option Span
unit_end trees = place_behind (unit_trees trees - 1) trees

-- from the beginning of one token to the end of another, if that is not before it
abbrev pub joined : Span → Option Span → TextRange
joined first None = first.range
joined first (Some last) = if nat_le first.range.start last.range.«end»
    then record { start = first.range.start; «end» = last.range.«end» } else first.range

-- the unit at which a rule stops; none at the end of the argument
abbrev pub unit_range : RuleStop → Option TextRange
unit_range s =
    option_map (λ at. joined at (unit_end (trees_here (place_of s.stop.place)))) s.stop.at

-- the closing bracket of a call
abbrev pub end_of : Call → TextRange
end_of call = unwrap_or (option_map (λ g. g.0.close_span.range) (first_group call.from_group))
    call.name.span.range

-- the unit of a call at which a rule stops, or the call's closing bracket
abbrev pub stop_range : Call → RuleStop → TextRange
stop_range call s = unwrap_or (unit_range s) (end_of call)
