-- Which steps are told of: all, or those of calls that are written within a range of the text.
use Rattle.std.specs.Prelude.{ℕ, zero, suc, Bool, true, ◌&&◌, List, [], ◌∷◌, ◌++◌}
use Rattle.std.specs.Prelude.{if◌then◌else◌, nat_le, Option, Some, None}
use Rattle.tt_data.specs.declared.span.Span.{Span}
use Rattle.tt_data.specs.declared.span.TextRange.{TextRange}
use Rattle.expander_trace.specs.Steps.{Step}
use Rattle.expander_trace.specs.declared.limits.Cut.{Cut}
use Rattle.expander_trace.specs.declared.limits.Cut.TheVariants.{Definitions}

-- a name begins within a range, or at its end
abbrev pub begins_in : Option TextRange → Span → Bool
begins_in None name = true
begins_in (Some r) name = nat_le r.start name.range.start && nat_le name.range.start r.«end»

-- a step is told of: a call of the text if its name is in the range; one in what a call gives if
-- the step before it is
abbrev pub is_told : Option TextRange → Bool → ℕ → Span → Bool
is_told asked last zero name = begins_in asked name
is_told asked last (suc level) name = last

abbrev pub is_asked : {D : Type 0} → Option TextRange → Bool → Step D → Bool
is_asked asked last s = is_told asked last s.level s.name

-- the steps that are told of, behind one that is or is not
abbrev pub asked_steps : {D : Type 0} → Option TextRange → Bool → List (Step D) → List (Step D)
asked_steps asked last [] = []
asked_steps asked last (s ∷ ss) =
    (if is_asked asked last s then s ∷ [] else []) ++ asked_steps asked (is_asked asked last s) ss

-- the last of these steps is told of
abbrev pub ends_asked : {D : Type 0} → Option TextRange → Bool → List (Step D) → Bool
ends_asked asked last [] = last
ends_asked asked last (s ∷ ss) = ends_asked asked (is_asked asked last s) ss

-- it is told why there are no more: always where a limit is passed, and else behind a step that is
-- told of
abbrev pub is_cut_told : Bool → Cut → Bool
is_cut_told last Definitions = last
is_cut_told last _ = true
