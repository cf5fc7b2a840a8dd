-- Lines that tell of the rule that a call goes by. (Of this project.)
use Rattle.std.specs.Prelude.{ℕ, List, [], ◌∷◌, ◌++◌, Option, Some, None, chars, codes, decimal}
use Rattle.std.specs.Prelude.{flat_map, option_and_then}
use Rattle.tt.specs.Elements.{first_place}
use Rattle.tt_data.specs.Forest.{Forest}
use Rattle.tt_data.specs.declared.span.Span.{Span}
use Rattle.mbe_explain.specs.Words.{specifier}
use Rattle.mbe_rules.specs.declared.parser.MetaVarKind.{MetaVarKind}
use Rattle.rule_bindings.specs.BoundRules.{BoundRule}
use Rattle.rule_bindings.specs.BoundValues.{BoundValue}
use Rattle.step_report.specs.Bound.{told_number}
use Rattle.step_report.specs.Layout.{beside, indent}
use Rattle.step_report.specs.Notes.{note_lines}
use Rattle.step_report.specs.Places.{place}
use Rattle.step_report.specs.Shown.{shown, shown_trees}
use Rattle.step_report.specs.Texts.{Named}

-- the number of an iteration inside of another
abbrev pub dotted : ℕ → List ℕ
dotted n = codes "." ++ decimal (told_number n)

-- the numbers of iterations, as ` #2.1`
abbrev pub iteration_words : List ℕ → List ℕ
iteration_words [] = []
iteration_words (n ∷ ns) = codes " #" ++ (decimal (told_number n) ++ flat_map dotted ns)

-- the kind of a fragment, as `:expr`
abbrev pub kind_words : Option (MetaVarKind × Forest) → List ℕ
kind_words None = []
kind_words (Some f) = codes ":" ++ specifier f.0

-- a metavariable, as `$x:expr #2.1`
abbrev pub label : BoundValue → List ℕ
label v =
    codes "$" ++ (shown (chars v.name) ++ (kind_words v.fragment ++ iteration_words v.iterations))

-- what it stands for
abbrev pub fragment_words : Option (MetaVarKind × Forest) → List ℕ
fragment_words None = codes " no iteration"
fragment_words (Some f) = codes " " ++ shown_trees f.1

-- what is told before the place
abbrev pub value_left : ℕ → BoundValue → List ℕ
value_left level v = codes "       " ++ (indent level ++ (label v ++ fragment_words v.fragment))

-- where the first token of a fragment is, if it has one
abbrev pub first_span : Option (MetaVarKind × Forest) → Option Span
first_span f = option_and_then (λ g. first_place g.1) f

-- a line: what is left, and a place beside it, if there is one
abbrev pub located : Named → List ℕ → Option Span → List ℕ
located t left None = left ++ (10 ∷ [])
located t left (Some s) = beside left (place t s)

-- the line of what a metavariable stands for in one iteration
abbrev pub value_line : Named → ℕ → BoundValue → List ℕ
value_line t level v = located t (value_left level v) (first_span v.fragment)

-- the lines of what is told of a rule: what all do, and the notes
abbrev pub rule_lines : Named → ℕ → BoundRule → List ℕ
rule_lines t level b = flat_map (value_line t level) b.values ++ note_lines level b.notes

abbrev pub bound_lines : Named → ℕ → Option BoundRule → List ℕ
bound_lines t level None = []
bound_lines t level (Some b) = rule_lines t level b
