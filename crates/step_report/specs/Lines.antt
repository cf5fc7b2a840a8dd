-- Lines that tell of steps. (Of this project.)
use Rattle.std.specs.Prelude.{ℕ, zero, suc, ◌+◌, Bool, List, [], ◌∷◌, ◌++◌, Option, Some, None}
use Rattle.std.specs.Prelude.{Result, Ok, Err, chars, codes, decimal, flat_map, if◌then◌else◌}
use Rattle.std.specs.Prelude.{is_some, not}
use Rattle.tt_data.specs.Forest.{Forest}
use Rattle.tt_data.specs.declared.span.TextRange.{TextRange}
use Rattle.expander_model.specs.declared.fault.FaultKind.{FaultKind}
use Rattle.expander_model.specs.declared.fault.FaultKind.TheVariants as kinds
use Rattle.expander_trace.specs.Parts.{Part}
use Rattle.expander_trace.specs.Steps.{Attempt, Step}
use Rattle.expander_trace.specs.declared.limits.Cut.{Cut}
use Rattle.expander_trace.specs.declared.limits.Cut.TheVariants as cuts
use Rattle.step_report.specs.Asked.{asked_steps, ends_asked, is_cut_told}
use Rattle.step_report.specs.Bound.{Context, attempt_bound}
use Rattle.step_report.specs.BoundLines.{bound_lines}
use Rattle.step_report.specs.Layout.{beside, head, indent}
use Rattle.step_report.specs.Places.{name_in, place}
use Rattle.step_report.specs.Shown.{shown, shown_trees}
use Rattle.step_report.specs.Texts.{Named}

-- ---- calls

-- why a call stays whose name finds nothing
abbrev pub why_unknown : List ℕ
why_unknown = codes "no definition of this macro is known here"

-- why a call stays for a fault
abbrev pub stay_words : FaultKind → List ℕ
stay_words kinds.CannotExpand = codes "no rule matches"
stay_words kinds.BrokenDefinition = codes "the definition is invalid"
stay_words kinds.RecursionLimit = codes "no level is left"
stay_words _ = codes "it is not expanded"

-- the rule that gives something, or why a call stays
abbrev pub outcome_words : Result (ℕ × Forest) FaultKind → List ℕ
outcome_words (Ok given) = codes "rule " ++ (decimal (given.0 + 1) ++ codes " of ")
outcome_words (Err kind) = codes "stays: " ++ (stay_words kind ++ codes ": ")

-- that, and the definition
abbrev pub given_words : Named → Forest → Result (ℕ × Forest) FaultKind → List ℕ
given_words t piece given = outcome_words given ++ name_in t piece

-- the line of what a call gives: `= tokens`
abbrev pub result_line : ℕ → Result (ℕ × Forest) FaultKind → List ℕ
result_line level (Ok given) =
    codes "     " ++ (indent level ++ (codes "= " ++ (shown_trees given.1 ++ (10 ∷ []))))
result_line level (Err kind) = []

-- the lines of a call of a definition: the call, what metavariables stand for, the notes, what the
-- call gives
abbrev pub attempt_lines : Context → ℕ → Attempt Forest → List ℕ
attempt_lines c level a =
    beside (head level ++ shown_trees a.call) (given_words c.texts a.definition a.given)
    ++ (bound_lines c.texts level (attempt_bound c a) ++ result_line level a.given)

-- the line of a call whose name finds nothing
abbrev pub unknown_line : ℕ → List ℕ → List ℕ
unknown_line level key =
    beside (head level ++ (shown (chars key) ++ codes " !"))
    (codes "stays: " ++ why_unknown)

-- the line of the place of a call that is written in the text
abbrev pub place_line_at : Named → ℕ → Step Forest → List ℕ
place_line_at t zero s = place t s.name ++ (codes ": " ++ (shown (chars s.key) ++ codes "!\n"))
place_line_at t (suc level) s = []

abbrev pub place_line : Named → Step Forest → List ℕ
place_line t s = place_line_at t s.level s

-- ---- steps

abbrev pub outcome_lines : Context → ℕ → List ℕ → Option (Attempt Forest) → List ℕ
outcome_lines c level key None = unknown_line level key
outcome_lines c level key (Some a) = attempt_lines c level a

-- the lines of a step
abbrev pub step_lines : Context → Step Forest → List ℕ
step_lines c s = place_line c.texts s ++ outcome_lines c s.level s.key s.attempt

-- why no more is traced
abbrev pub cut_words : Cut → List ℕ
cut_words cuts.Steps = codes "there are more steps than are asked for"
cut_words cuts.Tokens = codes "the next call makes more tokens than are left"
cut_words cuts.Definitions = codes "what comes next may define macros, and is not traced"

abbrev pub cut_line : Cut → List ℕ
cut_line cut = codes "cut: " ++ (cut_words cut ++ (10 ∷ []))

-- that, if it is told behind a last step that is told of or is not
abbrev pub cut_if : Bool → Option Cut → List ℕ
cut_if last None = []
cut_if last (Some cut) = if is_cut_told last cut then cut_line cut else []

-- the lines of the steps that are asked for, and why there are no more
abbrev pub trace_lines : Context → Option TextRange → Part Forest → List ℕ
trace_lines c asked p =
    flat_map (step_lines c) (asked_steps asked (not (is_some asked)) p.steps)
    ++ cut_if (ends_asked asked (not (is_some asked)) p.steps) p.room.cut
