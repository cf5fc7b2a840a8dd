-- Lines of JSON that tell of steps: each is the compact JSON of a value. (RFC 8259; of this
-- project: the members.)
use Rattle.std.specs.Prelude.{ℕ, ◌+◌, ◌-◌, ◌^◌, List, [], ◌∷◌, ◌++◌, Bool, false, ◌||◌}
use Rattle.std.specs.Prelude.{Option, Some, None, codes, if◌then◌else◌, is_some, min, nat_eq, not}
use Rattle.std.specs.Prelude.{slice_get, take}
use Rattle.tt_data.specs.Forest.{Forest}
use Rattle.tt_data.specs.declared.span.TextRange.{TextRange}
use Rattle.serde_json.specs.Data.{Data, boolean, string, object, member, no_members}
use Rattle.serde_json.specs.Written.{compact_text}
use Rattle.call_json.specs.Places.{count}
use Rattle.expander_trace.specs.Parts.{Part}
use Rattle.expander_trace.specs.Steps.{Step}
use Rattle.expander_trace.specs.declared.limits.Cut.{Cut}
use Rattle.expander_trace.specs.declared.limits.Cut.TheVariants as cuts
use Rattle.step_report.specs.Asked.{asked_steps, ends_asked, is_cut_told}
use Rattle.step_report.specs.Lines.{cut_words}
use Rattle.step_report.specs.Bound.{Context}
use Rattle.step_report.specs.Values.{step}
use Rattle.step_report.specs.declared.json.Numbering.{Numbering}

-- the line of a value
abbrev pub line : Data → List ℕ
line d = compact_text d ++ (10 ∷ [])

-- ---- numbers

-- the index of the next step, and the indices of the steps that the last one is in, from the
-- outermost, and its own
pub record State : Type 0 where
  pub next : ℕ
  pub around : List ℕ

-- one more, if that fits into 64 bits
abbrev pub next_index : ℕ → ℕ
next_index index = min (index + 1) (2 ^ 64 - 1)

-- the step in whose result one of this level is
abbrev pub parent_of : List ℕ → ℕ → Option ℕ
parent_of around level = if nat_eq level 0 then None else slice_get around (level - 1)

-- the steps that one of this level is in, and itself
abbrev pub entered : List ℕ → ℕ → ℕ → List ℕ
entered around level index = take level around ++ (index ∷ [])

abbrev pub behind : State → Step Forest → State
behind n s = record { next = next_index n.next; around = entered n.around s.level n.next }

-- ---- steps

abbrev pub step_line : Context → State → Step Forest → List ℕ
step_line t n s = line (step t n.next (parent_of n.around s.level) s)

abbrev pub step_lines : Context → State → List (Step Forest) → List ℕ
step_lines t n [] = []
step_lines t n (s ∷ ss) = step_line t n s ++ step_lines t (behind n s) ss

-- the index behind as many steps
abbrev pub index_behind : ℕ → List (Step Forest) → ℕ
index_behind n [] = n
index_behind n (s ∷ ss) = index_behind (next_index n) ss

-- what cuts a trace
abbrev pub cut_name : Cut → List ℕ
cut_name cuts.Steps = codes "Steps"
cut_name cuts.Tokens = codes "Tokens"
cut_name cuts.Definitions = codes "Definitions"

abbrev pub cut_of : Cut → Data
cut_of cut =
    object (member (codes "answer") (string (codes "cut"))
    (member (codes "by") (string (cut_name cut))
    (member (codes "message") (string (cut_words cut))
    (member (codes "v") (count 1) no_members))))

abbrev pub cut_if : Bool → Option Cut → List ℕ
cut_if last None = []
cut_if last (Some cut) = if is_cut_told last cut then line (cut_of cut) else []

-- the lines of the steps that are asked for, the first with this index, and why there are no more
abbrev pub trace_lines : Context → Option TextRange → ℕ → Part Forest → List ℕ
trace_lines t asked first p =
    step_lines t (record { next = first; around = [] })
    (asked_steps asked (not (is_some asked)) p.steps)
    ++ cut_if (ends_asked asked (not (is_some asked)) p.steps) p.room.cut

-- the index behind a trace
abbrev pub index_after : Option TextRange → ℕ → Part Forest → ℕ
index_after asked first p = index_behind first (asked_steps asked (not (is_some asked)) p.steps)

-- what ends the lines: how many steps they are, and whether a trace is cut
abbrev pub end_of : ℕ → Bool → Data
end_of steps cut =
    object (member (codes "answer") (string (codes "end"))
    (member (codes "cut") (boolean cut)
    (member (codes "steps") (count steps)
    (member (codes "v") (count 1) no_members))))

-- the lines of traces, the first step with this index, and their end, where one before them is cut
-- or none is
abbrev pub lines_behind : Context → Option TextRange → ℕ → Bool → List (Part Forest) → List ℕ
lines_behind t asked first cut [] = line (end_of first cut)
lines_behind t asked first cut (p ∷ ps) =
    trace_lines t asked first p
    ++ lines_behind t asked (index_after asked first p) (cut || is_some p.room.cut) ps

abbrev pub json_lines : Context → Option TextRange → List (Part Forest) → List ℕ
json_lines t asked ps = lines_behind t asked 0 false ps

-- ---- the code's values

abbrev pub state_of : Numbering → State
state_of n = record { next = n.next; around = n.around.items }

-- what is added for a step, and what follows, if it is asked for
abbrev pub lines_if : Bool → Context → State → Step Forest → List ℕ
lines_if asked t n s = if asked then step_line t n s else []

abbrev pub state_if : Bool → State → Step Forest → State
state_if asked n s = if asked then behind n s else n
