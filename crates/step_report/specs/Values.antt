-- JSON values that tell of a step. (RFC 8259; of this project: the members.)
use Rattle.std.specs.Prelude.{ℕ, ◌+◌, List, [], ◌∷◌, Bool, true, false, Option, Some, None}
use Rattle.std.specs.Prelude.{Result, Ok, Err, codes, if◌then◌else◌, nat_eq}
use Rattle.tt_data.specs.Forest.{Forest}
use Rattle.tt_data.specs.declared.span.Span.{Span}
use Rattle.tt_data.specs.declared.span.SyntaxContext.{SyntaxContext}
use Rattle.tt_data.specs.declared.span.SyntaxContext.TheVariants.{Made, Written}
use Rattle.serde_json.specs.Data.{Data, null, boolean, string, object, member, no_members}
use Rattle.call_json.specs.Places.{count, numbers, place}
use Rattle.expander_model.specs.Definitions.{Definition, definition_of}
use Rattle.expander_model.specs.declared.fault.FaultKind.{FaultKind}
use Rattle.expander_trace.specs.Steps.{Attempt, Step}
use Rattle.step_report.specs.Bound.{Context}
use Rattle.step_report.specs.BoundValues.{bindings_if}
use Rattle.step_report.specs.Lines.{stay_words, why_unknown}
use Rattle.step_report.specs.NoteValues.{notes_if}
use Rattle.step_report.specs.Places.{other_name}
use Rattle.step_report.specs.Texts.{Named}
use Rattle.step_report.specs.Tokens.{trees}

-- ---- places

-- the name of another text, if it has one
abbrev pub name_if : Option (List ℕ) → Data
name_if None = null
name_if (Some name) = string name

abbrev pub source : Named → ℕ → Data
source t number = name_if (other_name t number)

-- where a span is: its place in the text that is traced, or its bytes in another
abbrev pub at : Named → Span → Data
at t s = if nat_eq s.anchor 0 then place t.text s.range
    else object (member (codes "bytes") (numbers (s.range.start ∷ s.range.«end» ∷ []))
    (member (codes "source") (source t s.anchor) no_members))

-- ---- calls

-- the name of a definition, and where it is
abbrev pub macro_of : Named → Option Definition → Data
macro_of t None = null
macro_of t (Some d) =
    object (member (codes "at") (at t d.name.span)
    (member (codes "name") (string d.name.sym) no_members))

-- the definition of a call, if there is one
abbrev pub macro_if : Named → Option (Attempt Forest) → Data
macro_if t None = null
macro_if t (Some a) = macro_of t (definition_of a.definition)

-- the tokens of a call of a definition
abbrev pub call_trees : Option (Attempt Forest) → Data
call_trees None = null
call_trees (Some a) = trees a.call

-- what a call gives, if it gives something
abbrev pub result_in : Result (ℕ × Forest) FaultKind → Data
result_in (Ok given) = trees given.1
result_in (Err kind) = null

abbrev pub result_if : Option (Attempt Forest) → Data
result_if None = null
result_if (Some a) = result_in a.given

-- the number of the rule that gives it, from 1
abbrev pub rule_in : Result (ℕ × Forest) FaultKind → Data
rule_in (Ok given) = object (member (codes "number") (count (given.0 + 1)) no_members)
rule_in (Err kind) = null

abbrev pub rule_if : Option (Attempt Forest) → Data
rule_if None = null
rule_if (Some a) = rule_in a.given

-- why a call stays, if it stays
abbrev pub message : List ℕ → Data
message words = object (member (codes "message") (string words) no_members)

abbrev pub stays_in : Result (ℕ × Forest) FaultKind → Data
stays_in (Ok given) = null
stays_in (Err kind) = message (stay_words kind)

abbrev pub stays_if : Option (Attempt Forest) → Data
stays_if None = message why_unknown
stays_if (Some a) = stays_in a.given

-- ---- steps

-- a rule put the name out
abbrev pub is_made : SyntaxContext → Bool
is_made Made = true
is_made Written = false

-- a call: where its name is, whether a rule put that out, what it is looked up by, and its tokens
abbrev pub call : Named → Step Forest → Data
call t s =
    object (member (codes "at") (at t s.name)
    (member (codes "made") (boolean (is_made s.name.ctx))
    (member (codes "name") (string s.key)
    (member (codes "tokens") (call_trees s.attempt) no_members))))

-- what comes of it: the definition, the rule, what its metavariables stand for, the notes and what
-- it gives, or why the call stays
abbrev pub outcome : Context → Option (Attempt Forest) → Data
outcome c a =
    object (member (codes "bindings") (bindings_if c a)
    (member (codes "macro") (macro_if c.texts a)
    (member (codes "notes") (notes_if c a)
    (member (codes "result") (result_if a)
    (member (codes "rule") (rule_if a)
    (member (codes "stays") (stays_if a) no_members))))))

-- a number, if there is one
abbrev pub count_if : Option ℕ → Data
count_if None = null
count_if (Some n) = count n

-- a step, by its index among all that are told of, and that of the step in whose result it is
abbrev pub step : Context → ℕ → Option ℕ → Step Forest → Data
step c index parent s =
    object (member (codes "answer") (string (codes "step"))
    (member (codes "call") (call c.texts s)
    (member (codes "index") (count index)
    (member (codes "level") (count s.level)
    (member (codes "outcome") (outcome c s.attempt)
    (member (codes "parent") (count_if parent)
    (member (codes "v") (count 1) no_members)))))))
