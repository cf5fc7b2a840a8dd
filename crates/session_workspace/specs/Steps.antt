-- The steps of the call at a position, as a client is told of them. (Of this project; RFC 8259.)
use Rattle.std.specs.Prelude.{◌≡◌, ◌≢◌, ◌⊎◌, ◌<◌, ◌++◌, ℕ, List, [], ◌∷◌, get_or, if◌then◌else◌}
use Rattle.std.specs.Prelude.{length, ltb, string_bytes, unwrap_or, Option, Some, None}
use Rattle.serde_json.specs.Data.{Data, array, null}
use Rattle.serde_json.specs.Read.{read}
use Rattle.serde_json.specs.View.{items_of}
use Rattle.any_grammar.specs.Answer.{answer}
use Rattle.any_grammar.specs.declared.chosen.AnyGrammar.{AnyGrammar}
use Rattle.bridge.specs.ReadText.{HasTooMany}
use Rattle.bridge.specs.TokenSteps.{text_reading, text_steps}
use Rattle.expander_session.specs.State.{State, definitions_of}
use Rattle.line_index.specs.declared.positions.Position.{Position}
use Rattle.step_report.specs.Answers.{IsAnswerTo, traces_in}
use Rattle.step_report.specs.Bound.{context_by}
use Rattle.step_report.specs.Steps.{rewrites}
use Rattle.step_report.specs.Texts.{Named}
use Rattle.step_report.specs.declared.answer.Answer.{Answer}
use Rattle.step_report.specs.declared.answer.Answer.TheVariants.{Unread, Told}
use Rattle.step_report.specs.declared.answer.Asked.TheVariants.{At}
use Rattle.step_report.specs.declared.answer.Form.TheVariants.{Json}
use Rattle.step_report.specs.declared.answer.Question.{Question}
use Rattle.session_workspace.specs.Ranges.{byte_at}

-- ---- what is asked

-- how many steps are traced at most: as many as are asked for, or 10,000
abbrev pub most_steps : Option ℕ → ℕ
most_steps None = 10000
most_steps (Some most) = most

-- the steps of the calls at a byte are wanted as JSON, where rules put out at most 1,000,000 tokens
abbrev pub question_at : ℕ → (most : Option ℕ) → Question
question_at at most = record {
  asked = At at;
  limits = record { steps = most_steps most; tokens = 1000000 };
  form = Json;
}

-- the texts that steps name: the one that is asked about, and others by their names
abbrev pub named_by : (uri text : List ℕ) → (others : List (List ℕ)) → Named
named_by uri text others = record { file = uri; text = text; others = others }

-- an answer to a question about a session's text, which has this name: the lines for the traces of
-- its trees, by its options and after its prelude
abbrev pub IsStepsAnswer : (uri : List ℕ) → (others : List (List ℕ)) → State AnyGrammar → Question
    → Answer → Type 0
IsStepsAnswer uri others s q a =
    IsAnswerTo (context_by (named_by uri s.text others) (answer s.grammar) s.edition) q
    (traces_in (rewrites (answer s.grammar) s.edition) s.dialect s.depth q
    (definitions_of s.prelude)) (text_reading s.text) a

-- ---- lines as values

-- no byte is a line feed
abbrev pub HasNoFeed : List ℕ → Type 0
HasNoFeed bytes = (i : ℕ) → i < length bytes → get_or bytes i 0 ≢ 10

-- the value that a line is, or null if it is none
abbrev pub line_data : List ℕ → Data
line_data line = unwrap_or (read line) null

-- the lines of a text are these values, in order. A line feed ends each; what is behind the last
-- one is no line
abbrev pub AreValuesOf : (text : List ℕ) → List Data → Type 0
AreValuesOf text [] = HasNoFeed text
AreValuesOf text (d ∷ ds) = (line rest : List ℕ) × (text ≡ line ++ 10 ∷ rest) × HasNoFeed line
    × (d ≡ line_data line) × AreValuesOf rest ds

-- a list of values; null for one alone, which is the line that ends the lines
abbrev pub values_data : List Data → Data
values_data ds = if ltb 1 (length ds) then array (items_of ds) else null

-- an answer shows the lines for steps, and nothing of a text that cannot be read
abbrev pub ShowsAnswer : Answer → Data → Type 0
ShowsAnswer (Unread fault) value = value ≡ null
ShowsAnswer (Told l) value =
    (ds : List Data) × AreValuesOf (string_bytes l.text) ds × (value ≡ values_data ds)

-- ---- the answer

-- the steps of the call at a position of a session's text are shown; nothing for too many tokens
abbrev pub ShowsSteps : (uri : List ℕ) → (others : List (List ℕ)) → State AnyGrammar → Position
    → (most : Option ℕ) → Data → Type 0
ShowsSteps uri others s place most value =
    ((a : Answer) × IsStepsAnswer uri others s (question_at (byte_at s.text place) most) a
    × ShowsAnswer a value)
    ⊎ (HasTooMany (text_steps s.text) × (value ≡ null))
