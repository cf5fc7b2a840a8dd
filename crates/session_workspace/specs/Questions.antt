-- What a question about an open text is answered. (LSP 3.17, "Hover Request" and "Document Symbols
-- Request"; "Expand Macro" of rust-analyzer.)
use Rattle.std.specs.Prelude.{◌≡◌, ◌⊎◌, ◌<◌, ◌++◌, ◌^◌, ℕ, List, [], ◌∷◌, codes, Contains, IfSome}
use Rattle.std.specs.Prelude.{length, string_bytes, true, Option, Some, None, option_map, ⊤}
use Rattle.serde_json.specs.Data.{Data, null, object, string, member, no_members}
use Rattle.any_grammar.specs.Answer.{answer}
use Rattle.any_grammar.specs.declared.chosen.AnyGrammar.{AnyGrammar}
use Rattle.bridge.specs.declared.printing.printer.Printed.{Printed}
use Rattle.step_report.specs.expander_trace.call_expansion.Texts.{NeedsTooMany, answer_in}
use Rattle.step_report.specs.expander_trace.call_expansion.Texts.{answer_near, text_layers}
use Rattle.step_report.specs.expander_trace.call_expansion.declared.answer.Called.{Called}
use Rattle.expander_model.specs.declared.fault.FaultKind.{FaultKind}
use Rattle.expander_run.specs.Lines.{fault_words}
use Rattle.expander_session.specs.State.{State, definitions_of}
use Rattle.line_index.specs.declared.positions.Position.{Position}
use Rattle.lsp_server.specs.declared.workspace.Question.{Question}
use Rattle.lsp_server.specs.declared.workspace.Question.TheVariants.{Hover, Definition, Symbols}
use Rattle.lsp_server.specs.declared.workspace.Question.TheVariants.{Expansion, Actions, Steps}
use Rattle.session_workspace.specs.Actions.{OffersActions}
use Rattle.session_workspace.specs.Layouts.{IsLaidOut}
use Rattle.session_workspace.specs.Earlier.{byte_before}
use Rattle.session_workspace.specs.OpenTexts.{HaveNone, earlier_of, is_named}
use Rattle.session_workspace.specs.Ranges.{byte_at, range_data}
use Rattle.session_workspace.specs.Steps.{ShowsSteps}
use Rattle.session_workspace.specs.Symbols.{ListsSymbols}
use Rattle.session_workspace.specs.declared.open_text.OpenText.{OpenText}

-- ---- calls

-- the meaning of a text says this of the call at a byte, by a session's options and after its
-- prelude: in the last piece that begins at or before the byte
abbrev pub Says : State AnyGrammar → (text : List ℕ) → (at : ℕ) → Option Called → Type 0
Says s text at called = option_map answer_in called
    ≡ answer_near (text_layers (answer s.grammar) s.edition s.dialect) s.depth
    (definitions_of s.prelude) text at

-- a text, or what a rule puts out, has too many tokens
abbrev pub NeedsTooManyIn : State AnyGrammar → (text : List ℕ) → Type 0
NeedsTooManyIn s text = NeedsTooMany (text_layers (answer s.grammar) s.edition s.dialect) s.depth
    (definitions_of s.prelude) text

-- this is said at a byte of a text: what the meaning says, or nothing for too many tokens
abbrev pub IsSaidIn : State AnyGrammar → (text : List ℕ) → (at : ℕ) → Option Called → Type 0
IsSaidIn s text at called = Says s text at called ⊎ ((called ≡ None) × NeedsTooManyIn s text)

-- this is said at a position of a session's text
abbrev pub IsSaidAt : State AnyGrammar → Position → Option Called → Type 0
IsSaidAt s place called = IsSaidIn s s.text (byte_at s.text place) called

-- this is said at a byte of an earlier text, if there is one: nothing without
abbrev pub IsSaidFrom : State AnyGrammar → (earlier : List ℕ) → Option ℕ → Option Called → Type 0
IsSaidFrom s earlier None called = called ≡ None
IsSaidFrom s earlier (Some at) called = IsSaidIn s earlier at called

-- this is said at the byte of an earlier text that a position of a session's text comes from
abbrev pub IsSaidBefore : State AnyGrammar → (earlier : List ℕ) → Position → Option Called → Type 0
IsSaidBefore s earlier place called =
    IsSaidFrom s earlier (byte_before earlier s.text (byte_at s.text place)) called

-- the name of a macro, and what came of a call of it
abbrev pub expansion_data : (name laid : List ℕ) → Data
expansion_data name laid =
    object (member (codes "expansion") (string laid)
    (member (codes "name") (string name) no_members))

-- an answer shows that, behind a text in front: nothing if the call stays
abbrev pub ShowsTokens : (front : List ℕ) → Option Printed → Data → Type 0
ShowsTokens front (Some p) told = (name laid : List ℕ) × IsLaidOut (string_bytes p.text) laid
    × (told ≡ expansion_data name (front ++ laid))
ShowsTokens front None told = told ≡ null

abbrev pub ShowsExpansion : (front : List ℕ) → Option Called → Data → Type 0
ShowsExpansion front (Some c) told = ShowsTokens front c.gives told
ShowsExpansion front None told = told ≡ null

-- a text in a block of code, as Markdown has it
abbrev pub code_block : List ℕ → List ℕ
code_block laid = codes "```rust\n" ++ (laid ++ codes "\n```")

-- what is shown of a call: what came of it, or why it stays. A call without a fault has no
-- definition, or its dialect excuses that no rule fits
abbrev pub IsHoverText : Option Printed → List FaultKind → List ℕ → Type 0
IsHoverText (Some p) faults shown =
    (laid : List ℕ) × IsLaidOut (string_bytes p.text) laid × (shown ≡ code_block laid)
IsHoverText None [] shown =
    shown ≡ codes "no definition of this macro is known here, or no rule of it fits"
IsHoverText None (fault ∷ _) shown = shown ≡ fault_words fault

-- that is shown for the bytes of the call
abbrev pub hover_data : (text shown : List ℕ) → Called → Data
hover_data text shown c =
    object (member (codes "contents")
    (object (member (codes "kind") (string (codes "markdown"))
    (member (codes "value") (string shown) no_members)))
    (member (codes "range") (range_data text c.place.range) no_members))

abbrev pub ShowsHover : List ℕ → Option Called → Data → Type 0
ShowsHover text (Some c) told =
    (shown : List ℕ) × IsHoverText c.gives c.faults.items shown × (told ≡ hover_data text shown c)
ShowsHover text None told = told ≡ null

-- ---- calls of a text that cannot be read

-- what is in front of an expansion as of an earlier text: a comment
abbrev pub earlier_front : List ℕ
earlier_front = codes "// as of the last text that could be read\n"

-- what is shown of a call as of an earlier text
abbrev pub earlier_words : (shown : List ℕ) → List ℕ
earlier_words shown = shown ++ codes "\n\nAs of the last text that could be read."

-- that is shown without a range, since the call is one of the earlier text
abbrev pub earlier_hover : (words : List ℕ) → Data
earlier_hover words =
    object (member (codes "contents")
    (object (member (codes "kind") (string (codes "markdown"))
    (member (codes "value") (string words) no_members))) no_members)

abbrev pub ShowsEarlierHover : Option Called → Data → Type 0
ShowsEarlierHover (Some c) value =
    (shown : List ℕ) × IsHoverText c.gives c.faults.items shown
    × (value ≡ earlier_hover (earlier_words shown))
ShowsEarlierHover None value = value ≡ null

-- ---- all questions

-- what is shown of the call at a position
abbrev pub ShowsCall : (Option Called → Data → Type 0) → State AnyGrammar → Position → Data → Type 0
ShowsCall Shows s place told =
    (called : Option Called) × IsSaidAt s place called × Shows called told

-- what is shown of the call at a position: in a way, as of an earlier text if there is one, and
-- else in another
abbrev pub ShowsAsOf : (earlier : Option (List ℕ)) → (Now Then : Option Called → Data → Type 0)
    → State AnyGrammar → Position → Data → Type 0
ShowsAsOf None Now Then s place value = ShowsCall Now s place value
ShowsAsOf (Some earlier) Now Then s place value =
    (called : Option Called) × IsSaidBefore s earlier place called × Then called value

-- an answer to a question about a text of this name, where texts that definitions come from have
-- these names; that a call's definition is found is not said. What a call expands to is shown as of
-- the last text that could be read, while this one cannot be
abbrev pub Answers : Question → (uri : List ℕ) → (others : List (List ℕ)) → OpenText → Data → Type 0
Answers (Hover place) uri others t told =
    ShowsAsOf (earlier_of t) (ShowsHover t.session.text) ShowsEarlierHover t.session place told
Answers (Expansion place) uri others t told =
    ShowsAsOf (earlier_of t) (ShowsExpansion []) (ShowsExpansion earlier_front) t.session place told
Answers (Actions place) uri others t told =
    ShowsCall (OffersActions uri t.session.text) t.session place told
Answers (Steps place most) uri others t told = ShowsSteps uri others t.session place most told
Answers Symbols uri others t told = ListsSymbols t.session.text told
Answers (Definition place) uri others t told = ⊤

-- a session's text has less than 2^32 bytes, and so has the one that is kept
abbrev pub IsShort : OpenText → Type 0
IsShort t = (length t.session.text < 2 ^ 32) × IfSome (earlier_of t) (λ text. length text < 2 ^ 32)

-- an answer about the open text of this name, or none where none has it
abbrev pub IsAnswered : Question → (uri : List ℕ) → (others : List (List ℕ)) → List OpenText
    → Option Data → Type 0
IsAnswered question uri others texts None = HaveNone uri texts
IsAnswered question uri others texts (Some told) = (t : OpenText) × Contains texts t
    × (is_named uri t ≡ true)
    × (IsShort t → Answers question uri others t told)
