-- What the calls do to a session and its last answer, and what their codes mean.
use Rattle.std.specs.Prelude.{◌≡◌, ℕ, ◌+◌, ◌-◌, ◌<◌, ◌≤◌, ◌^◌, List, [], length, Bool, ◌&&◌}
use Rattle.std.specs.Prelude.{Option, Some, None, IsUtf8, IsCharBoundary, ⊤, ◌⊎◌, true, false}
use Rattle.std.specs.Prelude.{nat_eq, if◌then◌else◌, option_map}
use Rattle.rustc_lexer.specs.Edit.{edited}
use Rattle.any_grammar.specs.Answer.{answer}
use Rattle.any_grammar.specs.declared.chosen.AnyGrammar.{AnyGrammar}
use Rattle.any_grammar.specs.declared.chosen.AnyGrammar.TheVariants.{Small, Rust}
use Rattle.tt_data.specs.declared.edition.Edition.{Edition}
use Rattle.tt_data.specs.declared.edition.Edition.TheVariants.{Edition2015, Edition2018}
use Rattle.tt_data.specs.declared.edition.Edition.TheVariants.{Edition2021, Edition2024}
use Rattle.bridge.specs.ReadText.{HasTooMany}
use Rattle.bridge.specs.TokenSteps.{text_steps}
use Rattle.bridge.specs.declared.reading.outcome.ReadFault.{ReadFault}
use Rattle.cfg_options.specs.declared.options.CfgOptions.{CfgOptions}
use Rattle.expander_model.specs.Meaning.{Layers}
use Rattle.expander_model.specs.declared.dialect.Dialect.{Dialect}
use Rattle.expander_model.specs.declared.limits.Limits.{Limits}
use Rattle.expander_model.specs.Dialects.{rust, top_level}
use Rattle.expander_sources.specs.Homes.{Home, home_named}
use Rattle.expander_sources.specs.SourceReads.{IsSourceOf}
use Rattle.expander_sources.specs.Sources.{Source}
use Rattle.expander_sources.specs.declared.source.SourceRead.{SourceRead}
use Rattle.expander_sources.specs.declared.source.SourceRead.TheVariants as read
use Rattle.expander_scope.specs.declared.refusal.Refusal.TheVariants as why
use Rattle.expander_session.specs.Layered.{layers}
use Rattle.expander_session.specs.Replies.{HasCause, Replies}
use Rattle.expander_session.specs.declared.session.Reply.TheVariants as reply
use Rattle.filgordd_c.specs.Answered.{told_unread}
use Rattle.filgordd_c.specs.Sources.{IsWhyNot, picks_code, prelude_of, with_source}
use Rattle.filgordd_c.specs.declared.answers.SourceTold.{SourceTold}
use Rattle.filgordd_c.specs.declared.code.Code.{Code}
use Rattle.filgordd_c.specs.declared.code.Code.TheVariants as code
use Rattle.filgordd_c.specs.declared.live.Answer.{Answer}
use Rattle.filgordd_c.specs.declared.live.Answer.TheVariants as last
use Rattle.filgordd_c.specs.declared.live.Live.{Live}
use Rattle.filgordd_c.specs.declared.options.SessionOptions.{SessionOptions}
use Rattle.filgordd_c.specs.declared.sources.Pick.{Pick}

-- ---- opening

-- the edition of a year
abbrev pub edition_of : ℕ → Option Edition
edition_of year =
    if nat_eq year 2015 then Some Edition2015
    else if nat_eq year 2018 then Some Edition2018
    else if nat_eq year 2021 then Some Edition2021
    else if nat_eq year 2024 then Some Edition2024
    else None

-- the grammar of a number, which is of this edition
abbrev pub grammar_of : ℕ → Edition → Option AnyGrammar
grammar_of number edition =
    if nat_eq number 0 then Some Small
    else if nat_eq number 1 then Some (Rust edition)
    else None

-- the dialect of a number of rules of scopes
abbrev pub dialect_of : ℕ → Option Dialect
dialect_of number =
    if nat_eq number 0 then Some top_level
    else if nat_eq number 1 then Some rust
    else None

-- a number as a limit: 0 is none
abbrev pub limit_of : ℕ → ℕ
limit_of n = if nat_eq n 0 then 2 ^ 64 - 1 else n

-- how much one call may make, if a number limits it
abbrev pub limits_of : SessionOptions → Option Limits
limits_of options =
    if nat_eq options.calls 0 && nat_eq options.tokens 0 then None
    else Some (record { calls = limit_of options.calls; tokens = limit_of options.tokens })

-- a dialect with this set of options for conditional compilation, and these limits
abbrev pub under : Option CfgOptions → Option Limits → Dialect → Dialect
under set limits dialect = record dialect { cfg = set; limits = limits }

-- by this edition, levels and grammar, where names find pieces of texts alone
abbrev pub top_options : ℕ → ℕ → ℕ → SessionOptions
top_options year levels number =
    record {
      edition = year;
      grammar = number;
      scope = 0;
      depth = levels;
      calls = 0;
      tokens = 0;
    }

-- a new session over this text, by these options and under this set, before any answer
pub record IsNew (bytes : List ℕ) (options : SessionOptions) (set : Option CfgOptions)
    (live : Live) : Type 0 where
  pub edition : edition_of options.edition ≡ Some live.session.edition
  pub grammar : grammar_of options.grammar live.session.edition ≡ Some live.session.grammar
  pub dialect : option_map (under set (limits_of options)) (dialect_of options.scope)
      ≡ Some live.session.dialect
  pub text : live.session.text ≡ bytes
  pub depth : live.session.depth ≡ options.depth
  pub prelude : live.session.prelude ≡ []
  pub held : live.session.held ≡ None
  pub trees : live.session.trees ≡ []
  pub given : live.session.given ≡ 0
  pub answer : live.answer ≡ last.Nothing
  pub current : live.is_current ≡ false
  pub sources : live.sources ≡ []

-- why bytes are no text
abbrev pub NoText : List ℕ → Code → Type 0
NoText bytes code.Length = length bytes < 2 ^ 32 → ⊥
NoText bytes code.Utf8 = IsUtf8 bytes → ⊥
NoText bytes _ = ⊥

-- why there is no session
abbrev pub CannotOpen : List ℕ → SessionOptions → Code → Type 0
CannotOpen text options code.Edition = edition_of options.edition ≡ None
CannotOpen text options code.Grammar =
    (edition : Edition) → grammar_of options.grammar edition ≡ None
CannotOpen text options code.Scope = dialect_of options.scope ≡ None
CannotOpen text options code.Memory = ⊤
CannotOpen text options c = NoText text c

-- ---- edits

-- these bytes are in the text, in order
abbrev pub IsRange : List ℕ → ℕ → ℕ → Type 0
IsRange text start stop = (start ≤ stop) × (stop ≤ length text)

-- the text has fewer than 2^32 bytes after this many replace those
abbrev pub IsShort : List ℕ → ℕ → ℕ → ℕ → Type 0
IsShort text start stop len = length text - (stop - start) + len < 2 ^ 32

-- whether an offset is a character boundary
abbrev pub BoundaryTold : List ℕ → ℕ → Code → Type 0
BoundaryTold text at code.Done = IsCharBoundary text at
BoundaryTold text at code.Boundary = (at ≤ length text) × (IsCharBoundary text at → ⊥)
BoundaryTold text at code.Range = length text < at
BoundaryTold text at _ = ⊥

-- whether an edit fits
abbrev pub FitTold : List ℕ → ℕ → ℕ → ℕ → Code → Type 0
FitTold text start stop len code.Done = IsRange text start stop × IsShort text start stop len
FitTold text start stop len code.Range = IsRange text start stop → ⊥
FitTold text start stop len code.Length =
    IsRange text start stop × (IsShort text start stop len → ⊥)
FitTold text start stop len _ = ⊥

-- an edit may be made
pub record CanEdit (text : List ℕ) (start stop : ℕ) (bytes : List ℕ) : Type 0 where
  pub range : IsRange text start stop
  pub begins : IsCharBoundary text start
  pub ends : IsCharBoundary text stop
  pub utf8 : IsUtf8 bytes
  pub short : IsShort text start stop (length bytes)

-- an edit: it was made, or why it was not, and then nothing changed
abbrev pub EditTold : ℕ → ℕ → List ℕ → Live → Live → Code → Type 0
EditTold start stop bytes old new code.Done =
    CanEdit old.session.text start stop bytes
    × (new ≡ record old {
      session = record old.session { text = edited old.session.text start stop bytes };
      is_current = false;
    })
EditTold start stop bytes old new code.Range =
    (IsRange old.session.text start stop → ⊥) × (new ≡ old)
EditTold start stop bytes old new code.Length =
    (IsShort old.session.text start stop (length bytes) → ⊥) × (new ≡ old)
EditTold start stop bytes old new code.Boundary =
    (IsCharBoundary old.session.text start × IsCharBoundary old.session.text stop → ⊥) × (new ≡ old)
EditTold start stop bytes old new code.Utf8 = (IsUtf8 bytes → ⊥) × (new ≡ old)
EditTold start stop bytes old new code.Memory = new ≡ old
EditTold start stop bytes old new _ = ⊥

-- ---- expansions

-- what a text means depends on the grammar of the session, on its edition and on its dialect
abbrev pub layers_of : Live → Layers
layers_of live =
    layers (answer live.session.grammar) live.session.edition live.session.dialect

-- a session's reply is its last answer
abbrev pub Answers : Live → Live → Answer → Type 0
Answers old new last.Nothing = ⊥
Answers old new (last.Read e) = Replies (layers_of old) old.session new.session (reply.Read e)
Answers old new (last.Unread fault) = Replies (layers_of old) old.session new.session
    (reply.Unread fault)

abbrev pub is_read : Answer → Bool
is_read (last.Read e) = true
is_read _ = false

-- the text was expanded, and is as it was, as are the sources
abbrev pub IsCurrent : Live → Live → Type 0
IsCurrent old new = (new.is_current ≡ true) × (new.session.text ≡ old.session.text)
    × (new.sources ≡ old.sources)

-- an expansion: the session's reply, while its sources stay, or why there is none, and then nothing
-- changed
abbrev pub ExpandTold : Live → Live → Code → Type 0
ExpandTold old new code.Done = Answers old new new.answer × (is_read new.answer ≡ true)
    × IsCurrent old new
ExpandTold old new code.Unread = Answers old new new.answer × (is_read new.answer ≡ false)
    × IsCurrent old new
ExpandTold old new code.Memory = new ≡ old
ExpandTold old new code.Tokens = HasCause (layers_of old) old.session why.Tokens × (new ≡ old)
ExpandTold old new code.Numbers = HasCause (layers_of old) old.session why.Numbers × (new ≡ old)
ExpandTold old new _ = ⊥

-- ---- sources

-- the crate with this root and edition; without a root that of the session's text
abbrev pub IsHome : List ℕ → ℕ → Option Home → Type 0
IsHome root year None = root ≡ []
IsHome root year (Some h) = (edition : Edition) × (edition_of year ≡ Some edition)
    × (home_named root edition ≡ Some h)

-- why there is none
abbrev pub NoHome : List ℕ → ℕ → Code → Type 0
NoHome root year code.Edition = edition_of year ≡ None
NoHome root year code.Root = (edition : Edition) × (home_named root edition ≡ None)
NoHome root year code.Memory = ⊤
NoHome root year c = NoText root c

-- what a text of such a crate is read as
abbrev pub IsSource : ℕ → List ℕ → ℕ → List ℕ → SourceRead → Type 0
IsSource number root year text r = (home : Option Home) × IsHome root year home
    × IsSourceOf number home text r

-- why it is not read
abbrev pub NoSource : ℕ → List ℕ → ℕ → List ℕ → Code → Type 0
NoSource number root year text code.Source = number ≡ 0
NoSource number root year text code.Tokens = HasTooMany (text_steps text)
NoSource number root year text c = NoHome root year c ⊎ NoText text c

-- a source was added, and how many definitions it has is written; or why its text cannot be read
-- is; or why neither, and then nothing changed
abbrev pub SourceAdded : ℕ → List ℕ → ℕ → List ℕ → SourceTold → SourceTold → Live → Live → Code
    → Type 0
SourceAdded number root year text told_old told old new code.Done =
    (s : Source) × IsSource number root year text (read.Read s)
    × (new ≡ record old { sources = with_source s old.sources })
    × (told ≡ record told_old { definitions = length s.items })
SourceAdded number root year text told_old told old new code.Unread =
    (f : ReadFault) × IsSource number root year text (read.Unread f) × (new ≡ old)
    × (told ≡ record told_old { fault = told_unread f })
SourceAdded number root year text told_old told old new c =
    NoSource number root year text c × (new ≡ old) × (told ≡ told_old)

-- the text is expanded after these definitions from now on; or why not, and then nothing changed
abbrev pub PreludeTold : List Pick → Live → Live → Code → Type 0
PreludeTold picks old new code.Done =
    (picks_code old.sources picks ≡ code.Done)
    × (new ≡ record old { session = record old.session { prelude = prelude_of old.sources picks } })
PreludeTold picks old new c = IsWhyNot (picks_code old.sources picks) c × (new ≡ old)
