-- What a run reads and writes. (Of this project.)
use Rattle.std.specs.Prelude.{◌≡◌, ℕ, ◌≤◌, ◌<◌, ◌^◌, Bool, true, false, List, [], ◌∷◌, length}
use Rattle.std.specs.Prelude.{take, Option, Some, None, IfSome, IsUtf8, ⊤}
use Rattle.std.specs.Io.KnownBytes.{Appends}
use Rattle.tt_data.specs.Forest.{Forest}
use Rattle.tt_data.specs.declared.edition.Edition.TheVariants.{Edition2024}
use Rattle.small_grammar.specs.Answer.{answer}
use Rattle.expander_session.specs.Expanded.{Expanded}
use Rattle.expander_session.specs.Layered.{layers}
use Rattle.expander_run.specs.Lines.{report, stop_line}
use Rattle.expander_model.specs.Dialects.{top_level}
use Rattle.expander_model.specs.Meaning.{Layers, meaning_in}
use Rattle.expander_session.specs.Replies.{IsReplyIn, NeedsNumbersIn}
use Rattle.expander_session.specs.State.{definitions_of}
use Rattle.expander_session.specs.TooMany.{NeedsTooManyIn}
use Rattle.expander_run.specs.Watch.{Watch}
use Rattle.expander_model.specs.declared.fault.Fault.{Fault}
use Rattle.expander_session.specs.expander_scope.declared.refusal.Refusal.TheVariants.{Memory}
use Rattle.expander_session.specs.expander_scope.declared.refusal.Refusal.TheVariants.{Tokens}
use Rattle.expander_session.specs.expander_scope.declared.refusal.Refusal.TheVariants.{Numbers}
use Rattle.expander_session.specs.declared.session.Reply.{Reply}
use Rattle.expander_session.specs.declared.session.Reply.TheVariants.{Read, Unread}
use Rattle.expander_session.specs.mbe.Grammar.{Grammar}
use Rattle.expander_run.specs.declared.options.Options.{Options}
use Rattle.expander_run.specs.declared.program.Status.{Status}
use Rattle.expander_run.specs.declared.stop.Stop.{Stop}
use Rattle.expander_run.specs.declared.stop.Stop.TheVariants.{NotUtf8, TooLong, ReadFailed}
use Rattle.expander_run.specs.declared.stop.Stop.TheVariants.{WriteFailed, Refused}

-- all that a reader had left, where its bytes are known
abbrev pub IsAllOf : Option (List ℕ) → List ℕ → Type 0
IsAllOf None bytes = ⊤
IsAllOf (Some left) bytes = bytes ≡ left

-- the whole input, short enough and UTF-8
pub record IsInput (input : Option (List ℕ)) (text : List ℕ) : Type 0 where
  pub whole : IsAllOf input text
  pub short : length text < 2 ^ 32
  pub utf8 : IsUtf8 text

-- the whole input, short enough, but not UTF-8
pub record IsNoText (input : Option (List ℕ)) (bytes : List ℕ) : Type 0 where
  pub whole : IsAllOf input bytes
  pub short : length bytes < 2 ^ 32
  pub not_utf8 : IsUtf8 bytes → ⊥

-- what a run expands by: the answers of its grammar, its edition for all identifiers, its dialect
abbrev pub layers_of : {G : Type 0} → (G → Grammar) → Options G → Layers
layers_of answer_of options =
    layers (answer_of options.grammar) options.edition options.dialect

-- `run` expands by the small grammar, in edition 2024, where names find pieces of texts alone
abbrev pub run_layers : Layers
run_layers = layers answer Edition2024 top_level

-- the printed text of a reply: nothing if the text could not be read
abbrev pub printed_of : Reply → List ℕ
printed_of (Read e) = e.printed
printed_of (Unread fault) = []

abbrev pub status : ℕ → Status
status n = record { 0 = n }

-- 0 if there is no fault, else 1
abbrev pub status_by : List Fault → Status
status_by [] = status 0
status_by (fault ∷ faults) = status 1

-- 0 if the text was read and has no fault, else 1
abbrev pub status_of : Reply → Status
status_of (Read e) = status_by e.faults
status_of (Unread fault) = status 1

-- the printed text is flushed last; for a reading fault nothing is asked of the writer
abbrev pub IsFlushed : {W : Type 0} → Reply → Watch W → Watch W → Type 0
IsFlushed (Read e) before writer = writer.flushed ≡ true
IsFlushed (Unread fault) before writer = writer ≡ before

-- all is written and flushed last, or the first bytes are and the writer failed
abbrev pub Puts : {W : Type 0} → Option (List ℕ) → Option (List ℕ) → Watch W → List ℕ → Bool
    → Type 0
Puts old new writer bytes true = Appends old new bytes × (writer.flushed ≡ true)
    × (writer.failed ≡ false)
Puts old new writer bytes false = ((k : ℕ) × Appends old new (take k bytes))
    × (writer.failed ≡ true)

-- the report is written whole and flushed last, or its first bytes if that writer failed
pub record Tells {E : Type 0} (told : List ℕ) (tells : List ℕ → Type 0)
    (faults : Watch E) : Type 0 where
  pub taken : ℕ
  pub written : tells (take taken told)
  pub whole : faults.failed ≡ false → take taken told ≡ told
  pub flushed : faults.failed ≡ false → 0 < length told → faults.flushed ≡ true

-- whether a run stops because its reader failed
abbrev pub is_of_reader : Stop → Bool
is_of_reader ReadFailed = true
is_of_reader _ = false

-- whether a run stops because its writer failed
abbrev pub is_of_writer : Stop → Bool
is_of_writer WriteFailed = true
is_of_writer _ = false

-- a text needs more ids than there are: only definitions of other texts bring it about, since a
-- text has fewer definitions than there are ids, and the session of a run is new
abbrev pub NeedsIds : Layers → List Forest → ℕ → List ℕ → Type 0
NeedsIds layers [] depth text = ⊥
NeedsIds layers (p ∷ ps) depth text = NeedsNumbersIn 0 [] (p ∷ ps)
    (meaning_in layers depth (definitions_of (p ∷ ps)) text)

-- what makes a run after these definitions of other texts stop: its reader and writers know whether
-- they failed
abbrev pub StopsAfter : Layers → List Forest → Stop → Option (List ℕ) → ℕ → Type 0
StopsAfter layers prelude NotUtf8 input depth = (bytes : List ℕ) × IsNoText input bytes
StopsAfter layers prelude TooLong input depth = IfSome input (λ bytes. 2 ^ 32 ≤ length bytes)
StopsAfter layers prelude ReadFailed input depth = ⊤
StopsAfter layers prelude WriteFailed input depth = ⊤
StopsAfter layers prelude (Refused Memory) input depth = ⊤
StopsAfter layers prelude (Refused Tokens) input depth =
    (text : List ℕ) × IsInput input text
    × NeedsTooManyIn layers depth (definitions_of prelude) text
StopsAfter layers prelude (Refused Numbers) input depth =
    (text : List ℕ) × IsInput input text × NeedsIds layers prelude depth text

-- a writer that failed has taken the first bytes of the text to be printed
pub record BreaksOff (layers : Layers) (prelude : List Forest) (input : Option (List ℕ))
    (depth : ℕ) (writes : List ℕ → Type 0) : Type 0 where
  pub text : List ℕ
  pub is_input : IsInput input text
  pub expansion : Expanded
  pub is_reply : IsReplyIn layers depth (definitions_of prelude) text None (Read expansion)
  pub taken : ℕ
  pub written : writes (take taken expansion.printed)

-- what a run that stops has written: nothing, unless the writer failed
abbrev pub LeavesAt : Layers → List Forest → Stop → Option (List ℕ) → ℕ → (List ℕ → Type 0) → Type 0
LeavesAt layers prelude WriteFailed input depth writes = BreaksOff layers prelude input depth writes
LeavesAt layers prelude _ input depth writes = writes []

-- a run that answers: it writes the printed text and the report, and has the reply's status;
-- `before` is the writer as it was handed in
pub record Finishes {R W E : Type 0} (layers : Layers) (prelude : List Forest)
    (input : Option (List ℕ)) (depth : ℕ) (writes tells : List ℕ → Type 0)
    (reader : Watch R) (before writer : Watch W) (faults : Watch E) (result : Status) : Type 0 where
  pub text : List ℕ
  pub is_input : IsInput input text
  pub reply : Reply
  pub is_reply : IsReplyIn layers depth (definitions_of prelude) text None reply
  pub written : writes (printed_of reply)
  pub flushed : IsFlushed reply before writer
  pub told : Tells (report text reply) tells faults
  pub status : result ≡ status_of reply
  pub read_all : reader.failed ≡ false
  pub took_all : writer.failed ≡ false

-- a run that stops: it has a cause, which it reports, and its status is 1; unless the writer
-- failed, nothing was asked of it
pub record Refuses {R W E : Type 0} (layers : Layers) (prelude : List Forest) (stop : Stop)
    (input : Option (List ℕ)) (depth : ℕ) (writes tells : List ℕ → Type 0)
    (reader : Watch R) (before writer : Watch W) (faults : Watch E) (result : Status) : Type 0 where
  pub cause : StopsAfter layers prelude stop input depth
  pub left : LeavesAt layers prelude stop input depth writes
  pub told : Tells (stop_line stop) tells faults
  pub status : result ≡ status 1
  pub of_reader : reader.failed ≡ is_of_reader stop
  pub of_writer : writer.failed ≡ is_of_writer stop
  pub unasked : is_of_writer stop ≡ false → writer ≡ before

-- a run after these definitions, over what its reader had left, with what its writers took: it
-- answers or it stops
abbrev pub RunsAfter : {R W E : Type 0} → Layers → List Forest → Option Stop → Option (List ℕ) → ℕ
    → (writes tells : List ℕ → Type 0) → Watch R → Watch W → Watch W → Watch E → Status → Type 0
RunsAfter layers prelude None input depth writes tells reader before writer faults result =
    Finishes layers prelude input depth writes tells reader before writer faults result
RunsAfter layers prelude (Some stop) input depth writes tells reader before writer faults result =
    Refuses layers prelude stop input depth writes tells reader before writer faults result

-- a run without definitions of other texts
abbrev pub RunsBy : {R W E : Type 0} → Layers → Option Stop → Option (List ℕ) → ℕ
    → (writes tells : List ℕ → Type 0) → Watch R → Watch W → Watch W → Watch E → Status → Type 0
RunsBy layers stop input depth writes tells reader before writer faults result =
    RunsAfter layers [] stop input depth writes tells reader before writer faults result

-- a run of `run`
abbrev pub Runs : {R W E : Type 0} → Option Stop → Option (List ℕ) → ℕ
    → (writes tells : List ℕ → Type 0) → Watch R → Watch W → Watch W → Watch E → Status → Type 0
Runs stop input depth writes tells reader before writer faults result =
    RunsBy run_layers stop input depth writes tells reader before writer faults result
