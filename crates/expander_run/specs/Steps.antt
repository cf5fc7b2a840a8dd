-- What the steps of a run promise each other.
use Rattle.std.specs.Prelude.{◌≡◌, ℕ, ◌≤◌, ◌^◌, Bool, true, false, List, length, take, Option}
use Rattle.std.specs.Prelude.{None, IfSome}
use Rattle.std.specs.Io.KnownBytes.{Appends}
use Rattle.expander_model.specs.Meaning.{Layers}
use Rattle.expander_run.specs.Lines.{report}
use Rattle.expander_session.specs.Replies.{IsReplyIn}
use Rattle.expander_session.specs.State.{definitions_of}
use Rattle.tt_data.specs.Forest.{Forest}
use Rattle.expander_run.specs.Runs.{IsFlushed, IsInput, StopsAfter, is_of_reader, is_of_writer}
use Rattle.expander_run.specs.Runs.{printed_of}
use Rattle.expander_run.specs.Watch.{Watch}
use Rattle.expander_session.specs.expander_scope.declared.refusal.Refusal.TheVariants.{Memory}
use Rattle.expander_session.specs.Expanded.{Expanded}
use Rattle.expander_session.specs.declared.session.Reply.{Reply}
use Rattle.expander_session.specs.declared.session.Reply.TheVariants.{Read}
use Rattle.expander_run.specs.declared.stop.Stop.{Stop}
use Rattle.expander_run.specs.declared.stop.Stop.TheVariants.{TooLong, ReadFailed, Refused}

-- why reading ends without all bytes, and whether the reader failed
abbrev pub StopsReading : Stop → Option (List ℕ) → Bool → Type 0
StopsReading TooLong input failed = IfSome input (λ bytes. 2 ^ 32 ≤ length bytes) × (failed ≡ false)
StopsReading ReadFailed input failed = failed ≡ true
StopsReading (Refused Memory) input failed = failed ≡ false
StopsReading _ input failed = ⊥

-- a reply to the whole input after these definitions, and its report
pub record Replied (layers : Layers) (prelude : List Forest) (input : Option (List ℕ)) (depth : ℕ)
    (reply : Reply) (told : List ℕ) : Type 0 where
  pub text : List ℕ
  pub is_input : IsInput input text
  pub is_reply : IsReplyIn layers depth (definitions_of prelude) text None reply
  pub is_told : told ≡ report text reply

-- why there is no reply, and whether the reader failed
pub record StopsEarly (layers : Layers) (prelude : List Forest) (stop : Stop)
    (input : Option (List ℕ)) (depth : ℕ) (failed : Bool) : Type 0 where
  pub cause : StopsAfter layers prelude stop input depth
  pub reader : failed ≡ is_of_reader stop
  pub writer : is_of_writer stop ≡ false

-- the printed text of a reply is written, or its first bytes are and the writer failed
abbrev pub PutsReply : {W : Type 0} → Option (List ℕ) → Option (List ℕ) → Watch W → Watch W → Reply
    → Bool → Type 0
PutsReply old new before writer reply true =
    Appends old new (printed_of reply) × IsFlushed reply before writer × (writer.failed ≡ false)
PutsReply old new before writer reply false =
    (e : Expanded) × (reply ≡ Read e) × ((k : ℕ) × Appends old new (take k e.printed))
    × (writer.failed ≡ true)
