-- How the steps of a run make a run.
use Rattle.std.proofs.Common.{◌≡◌, ℕ, List, [], ◌∷◌, length, take, Option, Some, Bool, true, false, refl, sym, ◌∙◌, subst}
use Rattle.std.proofs.Math.Seq.{take-length}
use Rattle.std.specs.Io.KnownBytes.{Appends}
use Rattle.expander_run.proofs.KnownByteLemmas.{appends_none}
use Rattle.expander_model.specs.Meaning.{Layers, meaning, meaning_in}
use Rattle.expander_run.specs.Lines.{stop_line}
use Rattle.expander_run.specs.Runs.{LeavesAt, NeedsIds, Puts, RunsAfter, Tells, is_of_writer, status}
use Rattle.expander_run.specs.Watch.{Watch}
use Rattle.expander_run.specs.Steps.{PutsReply, Replied, StopsEarly}
use Rattle.expander_run.specs.declared.stop.Stop.{Stop}
use Rattle.expander_run.specs.declared.stop.Stop.TheVariants.{NotUtf8, TooLong, ReadFailed, WriteFailed, Refused}
use Rattle.expander_session.specs.Replies.{NeedsNumbers, NeedsNumbersIn}
use Rattle.expander_session.specs.State.{definitions_of}
use Rattle.expander_session.specs.declared.session.Reply.{Reply}
use Rattle.tt_data.specs.Forest.{Forest}

-- a stop that is not the writer's leaves nothing
leaves_nothing : (layers : Layers) (prelude : List Forest) (stop : Stop) (input : Option (List ℕ)) (depth : ℕ) (writes : List ℕ → Type 0) → is_of_writer stop ≡ false → writes []
    → LeavesAt layers prelude stop input depth writes
leaves_nothing layers prelude WriteFailed input depth writes not_writer h = absurd (cc not_writer)
leaves_nothing layers prelude NotUtf8 input depth writes not_writer h = h
leaves_nothing layers prelude TooLong input depth writes not_writer h = h
leaves_nothing layers prelude ReadFailed input depth writes not_writer h = h
leaves_nothing layers prelude (Refused refusal) input depth writes not_writer h = h

-- without definitions of other texts no text needs more ids than there are
pub needs_ids : (layers : Layers) (prelude : List Forest) (depth : ℕ) (text : List ℕ) → (NeedsNumbers 0 [] (meaning layers depth text) → ⊥)
    → NeedsNumbersIn 0 [] prelude (meaning_in layers depth (definitions_of prelude) text) → NeedsIds layers prelude depth text
needs_ids layers [] depth text never h = absurd (never h)
needs_ids layers (p ∷ ps) depth text never h = h

-- what is put is told
pub told_by_put : {E : Type 0} (faults : Watch E) (told bytes : List ℕ) (old new : Option (List ℕ)) (all_taken : Bool)
    → bytes ≡ told → Puts old new faults bytes all_taken → Tells told (Appends old new) faults
told_by_put faults told bytes old new true is puts = record {
  taken = length told;
  written = rw (take-length told) (subst (λ (xs : List ℕ). Appends old new xs) is puts.0);
  whole = λ fresh. take-length told;
  flushed = λ fresh some. puts.1;
}
told_by_put faults told bytes old new false is puts = record {
  taken = puts.0.0;
  written = subst (λ (xs : List ℕ). Appends old new (take puts.0.0 xs)) is puts.0.1;
  whole = λ fresh. absurd (cc (fresh, puts.1));
  flushed = λ fresh some. absurd (cc (fresh, puts.1));
}

module _ {R W E : Type 0} (layers : Layers) (prelude : List Forest) (input : Option (List ℕ)) (depth : ℕ) (reader : Watch R) (before writer : Watch W) (faults : Watch E) where
  -- without a reply nothing was written, and why is told
  pub runs_stopped : (stop : Stop) (contents : Option (List ℕ)) (tells : List ℕ → Type 0) → StopsEarly layers prelude stop input depth reader.failed → writer.failed ≡ false → writer ≡ before
      → (why : List ℕ) → why ≡ stop_line stop → Tells why tells faults
      → RunsAfter layers prelude (Some stop) input depth (Appends contents contents) tells reader before writer faults (status 1)
  runs_stopped stop contents tells early fresh same why is_why told = record {
    cause = early.cause;
    left = leaves_nothing layers prelude stop input depth (Appends contents contents) early.writer (appends_none contents);
    told = subst (λ (xs : List ℕ). Tells xs tells faults) is_why told;
    status = refl;
    of_reader = early.reader;
    of_writer = fresh ∙ sym early.writer;
    unasked = λ other. same;
  }

  -- a writer that failed took a front of the printed text
  pub runs_broken_off : (reply : Reply) (lines : List ℕ) (all_taken : Bool) (old new : Option (List ℕ)) (tells : List ℕ → Type 0)
      → Replied layers prelude input depth reply lines → reader.failed ≡ false
      → PutsReply old new before writer reply all_taken → all_taken ≡ false
      → (why : List ℕ) → why ≡ stop_line WriteFailed → Tells why tells faults
      → RunsAfter layers prelude (Some WriteFailed) input depth (Appends old new) tells reader before writer faults (status 1)
  runs_broken_off reply lines true old new tells replied read puts not_all why is_why told = absurd (cc not_all)
  runs_broken_off reply lines false old new tells replied read puts not_all why is_why told = record {
    cause = tt;
    left = record {
      text = replied.text;
      is_input = replied.is_input;
      expansion = puts.0;
      is_reply = rw (sym puts.1) replied.is_reply;
      taken = puts.2.0;
      written = puts.2.1;
    };
    told = subst (λ (xs : List ℕ). Tells xs tells faults) is_why told;
    status = refl;
    of_reader = read;
    of_writer = puts.3;
    unasked = λ other. absurd (cc other);
  }
