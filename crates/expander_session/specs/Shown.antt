-- An output of pieces, printed and with all its faults.
use Rattle.std.specs.Prelude.{◌≡◌, ℕ, List, ◌++◌, map}
use Rattle.bridge.specs.PrintedRanges.{printed_ranges, read_ranges}
use Rattle.expander_model.specs.declared.fault.Fault.{Fault}
use Rattle.expander_session.specs.Expanded.{Expanded, origin_of, origin_text}
use Rattle.expander_model.specs.Expansion.{PlacedStep}
use Rattle.expander_model.specs.Faults.{in_order}
use Rattle.expander_model.specs.Meaning.{ReadMeaning}
use Rattle.expander_session.specs.Emitting.{tokens_in, faults_in}
use Rattle.expander_model.specs.Printing.{bare, text_of}

-- these events are shown with these faults of calls and definitions; so many pieces expanded
pub record ShowsOutput (told : List Fault) (count : ℕ) (steps : List PlacedStep)
    (e : Expanded) : Type 0 where
  pub printed : e.printed ≡ text_of (tokens_in steps)
  pub faults : e.faults ≡ in_order (told ++ faults_in steps)
  pub origins : e.origins ≡ map origin_of (tokens_in steps)
  pub texts : e.texts ≡ map origin_text (tokens_in steps)
  pub ranges : read_ranges e.printed ≡ printed_ranges (map bare (tokens_in steps))
  pub expanded : e.expanded ≡ count

-- the meaning of a text is shown, and so many of its pieces were expanded
pub record ShowsMeaning (m : ReadMeaning) (count : ℕ) (e : Expanded) : Type 0 where
  pub printed : e.printed ≡ m.text
  pub faults : e.faults ≡ m.faults
  pub origins : e.origins ≡ map origin_of m.tokens
  pub texts : e.texts ≡ map origin_text m.tokens
  pub ranges : read_ranges e.printed ≡ printed_ranges (map bare m.tokens)
  pub expanded : e.expanded ≡ count
