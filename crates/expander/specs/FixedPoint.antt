-- Texts that print themselves.
use Rattle.std.specs.Prelude.{◌≡◌, ℕ, List, [], None, Result, Ok, Err}
use Rattle.bridge.specs.TokenSteps.{text_reading}
use Rattle.bridge.specs.declared.reading.outcome.ReadFault.{ReadFault}
use Rattle.expander_session.specs.declared.session.Reply.{Reply}
use Rattle.expander_session.specs.declared.session.Reply.TheVariants.{Read, Unread}
use Rattle.expander_session.specs.Laws.{AreAllPlain}
use Rattle.expander_session.specs.Layered.{layers}
use Rattle.expander_model.specs.declared.dialect.Dialect.{Dialect}
use Rattle.expander_model.specs.Meaning.{ReadMeaning, meaning}
use Rattle.expander_model.specs.Pieces.{pieces}
use Rattle.mbe.specs.Grammar.{Grammar}
use Rattle.tt_data.specs.Forest.{Forest}
use Rattle.tt_data.specs.declared.edition.Edition.{Edition}

-- the meaning of a text is this very text, without a fault
abbrev pub PrintsItself : List ℕ → Result ReadMeaning ReadFault → Type 0
PrintsItself text (Ok m) = (m.text ≡ text) × (m.faults ≡ [])
PrintsItself text (Err fault) = ⊥

-- a text that can be read, has no definition, and prints itself without a fault, whatever the
-- grammar, the edition, the dialect and the number of levels, where conditions leave nothing out
pub record IsFixedPoint (text : List ℕ) : Type 0 where
  pub trees : Forest
  pub read : text_reading text ≡ Ok trees
  pub plain : AreAllPlain (pieces trees)
  pub again : (grammar : Grammar) (edition : Edition) (dialect : Dialect) → dialect.cfg ≡ None
      → (depth : ℕ) → PrintsItself text (meaning (layers grammar edition dialect) depth text)

-- a reply prints this text, without a fault
abbrev pub RepliesWith : List ℕ → Reply → Type 0
RepliesWith text (Read e) = (e.printed ≡ text) × (e.faults ≡ [])
RepliesWith text (Unread fault) = ⊥
