-- What calls make of a session.
use Rattle.std.specs.Prelude.{◌≡◌, ℕ, List, [], ◌∷◌}
use Rattle.rustc_lexer.specs.Edit.{edited}
use Rattle.mbe.specs.Grammar.{Grammar}
use Rattle.expander_session.specs.Replies.{Replies}
use Rattle.expander_session.specs.State.{State, layers_of}
use Rattle.expander_session.specs.declared.session.Reply.{Reply}

-- a call that was not refused: an edit that was made, or an expansion with its reply
pub data SessionCall : Type 0 where
  edits : (start stop : ℕ) → (replacement : List ℕ) → SessionCall
  replies : Reply → SessionCall

module _ {G : Type 0} (answer : G → Grammar) where
  -- a session, calls in order, and the session after them; a refused call changes nothing
  abbrev pub IsAfter : State G → List SessionCall → State G → Type 0
  IsAfter old [] new = new ≡ old
  IsAfter old (edits start stop replacement ∷ calls) new =
      IsAfter (record old { text = edited old.text start stop replacement }) calls new
  IsAfter old (replies reply ∷ calls) new =
      (next : State G) × Replies (layers_of answer old) old next reply × IsAfter next calls new
