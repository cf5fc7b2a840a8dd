-- One command of a session: its answer, and the session after it.
use Rattle.std.specs.Prelude.{◌≡◌, ℕ, List, string_bytes}
use Rattle.rustc_lexer.specs.Edit.{edited}
use Rattle.expander_session.specs.declared.commands.Answer.{Answer}
use Rattle.expander_session.specs.declared.commands.Answer.TheVariants.{Edited, BadEdit}
use Rattle.expander_session.specs.declared.commands.Answer.TheVariants.{Reply as Replied, Refused}
use Rattle.expander_session.specs.declared.commands.Command.{Command}
use Rattle.expander_session.specs.declared.commands.Command.TheVariants.{Edit, Expand}
use Rattle.expander_scope.specs.declared.refusal.Refusal.TheVariants.{Memory}
use Rattle.expander_session.specs.Answers.{CanEdit}
use Rattle.expander_model.specs.Meaning.{Layers}
use Rattle.expander_session.specs.Replies.{HasCause, Replies}
use Rattle.expander_session.specs.State.{State}

-- the answer to an edit, and the session after it
abbrev pub Edits : {G : Type 0} → State G → State G → ℕ → ℕ → List ℕ → Answer → Type 0
Edits old new start stop replacement Edited =
    CanEdit old.text start stop replacement
    × (new ≡ record old { text = edited old.text start stop replacement })
Edits old new start stop replacement BadEdit =
    (CanEdit old.text start stop replacement → ⊥) × (new ≡ old)
Edits old new start stop replacement (Refused Memory) =
    CanEdit old.text start stop replacement × (new ≡ old)
Edits old new start stop replacement _ = ⊥

-- the answer to a command, and the session after it
abbrev pub Turn : {G : Type 0} → Layers → State G → State G → Command → Answer → Type 0
Turn layers old new (Edit start stop replacement) answer =
    Edits old new start stop (string_bytes replacement) answer
Turn layers old new Expand (Replied reply) = Replies layers old new reply
Turn layers old new Expand (Refused refusal) = HasCause layers old refusal × (new ≡ old)
Turn layers old new Expand _ = ⊥
