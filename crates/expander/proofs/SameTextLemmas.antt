-- A reply depends only on the present text.
use Rattle.std.proofs.Common.{◌≡◌, ℕ, List, [], ◌∷◌, ◌++◌, sym, ◌∙◌, subst}
use Rattle.std.specs.Prelude.{Option, Result, Ok, Err}
use Rattle.bridge.specs.declared.reading.outcome.ReadFault.{ReadFault}
use Rattle.expander_session.specs.Answers.{AreAnswers, ShowTheSame, last_looked, last_text, reads_after, text_after}
use Rattle.expander_session.specs.Count.{Looked}
use Rattle.expander_model.specs.Meaning.{Layers, ReadMeaning, meaning}
use Rattle.expander_session.specs.Replies.{IsMeant, IsReplyTo}
use Rattle.expander_session.specs.declared.session.Reply.{Reply}
use Rattle.expander_session.specs.declared.session.Reply.TheVariants.{Read, Unread}
use Rattle.expander_session.specs.declared.commands.Answer.{Answer}
use Rattle.expander_session.specs.declared.commands.Answer.TheVariants.{Reply as Replied}
use Rattle.expander_session.specs.declared.commands.Command.{Command}
use Rattle.expander_session.specs.declared.commands.Command.TheVariants.{Expand}

pub same_meant : (m : Result ReadMeaning ReadFault) (a b : Option (List Looked)) (reply other : Reply) → IsMeant m a reply → IsMeant m b other → ShowTheSame reply other
same_meant (Ok m) a b (Read e) (Read f) h k = (h.printed ∙ sym k.printed, h.faults ∙ sym k.faults, h.origins ∙ sym k.origins)
same_meant (Ok m) a b (Read e) (Unread two) h k = absurd k
same_meant (Ok m) a b (Unread one) other h k = absurd h
same_meant (Err fault) a b (Read e) other h k = absurd h
same_meant (Err fault) a b (Unread one) (Read f) h k = absurd k
same_meant (Err fault) a b (Unread one) (Unread two) h k = h ∙ sym k

module _ (layers : Layers) (depth : ℕ) where
  -- no answers for a command more
  none_left : (text : List ℕ) (reads : List (List ℕ)) (commands : List Command) → AreAnswers layers depth text reads (commands ++ Expand ∷ []) [] → ⊥
  none_left text reads [] h = h
  none_left text reads (command ∷ commands) h = h

  -- no command for an answer more
  none_asked : (text : List ℕ) (reads : List (List ℕ)) (answers : List Answer) (last : Answer) → AreAnswers layers depth text reads [] (answers ++ last ∷ []) → ⊥
  none_asked text reads [] last h = h
  none_asked text reads (answer ∷ answers) last h = h

  -- the last reply is one to the text behind all commands before it
  last_reply : (text : List ℕ) (reads : List (List ℕ)) (commands : List Command) (answers : List Answer) (reply : Reply)
      → AreAnswers layers depth text reads (commands ++ Expand ∷ []) (answers ++ Replied reply ∷ [])
      → (earlier : Option (List Looked)) × IsReplyTo layers depth (last_text text commands answers) earlier reply
  last_reply text reads [] [] reply h = (last_looked layers depth reads, h.0)
  last_reply text reads [] (answer ∷ answers) reply h = absurd (none_asked (text_after text Expand answer) (reads_after text reads answer) answers (Replied reply) h.1)
  last_reply text reads (command ∷ commands) [] reply h = absurd (none_left (text_after text command (Replied reply)) (reads_after text reads (Replied reply)) commands h.1)
  last_reply text reads (command ∷ commands) (answer ∷ answers) reply h =
      last_reply (text_after text command answer) (reads_after text reads answer) commands answers reply h.1

  pub text_decides : (one two : List ℕ) (ones twos : List Command) (first second : List Answer) (reply other : Reply)
      → AreAnswers layers depth one [] (ones ++ Expand ∷ []) (first ++ Replied reply ∷ []) → AreAnswers layers depth two [] (twos ++ Expand ∷ []) (second ++ Replied other ∷ [])
      → last_text one ones first ≡ last_text two twos second → ShowTheSame reply other
  text_decides one two ones twos first second reply other h k same =
      let text : List ℕ = last_text two twos second in
      let one_is = last_reply one [] ones first reply h in
      let two_is = last_reply two [] twos second other k in
      same_meant (meaning layers depth text) one_is.0 two_is.0 reply other
      (subst (λ (t : List ℕ). IsReplyTo layers depth t one_is.0 reply) same one_is.1) two_is.1
