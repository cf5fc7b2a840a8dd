-- Scripts of commands alone, and lists of commands.
use Rattle.std.proofs.Common.{◌≡◌, ℕ, ◌≤◌, ◌^◌, List, [], ◌∷◌, Option, None, refl, ap, map, sym, subst, ◌∙◌}
use Rattle.tt_data.specs.Forest.{Forest}
use Rattle.expander_model.specs.Meaning.{Layers, meaning}
use Rattle.expander_scope.specs.declared.refusal.Refusal.TheVariants.{Memory, Tokens, Numbers}
use Rattle.expander_session.specs.Answers.{AreAnswers, IsAnswer, given, last_looked, last_trees, reads_after, text_after}
use Rattle.expander_session.specs.Count.{Looked}
use Rattle.expander_session.specs.Replies.{IsReplyIn, given_in}
use Rattle.expander_session.specs.declared.commands.Answer.{Answer}
use Rattle.expander_session.specs.declared.commands.Answer.TheVariants.{Edited, BadEdit, Reply as Replied, Refused}
use Rattle.expander_session.specs.declared.commands.Command.{Command}
use Rattle.expander_session.specs.declared.commands.Command.TheVariants.{Edit, Expand}
use Rattle.expander_session.specs.declared.session.Reply.TheVariants.{Read, Unread}
use Rattle.replay_script.specs.Progress.{AreLineAnswers, IsCommandAnswer, Progress, Reading, given_to, looked_last, readings_after, trees_last}
use Rattle.replay_script.specs.declared.answer.LineAnswer.{LineAnswer}
use Rattle.replay_script.specs.declared.answer.LineAnswer.TheVariants as told
use Rattle.replay_script.specs.declared.line.Line.{Line}
use Rattle.replay_script.specs.declared.line.Line.TheVariants as asked

-- texts that were read by themselves
abbrev alone : List (List ℕ) → List Reading
alone reads = map (λ (t : List ℕ). record { prelude = []; text = t }) reads

-- where a script of commands stands, which began with no prelude
abbrev stood : List ℕ → List Reading → Progress
stood text readings = record { text = text; prelude = []; sources = λ n. None; readings = readings }

abbrev asked_all : List Command → List Line
asked_all commands = map asked.Command commands

abbrev told_all : List Answer → List LineAnswer
told_all answers = map told.Command answers

readings_same : (text : List ℕ) (reads : List (List ℕ)) (a : Answer) → readings_after (stood text (alone reads)) a ≡ alone (reads_after text reads a)
readings_same text reads Edited = refl
readings_same text reads BadEdit = refl
readings_same text reads (Replied (Read e)) = refl
readings_same text reads (Replied (Unread fault)) = refl
readings_same text reads (Refused refusal) = refl

module _ (layers : Layers) (depth : ℕ) where
  looked_same : (reads : List (List ℕ)) → looked_last layers depth (alone reads) ≡ last_looked layers depth reads
  looked_same [] = refl
  looked_same (t ∷ ts) = refl

  trees_same : (reads : List (List ℕ)) → trees_last layers depth (alone reads) ≡ last_trees layers depth reads
  trees_same [] = refl
  trees_same (t ∷ ts) = refl

  given_same : (reads : List (List ℕ)) → given_to layers depth (alone reads) ≡ given layers depth reads
  given_same [] = refl
  given_same (t ∷ ts) =
      ap (λ (n : ℕ). given_in n (trees_last layers depth (alone ts)) [] (meaning layers depth t)) (given_same ts)
      ∙ ap (λ (trees : List Forest). given_in (given layers depth ts) trees [] (meaning layers depth t)) (trees_same ts)

  -- the ids that a text needs
  needs_same : (text : List ℕ) (reads : List (List ℕ))
      → given_in (given_to layers depth (alone reads)) (trees_last layers depth (alone reads)) [] (meaning layers depth text)
      ≡ given_in (given layers depth reads) (last_trees layers depth reads) [] (meaning layers depth text)
  needs_same text reads =
      ap (λ (n : ℕ). given_in n (trees_last layers depth (alone reads)) [] (meaning layers depth text)) (given_same reads)
      ∙ ap (λ (trees : List Forest). given_in (given layers depth reads) trees [] (meaning layers depth text)) (trees_same reads)

  -- ---- one answer

  answer_is : (c : Command) (a : Answer) (text : List ℕ) (reads : List (List ℕ)) → IsCommandAnswer layers depth (stood text (alone reads)) c a
      → IsAnswer layers depth text reads c a
  answer_is (Edit m n r) Edited text reads h = h
  answer_is (Edit m n r) BadEdit text reads h = h
  answer_is (Edit m n r) (Refused Memory) text reads h = h
  answer_is (Edit m n r) (Refused Tokens) text reads h = absurd h
  answer_is (Edit m n r) (Refused Numbers) text reads h = absurd h
  answer_is (Edit m n r) (Replied reply) text reads h = absurd h
  answer_is Expand (Replied reply) text reads h =
      subst (λ (earlier : Option (List Looked)). IsReplyIn layers depth [] text earlier reply) (looked_same reads) h
  answer_is Expand (Refused Memory) text reads h = tt
  answer_is Expand (Refused Tokens) text reads h = h
  answer_is Expand (Refused Numbers) text reads h = subst (λ (n : ℕ). 2 ^ 32 ≤ n) (needs_same text reads) h
  answer_is Expand Edited text reads h = absurd h
  answer_is Expand BadEdit text reads h = absurd h

  answer_back : (c : Command) (a : Answer) (text : List ℕ) (reads : List (List ℕ)) → IsAnswer layers depth text reads c a
      → IsCommandAnswer layers depth (stood text (alone reads)) c a
  answer_back (Edit m n r) Edited text reads h = h
  answer_back (Edit m n r) BadEdit text reads h = h
  answer_back (Edit m n r) (Refused Memory) text reads h = h
  answer_back (Edit m n r) (Refused Tokens) text reads h = absurd h
  answer_back (Edit m n r) (Refused Numbers) text reads h = absurd h
  answer_back (Edit m n r) (Replied reply) text reads h = absurd h
  answer_back Expand (Replied reply) text reads h =
      subst (λ (earlier : Option (List Looked)). IsReplyIn layers depth [] text earlier reply) (sym (looked_same reads)) h
  answer_back Expand (Refused Memory) text reads h = tt
  answer_back Expand (Refused Tokens) text reads h = h
  answer_back Expand (Refused Numbers) text reads h = subst (λ (n : ℕ). 2 ^ 32 ≤ n) (sym (needs_same text reads)) h
  answer_back Expand Edited text reads h = absurd h
  answer_back Expand BadEdit text reads h = absurd h

  -- ---- all answers

  pub answers_are : (commands : List Command) (answers : List LineAnswer) (text : List ℕ) (reads : List (List ℕ))
      → AreLineAnswers layers depth (stood text (alone reads)) (asked_all commands) answers
      → (own : List Answer) × (answers ≡ told_all own) × AreAnswers layers depth text reads commands own
  answers_are [] [] text reads h = ([], refl, tt)
  answers_are [] (a ∷ answers) text reads h = absurd h
  answers_are (c ∷ commands) [] text reads h = absurd h
  answers_are (c ∷ commands) (told.Command a ∷ answers) text reads h =
      let later = answers_are commands answers (text_after text c a) (reads_after text reads a)
      (subst (λ (rs : List Reading). AreLineAnswers layers depth (stood (text_after text c a) rs) (asked_all commands) answers) (readings_same text reads a) h.1) in
      (a ∷ later.0, ap (λ (xs : List LineAnswer). told.Command a ∷ xs) later.1, (answer_is c a text reads h.0, later.2))
  answers_are (c ∷ commands) (told.Source n k ∷ answers) text reads h = absurd h.0
  answers_are (c ∷ commands) (told.Unread n t fault ∷ answers) text reads h = absurd h.0
  answers_are (c ∷ commands) (told.Prelude n ∷ answers) text reads h = absurd h.0
  answers_are (c ∷ commands) (told.BadPrelude ∷ answers) text reads h = absurd h.0
  answers_are (c ∷ commands) (told.Refused refusal ∷ answers) text reads h = absurd h.0

  pub answers_back : (commands : List Command) (own : List Answer) (text : List ℕ) (reads : List (List ℕ)) → AreAnswers layers depth text reads commands own
      → AreLineAnswers layers depth (stood text (alone reads)) (asked_all commands) (told_all own)
  answers_back [] [] text reads h = tt
  answers_back [] (a ∷ own) text reads h = absurd h
  answers_back (c ∷ commands) [] text reads h = absurd h
  answers_back (c ∷ commands) (a ∷ own) text reads h = (
    answer_back c a text reads h.0,
    subst (λ (rs : List Reading). AreLineAnswers layers depth (stood (text_after text c a) rs) (asked_all commands) (told_all own)) (sym (readings_same text reads a))
        (answers_back commands own (text_after text c a) (reads_after text reads a) h.1),
  )
