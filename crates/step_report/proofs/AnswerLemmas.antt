-- Answers, by what is found in a text.
use Rattle.std.proofs.Common.{◌≡◌, ℕ, List, subst}
use Rattle.std.specs.Prelude.{Option, Result, Ok, Err}
use Rattle.tt_data.specs.Forest.{Forest}
use Rattle.bridge.specs.declared.reading.outcome.ReadFault.{ReadFault}
use Rattle.expander_model.specs.Definitions.{Definition}
use Rattle.expander_model.specs.declared.dialect.Dialect.{Dialect}
use Rattle.expander_trace.specs.Steps.{Rewrites}
use Rattle.expander_trace.specs.Texts.{IsTracedIn}
use Rattle.expander_trace.specs.declared.text_trace.Found.{Found}
use Rattle.expander_trace.specs.declared.text_trace.Found.TheVariants as found
use Rattle.step_report.specs.Answers.{IsAnswerTo, at_of, traces_in}
use Rattle.step_report.specs.Bound.{Context}
use Rattle.step_report.specs.declared.answer.Answer.TheVariants.{Unread}
use Rattle.step_report.specs.declared.answer.Question.{Question}

module _ (t : Context) (q : Question) (by : Rewrites Definition) (dialect : Dialect) (depth : ℕ)
    (initial : List Definition) where
  -- what is found at the byte of a question
  asked : (at : Option ℕ) (read : Result Forest ReadFault) (is : Found) → at ≡ at_of q.asked
      → IsTracedIn by dialect depth at q.limits initial read is
      → IsTracedIn by dialect depth (at_of q.asked) q.limits initial read is
  asked at read is same =
      subst (λ (o : Option ℕ). IsTracedIn by dialect depth o q.limits initial read is) same

  unread_at : (read : Result Forest ReadFault) (fault : ReadFault)
      → IsTracedIn by dialect depth (at_of q.asked) q.limits initial read (found.Unread fault)
      → IsAnswerTo t q (traces_in by dialect depth q initial) read (Unread fault)
  unread_at (Err other) fault same = same
  unread_at (Ok f) fault never = absurd never

  -- a text that cannot be read is told of so
  pub unread : (at : Option ℕ) (read : Result Forest ReadFault) (fault : ReadFault)
      → at ≡ at_of q.asked
      → IsTracedIn by dialect depth at q.limits initial read (found.Unread fault)
      → IsAnswerTo t q (traces_in by dialect depth q initial) read (Unread fault)
  unread at read fault same is = unread_at read fault (asked at read (found.Unread fault) same is)
