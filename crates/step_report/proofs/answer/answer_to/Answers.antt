use Rattle.std.proofs.Common.{[]}
use Rattle.bridge.specs.TokenSteps.{text_reading}
use Rattle.expander_model.specs.Meaning.{definitions_after}
use Rattle.expander_trace.specs.Steps.{rewrites}
use Rattle.step_report.specs.Bound.{context_by}
use Rattle.step_report.specs.Texts.{texts_in}
use Rattle.step_report.proofs.AnswerLemmas.{unread}
use Rattle.step_report.proofs.answer.answer_to.Goals as goal

pub returns-in-Unread-clause-told : goal.returns-in-Unread-clause-told
returns-in-Unread-clause-told g c =
    let t = texts_in c.args.texts.now in
    unread (context_by t (g.G.FragmentGrammar.answer c.args.by.now.grammar.now) c.args.by.now.edition)
    c.args.question
    (rewrites (g.G.FragmentGrammar.answer c.args.by.now.grammar.now) c.args.by.now.edition)
    c.args.by.now.dialect.now c.args.by.now.depth (definitions_after [] c.args.prelude.now)
    c.at_of-at.result (text_reading t.text) c.in-Unread.fault c.at_of-at.ensures
    (rw c.in-Unread.is at c.in_ok-fault.ensures.traced)
