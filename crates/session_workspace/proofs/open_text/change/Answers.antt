use Rattle.std.proofs.Common.{arith, ◌≡◌, ◌∙◌, ap, refl}
use Rattle.any_grammar.specs.declared.chosen.AnyGrammar.{AnyGrammar}
use Rattle.client_texts.specs.Texts.{replaced}
use Rattle.expander_session.specs.State.{State}
use Rattle.session_workspace.proofs.FaultLemmas.{more_changed}
use Rattle.session_workspace.proofs.open_text.change.Goals as goal

pub loop-change-preserved : goal.loop-change-preserved
loop-change-preserved c =
    let made : c.edit.new.self.text ≡ replaced c.loop-change.session.text
    c.edit_of-edit.result.start c.edit_of-edit.result.«end» c.edit_of-edit.result.new.now =
    rw c.in_ok-edit.ensures.ok refl in
    let edit = c.edit_of-edit.ensures.edit in (
      more_changed c.args.changes.now c.loop-change.change-index _ c.args.session.now.text
          c.loop-change.session.text c.edit.new.self.text (omega arith)
          c.loop-change.invariant.0 (made ∙ rw c.text.ensures at edit),
      ap (λ (s : State AnyGrammar). s.prelude) c.in_ok-edit.ensures.ok
          ∙ c.loop-change.invariant.1,
    )

pub returns-then-not-fits-clause-prelude : goal.returns-then-not-fits-clause-prelude
returns-then-not-fits-clause-prelude c = c.loop-change.invariant.1

pub returns-in_err-edit-clause-prelude : goal.returns-in_err-edit-clause-prelude
returns-in_err-edit-clause-prelude c =
    ap (λ (s : State AnyGrammar). s.prelude) c.in_err-edit.ensures.err ∙ c.loop-change.invariant.1

pub returns-clause-prelude : goal.returns-clause-prelude
returns-clause-prelude c = c.loop-change.invariant.1
