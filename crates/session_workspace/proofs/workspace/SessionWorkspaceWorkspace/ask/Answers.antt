use Rattle.std.proofs.Common.{◌≡◌, map, string_bytes, subst, List}
use Rattle.serde_json.specs.View.{view}
use Rattle.session_workspace.specs.OpenTexts.{IsFirst}
use Rattle.session_workspace.specs.Questions.{Answers, IsShort}
use Rattle.session_workspace.specs.declared.open_text.OpenText.{OpenText}
use Rattle.session_workspace.proofs.TextLemmas.{first_among, name_of_named, text_at}
use Rattle.session_workspace.proofs.workspace.SessionWorkspaceWorkspace.ask.Goals as goal

pub returns-clause-answered : goal.returns-clause-answered
returns-clause-answered g c =
    let first : IsFirst c.args.uri.now c.args.self.now.texts.items c.in-Some.i =
    subst (λ (ts : List OpenText). IsFirst c.args.uri.now ts c.in-Some.i)
    c.as_slice.ensures.value c.in-Some.ensures in
    let taken : c.index.result.now ≡ first.text =
    text_at c.args.self.now.texts.items c.in-Some.i c.index.result.now c.args.uri.now first
    first.within c.index.ensures in
    let named : string_bytes c.index.result.now.uri ≡ c.args.uri.now =
    name_of_named c.args.uri.now c.index.result.now (rw taken first.named) in
    let answered : IsShort c.index.result.now
    → Answers c.args.question c.args.uri.now (map string_bytes c.args.self.now.others.items)
    c.index.result.now (view c.in_ok-answer.answer) =
    rw (← c.as_slice-2.ensures.value, ← named) c.in_ok-answer.ensures in (
      first.text,
      first_among c.args.uri.now c.args.self.now.texts.items c.in-Some.i first,
      first.named,
      subst (λ (t : OpenText). IsShort t
          → Answers c.args.question c.args.uri.now (map string_bytes c.args.self.now.others.items)
          t (view c.in_ok-answer.answer)) taken answered,
    )
