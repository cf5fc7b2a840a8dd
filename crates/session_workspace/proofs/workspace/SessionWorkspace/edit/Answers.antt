use Rattle.std.proofs.Common.{◌≡◌, ◌∙◌, ap, inl, subst, w64, List, map}
use Rattle.std.proofs.lemmas.Int.{to_z-of_z}
use Rattle.std.specs.List.{insert}
use Rattle.client_texts.specs.Texts.{after_edit}
use Rattle.client_texts.specs.Views.{change_view}
use Rattle.session_workspace.specs.OpenTexts.{IsFirst, document_of, kept_of}
use Rattle.session_workspace.specs.declared.open_text.OpenText.{OpenText}
use Rattle.session_workspace.proofs.TextLemmas.{put_back, text_at}
use Rattle.session_workspace.proofs.workspace.SessionWorkspace.edit.Goals as goal

pub returns-clause-ok : goal.returns-clause-ok
returns-clause-ok g c =
    let first : IsFirst c.args.uri.now c.args.self.now.texts.items c.in-Some.i =
    subst (λ (ts : List OpenText). IsFirst c.args.uri.now ts c.in-Some.i)
    c.as_slice.ensures.value c.in-Some.ensures in
    let taken : c.remove-text.result ≡ first.text =
    text_at c.args.self.now.texts.items c.in-Some.i c.remove-text.result c.args.uri.now first
    first.within c.remove-text.ensures.value in
    let given = c.in_ok-edit.ensures.edited in
    let done : document_of c.edit.new.self
    ≡ after_edit c.args.version (map change_view c.args.changes.now)
    (document_of c.remove-text.result) =
    rw (to_z-of_z w64 c.args.version c.ranges.version) at given in
    inl record {
      i = c.in-Some.i;
      first = first;
      text = c.edit.new.self;
      placed = c.in_ok-insert.ensures.items
          ∙ ap (λ (ts : List OpenText). insert ts c.in-Some.i c.edit.new.self)
          c.remove-text.ensures.items
          ∙ put_back c.args.uri.now c.args.self.now.texts.items c.in-Some.i c.edit.new.self
          first;
      document = done
          ∙ ap (λ (t : OpenText). after_edit c.args.version
          (map change_view c.args.changes.now) (document_of t)) taken;
      kept = c.in_ok-edit.ensures.kept ∙ ap kept_of taken;
      unread = c.in_ok-edit.ensures.unread;
      prelude = c.in_ok-edit.ensures.prelude
          ∙ ap (λ (t : OpenText). t.session.prelude) taken;
    }
