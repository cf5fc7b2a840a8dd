use Rattle.std.specs.Prelude.{◌≡◌, map, take}
use Rattle.client_texts.specs.Texts.{after_changes}
use Rattle.client_texts.specs.Views.{change_view}
use Rattle.session_workspace.proofs.open_text.change.Given as given

-- the text after the changes so far; definitions stay
abbrev pub invariant-loop-change : given.invariant-loop-change
invariant-loop-change l =
    (l.session.text
    ≡ after_changes (map change_view (take l.change-index l.changes)) l.fn.session.text)
    × (l.session.prelude ≡ l.fn.session.prelude)
