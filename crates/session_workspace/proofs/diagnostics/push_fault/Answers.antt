use Rattle.std.proofs.Common.{◌≡◌, ◌∙◌, ◌++◌, ◌∷◌, [], ap, map, sym, true}
use Rattle.std.proofs.lemmas.List.{map-append}
use Rattle.serde_json.specs.Data.{Data}
use Rattle.serde_json.specs.View.{view}
use Rattle.session_workspace.specs.Diagnostics.{is_shown}
use Rattle.session_workspace.proofs.FaultLemmas.{shown_one}
use Rattle.session_workspace.proofs.diagnostics.push_fault.Goals as goal

pub returns-in_ok-push-clause-added : goal.returns-in_ok-push-clause-added
returns-in_ok-push-clause-added c =
    let is : is_shown c.args.fault.now.kind ≡ true = sym c.is_shown.ensures ∙ c.if-is_shown.true in
    rw (shown_one c.args.text.now c.args.fault.now is) (ap (map view) c.in_ok-push.ensures.items
    ∙ map-append view c.args.all.now.items (c.in_ok-value.value ∷ [])
    ∙ ap (λ (d : Data). map view c.args.all.now.items ++ d ∷ []) c.in_ok-value.ensures.value)
