use Rattle.std.specs.Prelude.{◌≡◌, drop, map}
use Rattle.serde_json.specs.View.{items_view}
use Rattle.client_texts.specs.Params.{changes_of}
use Rattle.client_texts.specs.Views.{change_view}
use Rattle.client_texts.proofs.ChangeLemmas.{with_front}
use Rattle.client_texts.proofs.change.changes_of.Given as given

-- the changes so far and those of the rest are all
abbrev pub invariant-loop-value : given.invariant-loop-value
invariant-loop-value l =
    with_front (map change_view l.changes.items)
    (changes_of (items_view (drop l.value-index l.values)))
    ≡ changes_of (items_view l.values)
