use Rattle.std.proofs.Common.{◌∙◌, [], List, ℕ, ap, sym}
use Rattle.std.specs.Prelude.{Some, option_map}
use Rattle.std.proofs.lemmas.Result.{IfOk-weaker}
use Rattle.expander_sources.specs.Imports.{import_piece}
use Rattle.expander_sources.specs.Picks.{home_piece, picked}
use Rattle.expander_sources.specs.Sources.{Item}
use Rattle.expander_sources.proofs.ImportLemmas.{pick_named}
use Rattle.expander_sources.proofs.prelude.picked.Goals as goal

pub returns-in_ok-clone-in-Some-clause-piece : goal.returns-in_ok-clone-in-Some-clause-piece
returns-in_ok-clone-in-Some-clause-piece c =
    IfOk-weaker c.home_import.result _ _
    (λ i h. pick_named [] c.in-Some.home.now c.item.inside.modules.items (import_piece c.item.inside.import) c.item.inside.name c.item.invariant.named (import_piece i)
    (λ d e. h d e ∙ ap (λ (k : List ℕ). home_piece c.in-Some.home.now k d) c.in_ok-clone-in-Some.ensures.cases)
    ∙ ap (λ (x : Item). picked (Some c.in-Some.home.now) x.piece) c.item.view_is
    ∙ ap (λ o. picked (option_map (λ b. b.now) o) c.args.item.now.piece) (sym c.in-Some.is))
    c.home_import.ensures.piece
