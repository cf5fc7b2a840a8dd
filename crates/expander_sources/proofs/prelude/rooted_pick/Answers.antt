use Rattle.std.proofs.Common.{◌≡◌, ℕ, List, ◌∙◌, ap, sym}
use Rattle.std.specs.Prelude.{codes}
use Rattle.bridge.specs.RelativeSpans.{moved_to}
use Rattle.std.specs.Rc.{rc_value}
use Rattle.tt.specs.Tops.{Top}
use Rattle.expander_model.specs.Calls.{key_behind}
use Rattle.expander_sources.specs.Homes.{root_of}
use Rattle.expander_sources.specs.Imports.{import_piece}
use Rattle.expander_sources.specs.Picks.{home_piece, rooted_pick}
use Rattle.expander_model.specs.Definitions.{has_attribute}
use Rattle.expander_sources.proofs.ImportLemmas.{pick_builtin, pick_other}
use Rattle.expander_sources.proofs.PartLemmas.{has_attribute-with}
use Rattle.expander_sources.proofs.prelude.rooted_pick.Goals as goal

pub returns-then-has_attribute-clause-piece : goal.returns-then-has_attribute-clause-piece
returns-then-has_attribute-clause-piece c =
    pick_builtin c.args.root.now.root c.args.home.now c.item.inside.modules.items (import_piece c.item.inside.import) c.item.inside.name c.item.invariant.named
    (has_attribute-with (moved_to c.item.inside.import.place) (codes "rustc_builtin_macro") (rc_value c.item.inside.import.tree).inner
    ∙ ap (has_attribute (codes "rustc_builtin_macro")) (sym (c.iter-tree.ensures ∙ ap (λ (t : Top). t.inner) (c.tree.ensures ∙ c.as_ref.ensures)))
    ∙ sym c.has_attribute.ensures ∙ c.if-has_attribute.true)
    ∙ ap (rooted_pick c.args.root.now.root c.args.home.now) c.item.view_is

pub returns-clause-piece : goal.returns-clause-piece
returns-clause-piece c =
    let key_is : c.in_ok-key.key ≡ key_behind (root_of c.args.root.now.root) c.item.inside.name =
    c.in_ok-key.ensures.key
    ∙ ap (λ (t : List ℕ). key_behind t c.as_str-2.result.now) (c.as_str.ensures.value ∙ c.in_ok-mark.ensures)
    ∙ ap (key_behind (root_of c.args.root.now.root)) c.as_str-2.ensures in
    pick_other c.args.root.now.root c.args.home.now c.item.inside.modules.items (import_piece c.item.inside.import) c.item.inside.name c.item.invariant.named
    (has_attribute-with (moved_to c.item.inside.import.place) (codes "rustc_builtin_macro") (rc_value c.item.inside.import.tree).inner
    ∙ ap (has_attribute (codes "rustc_builtin_macro")) (sym (c.iter-tree.ensures ∙ ap (λ (t : Top). t.inner) (c.tree.ensures ∙ c.as_ref.ensures)))
    ∙ sym c.has_attribute.ensures ∙ c.if-has_attribute.false)
    (import_piece c.in_ok-home_import.field-0)
    (λ d e. c.in_ok-home_import.ensures.piece d e ∙ ap (λ (k : List ℕ). home_piece c.args.home.now k d) key_is)
    ∙ ap (rooted_pick c.args.root.now.root c.args.home.now) c.item.view_is
