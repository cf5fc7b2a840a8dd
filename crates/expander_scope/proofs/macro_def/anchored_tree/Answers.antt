use Rattle.std.proofs.Common.{rules, ◌∙◌, ap}
use Rattle.std.proofs.lemmas.Fn.{always_returns_same}
use Rattle.tt.specs.Tops.{Top}
use Rattle.tt_data.specs.Forest.{map_spans}
use Rattle.expander_model.specs.Held.{anchor_by, anchored}
use Rattle.expander_scope.proofs.macro_def.anchored_tree.Goals as goal

pub returns-clause-tree : goal.returns-clause-tree
returns-clause-tree c =
    ap (λ (t : Top). t.inner) (c.in_ok-change_every_ast_id.ensures.by_rule (λ a. anchor_by c.args.number a) (always_returns_same _ _ _ (λ a r f called. search rules)))
    ∙ ap (λ (t : Top). map_spans (anchored c.args.number) t.inner) c.in_ok-copy.ensures.ok
