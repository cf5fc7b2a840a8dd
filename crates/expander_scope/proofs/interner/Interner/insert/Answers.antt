use Rattle.std.proofs.Common.{◌∙◌, ap}
use Rattle.std.specs.Prelude.{option_map}
use Rattle.std.specs.HashMap.{get_by}
use Rattle.std.specs.Rc.{rc_value, rc_with_value}
use Rattle.expander_scope.specs.Interning.{known_in}
use Rattle.expander_model.specs.EqualTrees.{same_top}
use Rattle.expander_scope.proofs.DefinitionTextLemmas.{known_updated}
use Rattle.expander_scope.proofs.interner.Interner.insert.Goals as goal

pub returns : goal.returns
unfolding known_in
returns c = λ t.
    ap (option_map rc_value) (c.in_ok-insert.ensures.updates.0 (rc_with_value c.args.tree t))
    ∙ known_updated rc_value (same_top c.args.tree.value t) c.args.known (get_by (λ k. same_top t k.value) c.args.self.now.map)
