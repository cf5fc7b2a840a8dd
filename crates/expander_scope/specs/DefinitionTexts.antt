-- The definitions of a text so far, with their ids.
use Rattle.std.specs.Prelude.{◌≡◌, ℕ, List, map}
use Rattle.std.specs.Rc.{rc_value}
use Rattle.tt_data.specs.Forest.{Forest}
use Rattle.expander_scope.specs.Interning.{AreInTable, IsTable, numbers_in}
use Rattle.expander_scope.specs.DefinitionIds.{AreNumbered}
use Rattle.expander_scope.specs.declared.interner.Interner.{Interner}
use Rattle.expander_scope.specs.declared.macro_def.MacroDef.{MacroDef}
use Rattle.expander_scope.specs.declared.definition_ids.DefinitionIds as code

-- the trees of a definition
abbrev pub inner_of : MacroDef → Forest
inner_of k = k.tree.inner

-- these are the trees so far, given ids after those that had one before
pub record HasNumbered (old_given : ℕ) (old : Interner) (known trees : List Forest)
    (now : code.DefinitionIds) : Type 0 where
  pub numbers : AreNumbered old_given (numbers_in old) known trees now.given
      (numbers_in now.by_tree)
  pub trees_are : map (λ k. inner_of (rc_value k)) now.definitions.items ≡ trees
  pub table : IsTable now.by_tree
  pub listed : AreInTable now.by_tree now.definitions.items
