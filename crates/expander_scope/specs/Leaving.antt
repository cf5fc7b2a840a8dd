-- What is left of a group: the list around it goes on.
use Rattle.std.specs.Prelude.{◌≡◌, true, false, length, List, ◌++◌, reverse}
use Rattle.bridge.specs.Text.{is_visible}
use Rattle.tt_data.specs.declared.delimiter.DelimiterKind.{DelimiterKind}
use Rattle.expander_model.specs.Definitions.{Definition}
use Rattle.expander_scope.specs.LocalTables.{locals_of}
use Rattle.expander_scope.specs.declared.list_walk.Level.{Level}
use Rattle.expander_scope.specs.declared.list_walk.ListWalk.{ListWalk}
use Rattle.expander_scope.specs.declared.locals.Locals.{Locals}

-- the list around a group goes on as its level says; what a visible group defined is gone
pub record Leaves (kind : DelimiterKind) (level : Level) (rest : List Level) (old : Locals)
    (after : ListWalk) (new : Locals) : Type 0 where
  pub levels : reverse after.levels.items ≡ rest
  pub begun : after.begun ≡ level.begun
  pub standing : after.standing ≡ level.standing
  pub let_out : is_visible kind ≡ false → new ≡ old
  pub cut_back : is_visible kind ≡ true → (front back : List Definition)
      → locals_of old ≡ front ++ back
      → length back ≡ level.locals → locals_of new ≡ back
