-- The definitions of the lists around a place, as the code has them.
use Rattle.std.specs.Prelude.{All, List, map}
use Rattle.std.specs.Rc.{rc_value}
use Rattle.tt_data.specs.declared.edition.Edition.{Edition}
use Rattle.expander_model.specs.Definitions.{Definition}
use Rattle.expander_scope.specs.Editions.{IsRead}
use Rattle.expander_scope.specs.LocalEntries.{Local}
use Rattle.expander_scope.specs.NameStacks.{entries_of}
use Rattle.expander_scope.specs.Outcomes.{numbered_of_known}
use Rattle.expander_scope.specs.declared.locals.Locals.{Locals}

-- the definitions, the nearest first
abbrev pub locals_of : Locals → List Definition
locals_of l = map (λ (e : Local). (numbered_of_known (rc_value e.1)).definition)
    (entries_of l.names)

-- each has its rules, its identifiers being of this edition
abbrev pub AreReadIn : Edition → Locals → Type 0
AreReadIn edition l = All (λ (e : Local). IsRead edition (rc_value e.1)) (entries_of l.names)
