-- Definitions whose identifiers are all of one edition.
use Rattle.std.specs.Prelude.{◌≡◌}
use Rattle.expander_model.specs.mbe.Macros.{rules_of}
use Rattle.tt_data.specs.declared.edition.Edition.{Edition}
use Rattle.expander_model.specs.Held.{anchored_definition}
use Rattle.expander_scope.specs.Outcomes.{numbered_of_known}
use Rattle.expander_model.specs.World.{rules_in}
use Rattle.expander_scope.specs.declared.macro_def.MacroDef.{MacroDef}

-- a definition has the rules that are parsed from it, all its identifiers being of this edition
abbrev pub IsRead : Edition → MacroDef → Type 0
IsRead edition k = rules_of k.rules ≡ rules_in edition (anchored_definition (numbered_of_known k))
