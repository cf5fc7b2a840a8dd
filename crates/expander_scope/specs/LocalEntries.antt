-- The definitions of the lists around a place: what each entry of their table is.
use Rattle.std.specs.Prelude.{◌≡◌, ℕ, All, List}
use Rattle.std.specs.Rc.{rc_value}
use Rattle.std.specs.declared.rc.Rc.{Rc}
use Rattle.std.specs.Global.{Global}
use Rattle.expander_scope.specs.NameStacks.{entries_of}
use Rattle.expander_scope.specs.Outcomes.{numbered_of_known}
use Rattle.expander_scope.specs.declared.macro_def.MacroDef.{MacroDef}
use Rattle.expander_scope.specs.declared.name_stack.NameStack.{NameStack}

-- a name, and the definition that it stands for
abbrev pub Local : Type 0
Local = List ℕ × Rc MacroDef Global

-- each has the name of its definition
abbrev pub AreNamed : NameStack (Rc MacroDef Global) → Type 0
AreNamed names = All (λ (e : Local). e.0 ≡ (numbered_of_known (rc_value e.1)).definition.name.sym)
    (entries_of names)

-- none has an id
abbrev pub AreOfLists : NameStack (Rc MacroDef Global) → Type 0
AreOfLists names = All (λ (e : Local). (rc_value e.1).number ≡ 0) (entries_of names)
