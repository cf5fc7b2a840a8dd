-- Why the faults of a text are there, as JSON values. (RFC 8259; of this project: the members.)
use Rattle.std.specs.Prelude.{◌≡◌, ◌≢◌, ◌⊎◌, ℕ, List, ◌++◌, codes, drop, map, take}
use Rattle.std.specs.Prelude.{Option, Some, None, Result, Ok, Err}
use Rattle.std.specs.List.{AllZip}
use Rattle.serde_json.specs.Data.{Data, string, array, object, member, no_members}
use Rattle.serde_json.specs.View.{items_of, view}
use Rattle.mbe.specs.Grammar.{Grammar}
use Rattle.expander_model.specs.declared.fault.Fault.{Fault}
use Rattle.expander_model.specs.declared.fault.FaultKind.TheVariants.{CannotExpand}
use Rattle.expander_run.specs.Lines.{fault_words}
use Rattle.call_messages.specs.declared.known.Known.{Known}
use Rattle.call_messages.specs.declared.unfit.Unfit.{Unfit}
use Rattle.call_messages.specs.declared.unfit.Unfit.TheVariants.{Fits, Unknown}
use Rattle.call_json.specs.Places.{count, place}
use Rattle.call_json.specs.Whys.{IsWhy}
use Rattle.call_json.specs.declared.why.Why.{Why}
use Rattle.reply_json.specs.Lines.{answer, fault, kind_name, told, version}

-- how many faults are explained
abbrev pub most : ℕ
most = 100

-- why nothing is said of a call's rules
abbrev pub unfit_name : Unfit → List ℕ
unfit_name Fits = codes "RuleFits"
unfit_name Unknown = codes "Unknown"

-- a fault, with what was found of its call: how all rules stop, where none fits; why nothing is said
-- of them; or nothing, where the fault is of another kind
abbrev pub explained : List ℕ → Fault → Option (Result Why Unfit) → Data
explained text f None = fault text f
explained text f (Some (Err unfit)) =
    object (told (place text f.range) (kind_name f.kind) (fault_words f.kind)
    (member (codes "why") (string (unfit_name unfit)) no_members))
explained text f (Some (Ok why)) =
    object (member (codes "at") (place text f.range)
    (member (codes "definition") (view why.definition)
    (member (codes "kind") (string (kind_name f.kind))
    (member (codes "message") (string (fault_words f.kind))
    (member (codes "nearest") (count why.nearest)
    (member (codes "rules") (view why.rules)
    (member (codes "why") (string (codes "NoRuleFits")) no_members)))))))

-- what is found of a call: no definition that is known, or how the rules of one take the argument
abbrev pub IsFoundAt : Grammar → List ℕ → Result Why Unfit → Type 0
IsFoundAt gr text found = (found ≡ Err Unknown) ⊎ ((known : Known) × IsWhy gr text known found)

-- what is found of the call of a fault, if that is its kind
abbrev pub IsFound : Grammar → List ℕ → Fault → Option (Result Why Unfit) → Type 0
IsFound gr text f None = f.kind ≢ CannotExpand
IsFound gr text f (Some found) = (f.kind ≡ CannotExpand) × IsFoundAt gr text found

-- a value says why a fault is there
abbrev pub Explains : Grammar → List ℕ → Fault → Data → Type 0
Explains gr text f d =
    (found : Option (Result Why Unfit)) × IsFound gr text f found × (d ≡ explained text f found)

-- the first faults are explained, and the others are named
abbrev pub AreExplained : Grammar → List ℕ → List Fault → List Data → Type 0
AreExplained gr text fs ds =
    (first : List Data) × AllZip (Explains gr text) (take most fs) first
    × (ds ≡ first ++ map (fault text) (drop most fs))

-- the explanation of faults, by their values
abbrev pub explanation : List Data → Data
explanation ds =
    object (answer (codes "explanation") (member (codes "faults") (array (items_of ds)) version))
