-- What is wrong with a text, in one word. (Of this project.)
use Rattle.std.specs.Prelude.{ℕ, List, codes}
use Rattle.bridge.specs.declared.reading.outcome.ReadFaultKind.{ReadFaultKind}
use Rattle.bridge.specs.declared.reading.outcome.ReadFaultKind.TheVariants.{BadToken}
use Rattle.bridge.specs.declared.reading.outcome.ReadFaultKind.TheVariants.{CloserDoesNotFit}
use Rattle.bridge.specs.declared.reading.outcome.ReadFaultKind.TheVariants.{GroupLeftOpen}
use Rattle.expander_model.specs.declared.fault.FaultKind.{FaultKind}
use Rattle.expander_model.specs.declared.fault.FaultKind.TheVariants.{CannotExpand}
use Rattle.expander_model.specs.declared.fault.FaultKind.TheVariants.{BrokenDefinition}
use Rattle.expander_model.specs.declared.fault.FaultKind.TheVariants.{RecursionLimit}
use Rattle.expander_model.specs.declared.fault.FaultKind.TheVariants.{NestedDefinition}
use Rattle.expander_model.specs.declared.fault.FaultKind.TheVariants.{Unspellable, TooLarge}
use Rattle.expander_scope.specs.declared.refusal.Refusal.{Refusal}
use Rattle.expander_scope.specs.declared.refusal.Refusal.TheVariants.{Memory, Tokens, Numbers}

-- a kind of fault
abbrev pub kind_name : FaultKind → List ℕ
kind_name CannotExpand = codes "CannotExpand"
kind_name BrokenDefinition = codes "BrokenDefinition"
kind_name RecursionLimit = codes "RecursionLimit"
kind_name NestedDefinition = codes "NestedDefinition"
kind_name Unspellable = codes "Unspellable"
kind_name TooLarge = codes "TooLarge"

-- a kind of reading fault
abbrev pub read_kind_name : ReadFaultKind → List ℕ
read_kind_name BadToken = codes "BadToken"
read_kind_name CloserDoesNotFit = codes "CloserDoesNotFit"
read_kind_name GroupLeftOpen = codes "GroupLeftOpen"

-- why there is no reply
abbrev pub refusal_name : Refusal → List ℕ
refusal_name Memory = codes "Memory"
refusal_name Tokens = codes "Tokens"
refusal_name Numbers = codes "Numbers"
