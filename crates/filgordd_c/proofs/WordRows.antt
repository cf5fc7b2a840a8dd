-- The number of each code and of each kind leads back to it; words and positions, worked out.
use Rattle.std.proofs.Common.{◌≡◌, [], ◌∷◌, refl}
use Rattle.std.specs.Prelude.{Some, None, codes}
use Rattle.bridge.specs.declared.reading.outcome.ReadFaultKind.{ReadFaultKind}
use Rattle.bridge.specs.declared.reading.outcome.ReadFaultKind.TheVariants as reads
use Rattle.expander_model.specs.declared.fault.FaultKind.{FaultKind}
use Rattle.expander_model.specs.declared.fault.FaultKind.TheVariants as kinds
use Rattle.filgordd_c.specs.Answered.{kind_number, read_kind_number}
use Rattle.filgordd_c.specs.Codes.{number}
use Rattle.filgordd_c.specs.Words.{code_of, kind_of, position_in, read_kind_of, words_of_code, words_of_kind}
use Rattle.filgordd_c.specs.declared.code.Code.{Code}
use Rattle.filgordd_c.specs.declared.code.Code.TheVariants as code

code_of-number : (c : Code) → code_of (number c) ≡ Some c
code_of-number code.Done = refl
code_of-number code.Unread = refl
code_of-number code.Memory = refl
code_of-number code.Tokens = refl
code_of-number code.Numbers = refl
code_of-number code.Closed = refl
code_of-number code.Utf8 = refl
code_of-number code.Length = refl
code_of-number code.Edition = refl
code_of-number code.Grammar = refl
code_of-number code.Boundary = refl
code_of-number code.Range = refl
code_of-number code.Nothing = refl
code_of-number code.Index = refl
code_of-number code.Room = refl
code_of-number code.Root = refl
code_of-number code.Source = refl
code_of-number code.Scope = refl
code_of-number code.Cfg = refl

kind_of-number : (k : FaultKind) → kind_of (kind_number k) ≡ Some k
kind_of-number kinds.CannotExpand = refl
kind_of-number kinds.BrokenDefinition = refl
kind_of-number kinds.RecursionLimit = refl
kind_of-number kinds.NestedDefinition = refl
kind_of-number kinds.Unspellable = refl
kind_of-number kinds.TooLarge = refl

read_kind_of-number : (k : ReadFaultKind) → read_kind_of (read_kind_number k) ≡ Some k
read_kind_of-number reads.BadToken = refl
read_kind_of-number reads.CloserDoesNotFit = refl
read_kind_of-number reads.GroupLeftOpen = refl

-- the number of a null pointer, which no call answers, has words
of_null : words_of_code 15 ≡ Some (codes "a pointer is NULL")
of_null = refl

-- a number of no kind has none
of_no_kind : words_of_kind 6 ≡ None
of_no_kind = refl

-- behind a line feed a column is 1; a character of two bytes counts two columns
a_position : position_in (97 ∷ 10 ∷ 195 ∷ 169 ∷ 98 ∷ []) 4 ≡ record { line = 2; column = 3 }
a_position = refl
