-- The codes: their numbers, by which C knows them, and those of a session's refusals.
use Rattle.std.specs.Prelude.{ℕ}
use Rattle.expander_scope.specs.declared.refusal.Refusal.{Refusal}
use Rattle.expander_scope.specs.declared.refusal.Refusal.TheVariants as why
use Rattle.filgordd_c.specs.declared.code.Code.{Code}
use Rattle.filgordd_c.specs.declared.code.Code.TheVariants.{Done, Unread, Memory, Tokens, Numbers}
use Rattle.filgordd_c.specs.declared.code.Code.TheVariants.{Closed, Utf8, Length, Edition, Grammar}
use Rattle.filgordd_c.specs.declared.code.Code.TheVariants.{Boundary, Range, Nothing, Index, Room}
use Rattle.filgordd_c.specs.declared.code.Code.TheVariants.{Root, Source, Scope, Cfg}

abbrev pub number : Code → ℕ
number Done = 0
number Unread = 1
number Memory = 2
number Tokens = 3
number Numbers = 4
number Closed = 5
number Utf8 = 6
number Length = 7
number Edition = 8
number Grammar = 9
number Boundary = 10
number Range = 11
number Nothing = 12
number Index = 13
number Room = 14
number Root = 16
number Source = 17
number Scope = 18
number Cfg = 19

abbrev pub refused : Refusal → Code
refused why.Memory = Memory
refused why.Tokens = Tokens
refused why.Numbers = Numbers
