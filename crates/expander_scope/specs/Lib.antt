-- what the contracts of `Session` rest on
pub mod Refusals
pub mod NewNumbers
-- what the functions inside the crate promise each other
pub mod Numbers
pub mod MacroDefs
pub mod Outcomes
pub mod Editions
pub mod OffsetTables
pub mod ScopeTable
pub mod Sinks
pub mod Expanding
pub mod StackEntries
pub mod NameStacks
pub mod LocalEntries
pub mod LocalTables
pub mod Leaving
pub mod ListsLeft
pub mod Spending
pub mod Turns
pub mod DefinitionIds
pub mod Interning
pub mod DefinitionTexts
pub mod NameTables
-- what crates above name too of those below
pub use Rattle.textual_scope.specs as textual_scope
