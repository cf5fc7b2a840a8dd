-- what the contracts and the definitions of the crates above use
pub mod Forest
pub mod Walk
pub mod Delimiters
pub mod Spans
pub mod Names
pub mod Literals
pub mod Lent
pub mod Displayed
pub mod Editions
-- a forest and its flat list give each other back
pub mod Flat
pub mod Coded
-- why a call is refused
pub use Rattle.symbols.specs.declared.fault
