-- what the public contracts rest on
pub mod Conditions
pub mod Strings
pub mod Options
pub mod Words
pub mod Misread
-- what the functions inside the crate promise each other
pub mod Lists
pub mod Parts
pub mod OpenLists
pub mod Attributes
pub mod StringSteps
-- what crates above name too of those below
pub use Rattle.small_grammar.specs as small_grammar
