-- what the functions inside the crate promise each other, and those that call it
pub mod TextPieces
pub mod Changes
-- what crates above name too of those below
pub use Rattle.expander_sources.specs as expander_sources
