-- what the public contracts say
pub mod Homes
pub mod Rooting
pub mod Sources
pub mod SourceReads
pub mod Picks
-- what the functions inside the crate promise each other
pub mod Imports
pub mod SourceItems
pub mod Builds
-- what crates above name too of those below
pub use Rattle.expander_model.specs as expander_model
