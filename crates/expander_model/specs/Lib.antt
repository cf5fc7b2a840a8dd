-- what a text means, in reading order
pub mod Pieces
pub mod PieceStates
pub mod Definitions
pub mod Calls
pub mod Expansion
pub mod Scoping
pub mod Limits
pub mod Dialects
pub mod Printing
pub mod Faults
pub mod Meaning
-- what the meaning of a text is built on
pub mod EditionMarks
pub mod World
-- what conditional compilation leaves out
pub mod WholeItems
-- what the count of pieces and the laws rest on
pub mod EqualTrees
pub mod CallSteps
pub mod Beginnings
pub mod Changes
pub mod OtherPlaces
pub mod DefinitionTrees
-- what the functions inside the crate promise each other
pub mod Held
pub mod HashedTrees
pub mod Splitting
pub mod ItemSteps
pub mod WalkSteps
-- what crates above name too of those below
pub use Rattle.mbe.specs as mbe
pub use Rattle.cfg_options.specs as cfg_options
