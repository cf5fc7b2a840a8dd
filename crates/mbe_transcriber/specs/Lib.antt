-- what a transcriber gives, and how many tokens it puts out
pub mod Filling
pub mod Limits
pub mod Markers
pub mod Output
-- when a call is refused
pub mod Room
-- what the functions inside the crate promise each other, and the crate above
pub mod Putting
pub mod Uses
pub mod Given
pub mod Tasks
pub mod Walks
pub mod Counting
-- what crates above name too of those below
pub use Rattle.mbe_matcher.specs as mbe_matcher
