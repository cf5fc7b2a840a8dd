-- which rule fits an argument, and what it gives, in reading order
pub mod Fit
pub mod NoReading
pub mod Kept
pub mod Macros
pub mod MacroEquality
-- the result of a call, how many tokens rules put out for it, and when these are too many
pub mod Answers
pub mod Unfit
pub mod PutOut
pub mod Bursts
-- the definitions of the crates below that these use
pub use Rattle.mbe_transcriber.specs.mbe_matcher.Grammar
pub use Rattle.mbe_transcriber.specs.mbe_matcher.Units
pub use Rattle.mbe_transcriber.specs.mbe_matcher.Fragments
pub use Rattle.mbe_transcriber.specs.mbe_matcher.Paths
pub use Rattle.mbe_transcriber.specs.mbe_matcher.Readings
pub use Rattle.mbe_transcriber.specs.mbe_matcher.Bindings
pub use Rattle.mbe_transcriber.specs.mbe_matcher.Missing
pub use Rattle.mbe_transcriber.specs.mbe_matcher.Threads
pub use Rattle.mbe_transcriber.specs.mbe_matcher.Bound
pub use Rattle.mbe_transcriber.specs.mbe_matcher.Waiting
pub use Rattle.mbe_transcriber.specs.mbe_matcher.Positions
pub use Rattle.mbe_transcriber.specs.mbe_matcher.Places
pub use Rattle.mbe_transcriber.specs.mbe_matcher.Settled
pub use Rattle.mbe_transcriber.specs.mbe_matcher.Rounds
pub use Rattle.mbe_transcriber.specs.mbe_matcher.Ways
pub use Rattle.mbe_transcriber.specs.mbe_matcher.Going
pub use Rattle.mbe_transcriber.specs.mbe_matcher.Blocked
pub use Rattle.mbe_transcriber.specs.mbe_matcher.Collecting
pub use Rattle.mbe_transcriber.specs.Filling
pub use Rattle.mbe_transcriber.specs.Limits
pub use Rattle.mbe_transcriber.specs.Markers
pub use Rattle.mbe_transcriber.specs.Output
pub use Rattle.mbe_transcriber.specs.Room
pub use Rattle.mbe_transcriber.specs.Putting
pub use Rattle.mbe_transcriber.specs.Uses
pub use Rattle.mbe_transcriber.specs.Given
pub use Rattle.mbe_transcriber.specs.Tasks
pub use Rattle.mbe_transcriber.specs.Walks
-- what the functions inside the crate promise each other
pub mod Keys
pub mod FailureTasks
-- what crates above name too of those below
pub use Rattle.mbe_rules.specs as mbe_rules
pub use Rattle.mbe_transcriber.specs as mbe_transcriber
